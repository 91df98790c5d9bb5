-- Each place that left the output was dropped, handed out or swept, and only one of them.
use Rattle.std.proofs.Common.{◌≡◌, ℕ, zero, suc, ◌+◌, Bool, true, false, List, [], ◌∷◌, ◌++◌, length, replicate, refl, sym, ap, ◌∙◌, arith, length-append}
use Rattle.std.specs.Prelude.{not}
use Rattle.std.proofs.lemmas.List.{length-replicate}
use Rattle.board_machine.specs.declared.events.Entry.{Entry}
use Rattle.board_machine.specs.declared.events.Event.{Event}
use Rattle.board_machine.specs.declared.events.Event.TheVariants.{Take, SweepOut}
use Rattle.board_machine.specs.declared.events.TakeEnd.TheVariants.{Taken, Empty, Closed}
use Rattle.board_machine.specs.Places.{times}
use Rattle.board_machine.specs.Machine.{Item, places}
use Rattle.board_machine.specs.Histories.{Run}
use Rattle.board_machine.specs.Handout.{removed_by, removed, marks_by, marks, marked, removed_items}
use Rattle.board_machine.proofs.Handouts.{length-places, run_removed}
use Rattle.board_machine.proofs.Handed.{length-marks}
use Rattle.board_calls.specs.Dropped.{others, sweeps_by, sweep_marks, is_one, ExactlyOne}
use Rattle.board_calls.specs.Laws.{IsSplit}

length-sweeps_by : (event : Event) → length (sweeps_by event) ≡ length (removed_by event)
length-sweeps_by (Take (Taken i)) = refl
length-sweeps_by (Take Empty) = refl
length-sweeps_by (Take Closed) = refl
length-sweeps_by (SweepOut is) = length-replicate (length is) true
length-sweeps_by _ = refl

length-sweep_marks : (h : List Entry) → length (sweep_marks h) ≡ length (removed h)
length-sweep_marks [] = refl
length-sweep_marks (e ∷ h) =
    omega (arith, length-append (sweeps_by e.event) (sweep_marks h), length-append (removed_by e.event) (removed h), length-sweeps_by e.event, length-sweep_marks h)

-- one of a test and its opposite
taken_once : (x : Bool) → is_one x (not x) false ≡ true
taken_once true = refl
taken_once false = refl

swept_once : (n : ℕ) → ExactlyOne (replicate n false) (replicate n false) (replicate n true)
swept_once zero = tt
swept_once (suc n) = (refl, swept_once n)

once_by : (acquires : ℕ → Bool) (k : ℕ) (event : Event) → ExactlyOne (marks_by acquires k event) (marks_by (others acquires) k event) (sweeps_by event)
once_by acquires k (Take (Taken i)) = (taken_once (acquires k), tt)
once_by acquires k (Take Empty) = tt
once_by acquires k (Take Closed) = tt
once_by acquires k (SweepOut is) = swept_once (length is)
once_by acquires k _ = tt

once-append : (ms ns os xs ys zs : List Bool) → ExactlyOne ms ns os → ExactlyOne xs ys zs → ExactlyOne (ms ++ xs) (ns ++ ys) (os ++ zs)
once-append [] [] [] xs ys zs once more = more
once-append (a ∷ ms) (b ∷ ns) (c ∷ os) xs ys zs once more = (once.0, once-append ms ns os xs ys zs once.1 more)
once-append ms ns os xs ys zs never more = absurd never

once : (acquires : ℕ → Bool) (h : List Entry) → ExactlyOne (marks acquires h) (marks (others acquires) h) (sweep_marks h)
once acquires [] = tt
once acquires (e ∷ h) =
    once-append (marks_by acquires e.by e.event) (marks_by (others acquires) e.by e.event) (sweeps_by e.event) (marks acquires h)
    (marks (others acquires) h) (sweep_marks h) (once_by acquires e.by e.event) (once acquires h)

-- the marked ones of three such lists are all, each once
counted : (ms ns os : List Bool) (xs : List Item) (i : ℕ) → ExactlyOne ms ns os → length ms ≡ length xs
    → times i (places (marked ms xs)) + times i (places (marked ns xs)) + times i (places (marked os xs)) ≡ times i (places xs)
counted [] [] [] [] i once e = refl
counted [] [] [] (x ∷ xs) i once e = absurd (omega arith)
counted (a ∷ ms) (b ∷ ns) (c ∷ os) [] i once e = absurd (omega arith)
counted (true ∷ ms) (false ∷ ns) (false ∷ os) (x ∷ xs) i once e = omega (arith, counted ms ns os xs i once.1 (omega arith))
counted (false ∷ ms) (true ∷ ns) (false ∷ os) (x ∷ xs) i once e = omega (arith, counted ms ns os xs i once.1 (omega arith))
counted (false ∷ ms) (false ∷ ns) (true ∷ os) (x ∷ xs) i once e = omega (arith, counted ms ns os xs i once.1 (omega arith))
counted (true ∷ ms) (true ∷ ns) (c ∷ os) (x ∷ xs) i once e = let never = once.0 in absurd (cc)
counted (true ∷ ms) (false ∷ ns) (true ∷ os) (x ∷ xs) i once e = let never = once.0 in absurd (cc)
counted (false ∷ ms) (true ∷ ns) (true ∷ os) (x ∷ xs) i once e = let never = once.0 in absurd (cc)
counted (false ∷ ms) (false ∷ ns) (false ∷ os) (x ∷ xs) i once e = let never = once.0 in absurd (cc)
counted ms ns os xs i never e = absurd never

pub split : (acquires : ℕ → Bool) (h : List Entry) → Run h → IsSplit acquires h
split acquires h run =
    let fills = run_removed h run in
    let wide : length (marks acquires h) ≡ length (removed_items h) = length-marks acquires h ∙ sym (ap length fills) ∙ length-places (removed_items h) in
    record {
      wide = length-sweep_marks h;
      once = once acquires h;
      counted = λ i.
          counted (marks acquires h) (marks (others acquires) h) (sweep_marks h) (removed_items h) i (once acquires h) wide ∙ ap (times i) fills;
    }
