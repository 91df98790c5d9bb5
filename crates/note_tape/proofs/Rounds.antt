-- Requests tell the rounds of their blocks.
use Rattle.std.proofs.Common.{◌≡◌, ℕ, ◌+◌, ◌<◌, ◌≤◌, max, List, [], ◌∷◌, ◌++◌, Option, Some, None, refl, ap, ◌∙◌, arith, eq-eqb, ne_eqb}
use Rattle.std.specs.Prelude.{◌==◌}
use Rattle.std.specs.List.{AllByRecursion}
use Rattle.std.proofs.lemmas.Bool.{cond-true, cond-false}
use Rattle.acquisition_machine.specs.declared.config.AcqConfig.{AcqConfig}
use Rattle.acquisition_machine.specs.Blocks.{Open, Cause, due, ranges_asked, after_asking, after_round}
use Rattle.acquisition_machine.specs.Machine.{Request, open_at, stay_if, staying, next_number, number_after, requests_for, requests_of, after_rounds}
use Rattle.acquisition_machine.specs.Sound.{RiseFrom}
use Rattle.acq_core.specs.Receiver.{rounds_of}
use Rattle.script_trace.specs.Notes.{asks}
use Rattle.script_trace.specs.Inputs.{ask_notes, round_notes}
use Rattle.note_tape.specs.Rounds.{asked_notes, RoundsAreTold}

asked_both : (opens : List Open) (xs ys : List Request) → asked_notes opens (xs ++ ys) ≡ asked_notes opens xs ++ asked_notes opens ys
asked_both opens [] ys = refl
asked_both opens (x ∷ xs) ys = ap (λ ns. asks x.resend.block (x.resend.first, x.resend.last) (rounds_of (open_at x.resend.block opens)) ∷ ns) (asked_both opens xs ys)

-- the requests of one block
asked_for : (opens : List Open) (n b round : ℕ) (rs : List (ℕ × ℕ)) → rounds_of (open_at b opens) ≡ round → asked_notes opens (requests_for n b rs) ≡ ask_notes b round rs
asked_for opens n b round [] e = refl
asked_for opens n b round (r ∷ rs) e =
    ap (λ k. asks b (r.0, r.1) k ∷ asked_notes opens (requests_for (next_number n) b rs)) e
    ∙ ap (λ ns. asks b r round ∷ ns) (asked_for opens (next_number n) b round rs e)

one_asked : (c : AcqConfig) (now : ℕ) (o : Open) (opens : List Open) (n : ℕ) → open_at o.block opens ≡ Some (after_round c now o) → asked_notes opens (requests_for n o.block (ranges_asked c now o)) ≡ ask_notes o.block (o.rounds + 1) (ranges_asked c now o)
one_asked c now o opens n found = go (ranges_asked c now o) found
  where
    go : (rs : List (ℕ × ℕ)) → open_at o.block opens ≡ Some (after_asking now o rs) → asked_notes opens (requests_for n o.block rs) ≡ ask_notes o.block (o.rounds + 1) rs
    go [] e = refl
    go (r ∷ rs) e = asked_for opens n o.block (o.rounds + 1) (r ∷ rs) (ap rounds_of e)

-- each block is found as its round left it
abbrev Found : AcqConfig → ℕ → List Open → Open → Type 0
Found c now opens o = open_at o.block opens ≡ Some (after_round c now o)

all_asked : (c : AcqConfig) (now : ℕ) (opens os : List Open) (n : ℕ) → AllByRecursion (Found c now opens) os → asked_notes opens (requests_of c now n os) ≡ round_notes c now os
all_asked c now opens [] n all = refl
all_asked c now opens (o ∷ os) n all =
    asked_both opens (requests_for n o.block (ranges_asked c now o)) (requests_of c now (number_after n (ranges_asked c now o)) os)
    ∙ (ap (λ ns. ns ++ asked_notes opens (requests_of c now (number_after n (ranges_asked c now o)) os)) (one_asked c now o opens n all.0)
    ∙ ap (λ ns. ask_notes o.block (o.rounds + 1) (ranges_asked c now o) ++ ns) (all_asked c now opens os (number_after n (ranges_asked c now o)) all.1))

block_stays : (c : AcqConfig) (now : ℕ) (o : Open) → (after_round c now o).block ≡ o.block
block_stays c now o = go (ranges_asked c now o)
  where
    go : (rs : List (ℕ × ℕ)) → (after_asking now o rs).block ≡ o.block
    go [] = refl
    go (r ∷ rs) = refl

-- a block in front of them hides none of those above it
behind : (c : AcqConfig) (now : ℕ) (front : Open) (opens os : List Open) (low : ℕ) → front.block < low → RiseFrom low os → AllByRecursion (Found c now opens) os → AllByRecursion (Found c now (front ∷ opens)) os
behind c now front opens [] low below rise all = tt
behind c now front opens (o ∷ os) low below rise all = (
  cond-false (front.block == o.block) (Some front) (open_at o.block opens) (ne_eqb front.block o.block (λ e. let least = rise.0 in omega (arith, e, below, least))) ∙ all.0,
  behind c now front opens os (o.block + 1) (let least = rise.0 in omega (arith, below, least)) rise.1 all.1,
)

found : (c : AcqConfig) (now low : ℕ) (os : List Open) → RiseFrom low os → AllByRecursion (Found c now (after_rounds c now os)) os
found c now low [] rise = tt
found c now low (o ∷ os) rise = (
  cond-true ((after_round c now o).block == o.block) (Some (after_round c now o)) (open_at o.block (after_rounds c now os)) (eq-eqb (after_round c now o).block o.block (block_stays c now o)),
  behind c now (after_round c now o) (after_rounds c now os) os (o.block + 1) (let same = block_stays c now o in omega (arith, same)) rise.1 (found c now (o.block + 1) os rise.1),
)

rise_less : (low high : ℕ) (os : List Open) → low ≤ high → RiseFrom high os → RiseFrom low os
rise_less low high [] less rise = tt
rise_less low high (o ∷ os) less rise = (let least = rise.0 in omega (arith, less, least), rise.1)

rise_staying : (c : AcqConfig) (now low : ℕ) (os : List Open) → RiseFrom low os → RiseFrom low (staying c now os)
rise_staying c now low [] rise = tt
rise_staying c now low (o ∷ os) rise =
    go (due c now o) (rise_less low (o.block + 1) (staying c now os) (let least = rise.0 in omega (arith, least)) (rise_staying c now (o.block + 1) os rise.1))
  where
    go : (why : Option Cause) → RiseFrom low (staying c now os) → RiseFrom low (stay_if why (o ∷ os) (staying c now os))
    go None later = rise
    go (Some cause) later = later

pub rounds_are_told : RoundsAreTold
rounds_are_told c s moment rise =
    all_asked c (max s.now moment) (after_rounds c (max s.now moment) (staying c (max s.now moment) s.opens)) (staying c (max s.now moment) s.opens) s.number
    (found c (max s.now moment) s.floor (staying c (max s.now moment) s.opens) (rise_staying c (max s.now moment) s.floor s.opens rise))
