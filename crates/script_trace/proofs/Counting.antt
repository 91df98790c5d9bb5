-- The places that takes took are those of the buffers that they removed.
use Rattle.std.proofs.Common.{◌≡◌, ℕ, zero, suc, Bool, true, false, cond, List, [], ◌∷◌, ◌++◌, length, replicate, refl, ap, ◌∙◌}
use Rattle.std.proofs.lemmas.List.{length-replicate}
use Rattle.board_machine.specs.declared.events.Entry.{Entry}
use Rattle.board_machine.specs.declared.events.Event.{Event}
use Rattle.board_machine.specs.declared.events.Event.TheVariants.{Take, SweepOut}
use Rattle.board_machine.specs.declared.events.TakeEnd.TheVariants as taken
use Rattle.board_machine.specs.Handout.{removed_by, handed_by, marks_by, removed, marks, marked, removed_items}
use Rattle.board_machine.proofs.Handed.{marked-append, places-marked, run_hands_out}
use Rattle.script_trace.specs.Modes.{taken_by}
use Rattle.script_trace.specs.Takes.{TakesAreCounted}

none_marked : (n : ℕ) (xs : List ℕ) → marked (replicate n false) xs ≡ []
none_marked zero xs = refl
none_marked (suc n) [] = refl
none_marked (suc n) (x ∷ xs) = none_marked n xs

cond_none : (b : Bool) → ◌≡◌ {A = List ℕ} [] (cond b [] [])
cond_none true = refl
cond_none false = refl

-- by one entry
marked_by : (who : ℕ → Bool) (k : ℕ) (e : Event) → marked (marks_by who k e) (removed_by e) ≡ cond (who k) (handed_by e) []
marked_by who k (Take (taken.Taken i)) = refl
marked_by who k (Take taken.Empty) = cond_none (who k)
marked_by who k (Take taken.Closed) = cond_none (who k)
marked_by who k (SweepOut is) = none_marked (length is) is ∙ cond_none (who k)
marked_by who k _ = cond_none (who k)

as_many : (who : ℕ → Bool) (k : ℕ) (e : Event) → length (marks_by who k e) ≡ length (removed_by e)
as_many who k (Take (taken.Taken i)) = refl
as_many who k (Take taken.Empty) = refl
as_many who k (Take taken.Closed) = refl
as_many who k (SweepOut is) = length-replicate (length is) false
as_many who k _ = refl

all_marked : (who : ℕ → Bool) (h : List Entry) → marked (marks who h) (removed h) ≡ taken_by who h
all_marked who [] = refl
all_marked who (e ∷ h) =
    marked-append (marks_by who e.by e.event) (marks who h) (removed_by e.event) (removed h) (as_many who e.by e.event)
    ∙ (ap (λ is. is ++ marked (marks who h) (removed h)) (marked_by who e.by e.event) ∙ ap (λ is. cond (who e.by) (handed_by e.event) [] ++ is) (all_marked who h))

pub takes_counted : TakesAreCounted
takes_counted who h run =
    places-marked (marks who h) (removed_items h) ∙ (ap (λ is. marked (marks who h) is) (run_hands_out h run).fills ∙ all_marked who h)
