-- The acts of each thread's calls are of its kind.
use Rattle.std.proofs.Common.{ℕ, Bool, List, [], ◌∷◌, ◌++◌, Option, Result, Ok, Err, refl, sym, subst}
use Rattle.gentl_types.specs.declared.errors.GcError.{GcError}
use Rattle.gentl_types.specs.declared.errors.GcError.TheVariants.{InvalidHandle, Abort}
use Rattle.gentl_types.specs.declared.errors.Shown.TheVariants as shown
use Rattle.gev_types.specs.Filling.{Filling}
use Rattle.board_machine.specs.declared.events.Event.{Event}
use Rattle.board_machine.specs.declared.events.Event.TheVariants.{Claim, Fill, Lay}
use Rattle.board_calls.specs.Calls.{Returns}
use Rattle.buffer_words.specs.Passes.{Token, Enters, Stays}
use Rattle.buffer_words.specs.Loans.{Lent}
use Rattle.buffer_words.specs.Several.{EntersOf, EntersThen}
use Rattle.buffer_words.specs.Workers.{AreEvents, Works}
use Rattle.buffer_words.proofs.Working.{works_stays, works_grows, works_enters, works_each, works_then}
use Rattle.gentl_events.specs.Turns.{idle_turns, last_turn}
use Rattle.gentl_events.specs.Waits.{Waits}
use Rattle.gentl_events.specs.Kinds.{is_fillers, is_takers}

pub works_same : (kind : Event → Bool) (s : Token) → Works kind s s
works_same kind s = works_stays kind s s (record { table = refl; number = refl; seen = refl })

-- a claim, a lift and a fill
pub claims_and_fills : (s t u v : Token) (claimed : Option ℕ) (place : ℕ) (f : Filling) (filled : Bool) → Enters s (Claim claimed) t → Stays t u → Enters u (Fill place f filled) v → Works is_fillers s v
claims_and_fills s t u v claimed place f filled claim lift fill =
    works_then is_fillers s t v (works_enters is_fillers s t (Claim claimed) refl claim)
    (works_then is_fillers t u v (works_stays is_fillers t u lift) (works_enters is_fillers u v (Fill place f filled) refl fill))

-- and after them a set-down and a lay
pub then_lays : (s t u v : Token) (place : ℕ) → Works is_fillers s t → Stays t u → Enters u (Lay place) v → Works is_fillers s v
then_lays s t u v place works down lay =
    works_then is_fillers s t v works (works_then is_fillers t u v (works_stays is_fillers t u down) (works_enters is_fillers u v (Lay place) refl lay))

are_both : (kind : Event → Bool) (es fs : List Event) → AreEvents kind es → AreEvents kind fs → AreEvents kind (es ++ fs)
are_both kind [] fs first second = second
are_both kind (e ∷ es) fs first second = (first.0, are_both kind es fs first.1 second)

idle_are : (moments : List ℕ) → AreEvents is_takers (idle_turns moments)
idle_are [] = tt
idle_are (moment ∷ moments) = (refl, (refl, idle_are moments))

last_are : (answer : Result Lent GcError) → AreEvents is_takers (last_turn answer)
last_are (Ok loan) = (refl, tt)
last_are (Err (InvalidHandle shown.Closed)) = (refl, tt)
last_are (Err Abort) = (refl, (refl, tt))
last_are (Err _) = tt

waits_are : (timeout : ℕ) (told now : Option (List ℕ)) (answer : Result Lent GcError) (es : List Event) → Waits timeout told now answer es → AreEvents is_takers es
waits_are timeout told now answer es waits =
    subst (λ (fs : List Event). AreEvents is_takers fs) (sym waits.is) (are_both is_takers (idle_turns waits.moments) (last_turn answer) (idle_are waits.moments) (last_are answer))

pub wait_works : (s t : Token) (timeout : ℕ) (told now : Option (List ℕ)) (answer : Result Lent GcError) → EntersOf s (Waits timeout told now answer) t → Works is_takers s t
wait_works s t timeout told now answer of = works_each is_takers s t of.events (waits_are timeout told now answer of.events of.kind) of.enters

-- a wait that gave a loan, and its return
pub loan_works : (s t u : Token) (timeout : ℕ) (told now : Option (List ℕ)) (answer : Result Lent GcError) (place : ℕ) → EntersThen s (Waits timeout told now answer) t → EntersOf t (Returns place) u → Works is_takers s u
loan_works s t u timeout told now answer place wait back =
    works_then is_takers s wait.middle u (wait_works s wait.middle timeout told now answer wait.enters)
    (works_then is_takers wait.middle t u (works_grows is_takers wait.middle t wait.grows)
    (works_each is_takers t u back.events (subst (λ (fs : List Event). AreEvents is_takers fs) (sym back.kind) (refl, tt)) back.enters))
