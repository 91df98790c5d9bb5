-- What stays where no act of a kind comes.
use Rattle.std.proofs.Common.{◌≡◌, ℕ, Bool, true, false, List, [], ◌∷◌, ◌++◌, Some, None, Ok, Err, refl, ap, ◌∙◌, eq-eqb}
use Rattle.board_machine.specs.declared.events.Entry.{Entry}
use Rattle.board_machine.specs.declared.events.Event.{Event}
use Rattle.board_machine.specs.declared.events.Event.TheVariants.{Enrol, Grab, Claim, Fill, Take, SweepOut, Close, Start, Stop}
use Rattle.board_machine.specs.declared.events.TakeEnd.TheVariants.{Taken, Empty, Closed}
use Rattle.board_machine.specs.Places.{tail}
use Rattle.board_machine.specs.Machine.{Board, Meets, after_event, next, empty_board}
use Rattle.board_machine.specs.Histories.{after_from, RunsFrom, After, Run}
use Rattle.board_machine.specs.Handout.{filled_by, filled, marks_by, marks, marked, removed_items, handed_items, taken_items, every_actor, only_actor}
use Rattle.board_machine.specs.Kinds.{is_close, is_stop, is_filled, is_fill_refused, is_taken, HasNone, TakesAreBy}
use Rattle.board_machine.proofs.Runs.{after-append, runs_rest}

-- ---- histories with no act of a kind

pub none-append : (kind : Event → Bool) (g h : List Entry) → HasNone kind g → HasNone kind h → HasNone kind (g ++ h)
none-append kind [] h front rest = rest
none-append kind (e ∷ g) h front rest = (front.0, none-append kind g h front.1 rest)

pub none_front : (kind : Event → Bool) (g h : List Entry) → HasNone kind (g ++ h) → HasNone kind g
none_front kind [] h none_is = tt
none_front kind (e ∷ g) h none_is = (none_is.0, none_front kind g h none_is.1)

pub none_rest : (kind : Event → Bool) (g h : List Entry) → HasNone kind (g ++ h) → HasNone kind h
none_rest kind [] h none_is = none_is
none_rest kind (e ∷ g) h none_is = none_rest kind g h none_is.1

filled_none_by : (event : Event) → is_filled event ≡ false → filled_by event ≡ []
filled_none_by (Fill i f true) quiet = absurd (cc)
filled_none_by (Fill i f false) quiet = refl
filled_none_by _ quiet = refl

-- without such a fill nothing was put into the output
pub filled_none : (h : List Entry) → HasNone is_filled h → filled h ≡ []
filled_none [] quiet = refl
filled_none (e ∷ h) quiet = ap (λ xs. xs ++ filled h) (filled_none_by e.event quiet.0) ∙ filled_none h quiet.1

-- ---- the close mark

open_next : (b : Board) (k : ℕ) (event : Event) → b.closed ≡ false → is_close event ≡ false → (after_event b k event).closed ≡ false
open_next b k Close open_was quiet = absurd (cc)
open_next b k (Enrol i size (Ok g)) open_was quiet = open_was
open_next b k (Enrol i size (Err w)) open_was quiet = open_was
open_next b k (Grab i g (Ok done)) open_was quiet = open_was
open_next b k (Grab i g (Err w)) open_was quiet = open_was
open_next b k (Claim (Some i)) open_was quiet = open_was
open_next b k (Claim None) open_was quiet = open_was
open_next b k (Fill i f true) open_was quiet = open_was
open_next b k (Fill i f false) open_was quiet = open_was
open_next b k (Take (Taken i)) open_was quiet = open_was
open_next b k (Take Empty) open_was quiet = open_was
open_next b k (Take Closed) open_was quiet = open_was
open_next b k (Start (Ok done)) open_was quiet = open_was
open_next b k (Start (Err r)) open_was quiet = open_was
open_next b k (Stop kill (Ok done)) open_was quiet = open_was
open_next b k (Stop kill (Err r)) open_was quiet = open_was
open_next b k _ open_was quiet = open_was

no_fill_refused : (b : Board) (k : ℕ) (event : Event) → b.closed ≡ false → Meets b k event → is_fill_refused event ≡ false
no_fill_refused b k (Fill i f true) open_was meets = refl
no_fill_refused b k (Fill i f false) open_was meets = absurd (cc (meets.2, open_was))
no_fill_refused b k _ open_was meets = refl

open_from : (b : Board) (h : List Entry) → RunsFrom b h → b.closed ≡ false → HasNone is_close h → HasNone is_fill_refused h
open_from b [] runs open_was quiet = tt
open_from b (e ∷ h) runs open_was quiet =
    (no_fill_refused b e.by e.event open_was runs.0.meets, open_from (next b e) h runs.1 (open_next b e.by e.event open_was quiet.0) quiet.1)

pub open_takes_fills : (front later : List Entry) → Run (front ++ later) → (After front).closed ≡ false → HasNone is_close later → HasNone is_fill_refused later
open_takes_fills front later run open_was quiet = open_from (After front) later (runs_rest empty_board front later run) open_was quiet

-- ---- the run word

started_next : (b : Board) (k : ℕ) (event : Event) → b.run ≡ 1 → is_stop event ≡ false → (after_event b k event).run ≡ 1
started_next b k (Stop kill answer) started quiet = absurd (cc)
started_next b k (Enrol i size (Ok g)) started quiet = started
started_next b k (Enrol i size (Err w)) started quiet = started
started_next b k (Grab i g (Ok done)) started quiet = started
started_next b k (Grab i g (Err w)) started quiet = started
started_next b k (Claim (Some i)) started quiet = started
started_next b k (Claim None) started quiet = started
started_next b k (Fill i f true) started quiet = started
started_next b k (Fill i f false) started quiet = started
started_next b k (Take (Taken i)) started quiet = started
started_next b k (Take Empty) started quiet = started
started_next b k (Take Closed) started quiet = started
started_next b k (Start (Ok done)) started quiet = refl
started_next b k (Start (Err r)) started quiet = started
started_next b k _ started quiet = started

started_from : (b : Board) (h : List Entry) → b.run ≡ 1 → HasNone is_stop h → (after_from b h).run ≡ 1
started_from b [] started quiet = started
started_from b (e ∷ h) started quiet = started_from (next b e) h (started_next b e.by e.event started quiet.0) quiet.1

pub run_stays : (front later : List Entry) → (After front).run ≡ 1 → HasNone is_stop later → (After (front ++ later)).run ≡ 1
run_stays front later started quiet =
    ap (λ (b : Board). b.run) (after-append empty_board front later) ∙ started_from (After front) later started quiet

-- ---- the output

empty_next : (b : Board) (k : ℕ) (event : Event) → b.out ≡ [] → is_filled event ≡ false → (after_event b k event).out ≡ []
empty_next b k (Enrol i size (Ok g)) none_out quiet = none_out
empty_next b k (Enrol i size (Err w)) none_out quiet = none_out
empty_next b k (Grab i g (Ok done)) none_out quiet = none_out
empty_next b k (Grab i g (Err w)) none_out quiet = none_out
empty_next b k (Claim (Some i)) none_out quiet = none_out
empty_next b k (Claim None) none_out quiet = none_out
empty_next b k (Fill i f true) none_out quiet = absurd (cc)
empty_next b k (Fill i f false) none_out quiet = none_out
empty_next b k (Take (Taken i)) none_out quiet = ap tail none_out
empty_next b k (Take Empty) none_out quiet = none_out
empty_next b k (Take Closed) none_out quiet = none_out
empty_next b k (SweepOut is) none_out quiet = refl
empty_next b k (Start (Ok done)) none_out quiet = none_out
empty_next b k (Start (Err r)) none_out quiet = none_out
empty_next b k (Stop kill (Ok done)) none_out quiet = none_out
empty_next b k (Stop kill (Err r)) none_out quiet = none_out
empty_next b k _ none_out quiet = none_out

empty_from : (b : Board) (h : List Entry) → b.out ≡ [] → HasNone is_filled h → (after_from b h).out ≡ []
empty_from b [] none_out quiet = none_out
empty_from b (e ∷ h) none_out quiet = empty_from (next b e) h (empty_next b e.by e.event none_out quiet.0) quiet.1

pub output_stays : (front later : List Entry) → (After front).out ≡ [] → HasNone is_filled later → (After (front ++ later)).out ≡ []
output_stays front later none_out quiet =
    ap (λ (b : Board). b.out) (after-append empty_board front later) ∙ empty_from (After front) later none_out quiet

-- ---- what was handed out

marks_same_by : (k n : ℕ) (event : Event) → (is_taken event ≡ true → n ≡ k) → marks_by (only_actor k) n event ≡ marks_by every_actor n event
marks_same_by k n (Take (Taken i)) mine = ap (λ (mark : Bool). mark ∷ []) (eq-eqb n k (mine refl))
marks_same_by k n (Take Empty) mine = refl
marks_same_by k n (Take Closed) mine = refl
marks_same_by k n (SweepOut is) mine = refl
marks_same_by k n _ mine = refl

marks_same : (k : ℕ) (h : List Entry) → TakesAreBy k h → marks (only_actor k) h ≡ marks every_actor h
marks_same k [] mine = refl
marks_same k (e ∷ h) mine =
    ap (λ xs. xs ++ marks (only_actor k) h) (marks_same_by k e.by e.event mine.0)
    ∙ ap (λ xs. marks_by every_actor e.by e.event ++ xs) (marks_same k h mine.1)

pub handed_own : (k : ℕ) (h : List Entry) → TakesAreBy k h → taken_items k h ≡ handed_items h
handed_own k h mine = ap (λ ms. marked ms (removed_items h)) (marks_same k h mine)
