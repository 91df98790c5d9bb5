-- The run word is at most 2.
use Rattle.std.proofs.Common.{ℕ, ◌≤◌, true, false, List, [], ◌∷◌, Some, None, Ok, Err, arith}
use Rattle.board_machine.specs.declared.events.Entry.{Entry}
use Rattle.board_machine.specs.declared.events.Event.{Event}
use Rattle.board_machine.specs.declared.events.Event.TheVariants.{Enrol, Grab, Claim, Fill, Take, Start, Stop}
use Rattle.board_machine.specs.declared.events.TakeEnd.TheVariants.{Taken, Empty, Closed}
use Rattle.board_machine.specs.Machine.{Board, empty_board, after_event, next}
use Rattle.board_machine.specs.Histories.{after_from, After}

small_next : (b : Board) (k : ℕ) (event : Event) → b.run ≤ 2 → (after_event b k event).run ≤ 2
small_next b k (Enrol i size (Ok g)) small = small
small_next b k (Enrol i size (Err w)) small = small
small_next b k (Grab i g (Ok done)) small = small
small_next b k (Grab i g (Err w)) small = small
small_next b k (Claim (Some i)) small = small
small_next b k (Claim None) small = small
small_next b k (Fill i f true) small = small
small_next b k (Fill i f false) small = small
small_next b k (Take (Taken i)) small = small
small_next b k (Take Empty) small = small
small_next b k (Take Closed) small = small
small_next b k (Start (Ok done)) small = omega arith
small_next b k (Start (Err r)) small = small
small_next b k (Stop true (Ok done)) small = omega arith
small_next b k (Stop false (Ok done)) small = omega arith
small_next b k (Stop kill (Err r)) small = small
small_next b k _ small = small

small_from : (b : Board) (h : List Entry) → b.run ≤ 2 → (after_from b h).run ≤ 2
small_from b [] small = small
small_from b (e ∷ h) small = small_from (next b e) h (small_next b e.by e.event small)

pub run_small : (h : List Entry) → (After h).run ≤ 2
run_small h = small_from empty_board h (omega arith)
