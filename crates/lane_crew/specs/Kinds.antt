-- What kinds of acts a lane and the reader of a live run with lanes do.
use Rattle.std.specs.Prelude.{Bool, true, false}
use Rattle.board_machine.specs.declared.events.Event.{Event}
use Rattle.board_machine.specs.declared.events.Event.TheVariants.{LookRun, Claim, Take, Pool, Fill, Lay, Join, Stop}
use Rattle.board_calls.specs.declared.mode.Mode.{Mode}
use Rattle.gev_acq.specs.Kinds.{may_drop}

-- The claim of a buffer, its fill, and its lay where the output was closed; and in a mode that drops buffers their
-- takes and poolings.
abbrev pub is_lanes : Mode → Event → Bool
is_lanes mode (Claim place) = true
is_lanes mode (Take end) = may_drop mode
is_lanes mode (Pool place) = may_drop mode
is_lanes mode (Fill place filling filled) = true
is_lanes mode (Lay place) = true
is_lanes mode _ = false

-- A look at the run word, the join of a lane's pass, and the stop.
abbrev pub is_lane_readers : Event → Bool
is_lane_readers (LookRun run) = true
is_lane_readers (Join number) = true
is_lane_readers (Stop kill answer) = true
is_lane_readers _ = false
