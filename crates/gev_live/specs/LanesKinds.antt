-- The kinds of acts of a lane to which no output is ever closed, in each buffer handling mode.
use Rattle.std.specs.Prelude.{Bool, true, false}
use Rattle.board_machine.specs.declared.events.Event.{Event}
use Rattle.board_machine.specs.declared.events.Event.TheVariants.{Claim, Take, Pool, Fill}
use Rattle.board_calls.specs.declared.mode.Mode.{Mode}
use Rattle.gev_acq.specs.Kinds.{may_drop}

-- A claim, or a fill: no lay. In a mode that drops buffers also their takes and poolings.
abbrev pub is_strict_lanes : Mode → Event → Bool
is_strict_lanes mode (Claim place) = true
is_strict_lanes mode (Take end) = may_drop mode
is_strict_lanes mode (Pool place) = may_drop mode
is_strict_lanes mode (Fill place filling filled) = true
is_strict_lanes mode _ = false
