-- What kinds of acts the host of a run does.
use Rattle.std.specs.Prelude.{Bool, true, false}
use Rattle.board_machine.specs.declared.events.Event.{Event}
use Rattle.board_machine.specs.declared.events.Event.TheVariants.{Split, Join}

-- The host splits the workers off, and joins them again.
abbrev pub is_hosts : Event → Bool
is_hosts (Split number) = true
is_hosts (Join number) = true
is_hosts _ = false
