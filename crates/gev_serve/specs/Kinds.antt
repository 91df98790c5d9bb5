-- What kinds of acts the camera's worker does.
use Rattle.std.specs.Prelude.{Bool, true, false}
use Rattle.board_machine.specs.declared.events.Event.{Event}
use Rattle.board_machine.specs.declared.events.Event.TheVariants.{LookRun, Stop}

-- It looks at the run word, and stops the run where it failed.
abbrev pub is_cameras : Event → Bool
is_cameras (LookRun run) = true
is_cameras (Stop kill answer) = true
is_cameras _ = false
