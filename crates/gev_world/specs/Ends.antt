-- How a run ends, in the code's words.
use Rattle.std.specs.Prelude.{Option, Some, None}
use Rattle.client_machine.specs.declared.outcome.Outcome.{Outcome}
use Rattle.client_machine.specs.declared.outcome.Outcome.TheVariants as outcomes
use Rattle.world_machine.specs.ClientTurn.{End, done, no_answer, refused}
use Rattle.gev_world.specs.declared.run_end.RunEnd.{RunEnd}
use Rattle.gev_world.specs.declared.run_end.RunEnd.TheVariants as ends

-- the end that this is
abbrev pub meant : RunEnd → End
meant ends.Done = done
meant (ends.NoAnswer req) = no_answer req
meant (ends.Refused status) = refused status

abbrev pub meant_if : Option RunEnd → Option End
meant_if None = None
meant_if (Some e) = Some (meant e)

abbrev pub told_end : Outcome → Option RunEnd
told_end (outcomes.NoAnswer req) = Some (ends.NoAnswer req)
told_end (outcomes.Refused status) = Some (ends.Refused status)
told_end _ = None
