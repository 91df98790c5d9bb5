-- What the steps submit.
use Rattle.std.specs.Prelude.{◌≡◌, ℕ, List, [], ◌∷◌, ◌++◌}
use Rattle.gvcp_wire.specs.Messages.{PlainCommand}
use Rattle.gev_links.specs.Links.{Address}
use Rattle.gev_control.specs.ThroughLaws.{list_submitted}
use Rattle.gev_control.specs.CarriesOut.{ControlSide}
use Rattle.camera_control.specs.declared.step.Step.{Step}
use Rattle.camera_control.specs.declared.control_end.ControlEnd.{ControlEnd}
use Rattle.camera_control.specs.Steps.{commands_in}
use Rattle.camera_control.specs.Taking.{Made, Passes, begins, goes_on, steps_in, Halts}

-- what these steps submit
abbrev pub commands_of : List Step → List PlainCommand
commands_of [] = []
commands_of (s ∷ rest) = commands_in s ++ commands_of rest

-- the commands that were submitted while these steps were made
abbrev pub passes_submitted : {camera : Address} → {o : ControlSide} → {log : List Made} → {n : ControlSide} → Passes camera o log n → List PlainCommand
passes_submitted begins = []
passes_submitted (goes_on log m n s end passes makes on) = passes_submitted passes ++ list_submitted (commands_in s) m makes.carried

-- and by the step that ended all
abbrev pub halts_submitted : {camera : Address} → {steps : List Step} → {done : ℕ} → {o n : ControlSide} → {cause : ControlEnd}
    → Halts camera steps done o n cause → List PlainCommand
halts_submitted halts = passes_submitted halts.passes ++ list_submitted (commands_in halts.last) halts.m halts.makes.carried

-- Steps that were made submitted their commands, in order, each once, and nothing else.
abbrev pub StepsInOrder : Type 0
StepsInOrder = (camera : Address) (o : ControlSide) (log : List Made) (n : ControlSide) (passes : Passes camera o log n)
    → passes_submitted passes ≡ commands_of (steps_in log)

-- Where one of the steps ended all, the commands of a front of them were submitted, up to that of this one, in order, each
-- once, and nothing else.
abbrev pub FrontInOrder : Type 0
FrontInOrder = (camera : Address) (steps : List Step) (done : ℕ) (o n : ControlSide) (cause : ControlEnd) (halts : Halts camera steps done o n cause)
    → halts_submitted halts ≡ commands_of (steps_in halts.log ++ halts.last ∷ [])
