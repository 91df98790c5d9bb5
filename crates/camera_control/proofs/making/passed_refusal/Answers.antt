-- A stop that was refused is told.
use Rattle.std.proofs.Common.{ap, sym}
use Rattle.camera_control.specs.declared.step.Step.{Step}
use Rattle.camera_control.specs.Steps.{passed_refusal}
use Rattle.camera_control.proofs.making.passed_refusal.Goals as goal

pub returns-in-Stop : goal.returns-in-Stop
returns-in-Stop c = ap (λ (step : Step). passed_refusal step c.args.status) (sym c.in-Stop.is)
