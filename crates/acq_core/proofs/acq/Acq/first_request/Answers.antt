use Rattle.std.proofs.Common.{List, subst}
use Rattle.std.specs.Prelude.{◌≡◌, IfSome}
use Rattle.acquisition_machine.specs.Machine.{Input, open_at}
use Rattle.acquisition_machine.specs.Runs.{After}
use Rattle.acq_core.specs.declared.window.Window.{Window}
use Rattle.acq_core.specs.Receiver.{config_of, rounds_of, Stands}
use Rattle.acq_core.proofs.FirstOnes.{round_stands}
use Rattle.acq_core.proofs.acq.Acq.first_request.Goals as goal

pub returns-clause-round : goal.returns-clause-round
returns-clause-round c =
    subst (λ (m : Window). (q : List Input) → Stands m q → IfSome c.first_request.result (λ r. r.1 ≡ rounds_of (open_at r.0.block (After (config_of m) q).opens))) c.self.view_is
    (round_stands c.self.inside.window c.first_request.result c.self.invariant c.first_request.ensures.round)
