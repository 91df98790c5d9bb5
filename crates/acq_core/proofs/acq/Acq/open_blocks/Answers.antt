use Rattle.std.proofs.Common.{ap, ◌∙◌}
use Rattle.acquisition_machine.specs.Runs.{After}
use Rattle.acq_core.specs.Receiver.{config_of, open_count}
use Rattle.acq_core.proofs.Receiving.{opens_count}
use Rattle.acq_core.proofs.acq.Acq.open_blocks.Goals as goal

pub returns-clause-opens : goal.returns-clause-opens
returns-clause-opens c q s =
    c.len.ensures ∙ c.self.inside.window.slots.ok.0 ∙ ap open_count c.self.view_is ∙ opens_count c.args.self.now (After (config_of c.args.self.now) q) s
