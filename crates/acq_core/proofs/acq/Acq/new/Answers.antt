use Rattle.acquisition_machine.specs.Runs.{first_state}
use Rattle.acq_core.proofs.Receiving.{buffers_held, opens_count}
use Rattle.acq_core.proofs.acq.Acq.new.Goals as goal

pub returns-clause-buffers : goal.returns-clause-buffers
returns-clause-buffers c = buffers_held c.in_ok-window.window first_state c.in_ok-window.ensures.acts

pub returns-clause-opens : goal.returns-clause-opens
returns-clause-opens c = opens_count c.in_ok-window.window first_state c.in_ok-window.ensures.acts
