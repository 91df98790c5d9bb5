-- Where nothing came, nothing is served.
use Rattle.std.proofs.Common.{ap}
use Rattle.std.specs.Option.{option_map}
use Rattle.acq_core.specs.Receiver.{config_of, Stands}
use Rattle.gev_acq.proofs.Moving.{receives_nothing}
use Rattle.gev_acq.proofs.turning.receive_if.Goals as goal

pub returns-in-None-clause-receives : goal.returns-in-None-clause-receives
returns-in-None-clause-receives g c =
    receives_nothing c.args.mode (config_of c.args.acq.now) (Stands c.args.acq.now) _ c.args.pass.now (ap (option_map (λ bytes. bytes.now)) c.in-None.is)
