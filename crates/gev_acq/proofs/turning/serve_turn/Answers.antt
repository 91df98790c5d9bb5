-- What came, and then the moment.
use Rattle.acq_core.specs.Receiver.{config_of, Stands}
use Rattle.gev_acq.proofs.Moving.{serves_turn}
use Rattle.gev_acq.proofs.turning.serve_turn.Goals as goal

pub returns-clause-serves : goal.returns-clause-serves
returns-clause-serves g c =
    serves_turn c.args.mode (config_of c.args.acq.now) (config_of c.receive_if-heard.new.acq) (Stands c.args.acq.now) (Stands c.receive_if-heard.new.acq)
    (Stands c.tick_acquisition.new.acq) _ c.args.moment c.receive_if-heard.result _ c.args.pass.now c.receive_if-heard.new.pass c.tick_acquisition.new.pass
    c.receive_if-heard.ensures.config c.receive_if-heard.ensures.receives c.tick_acquisition.ensures.ticks

pub receive_if-heard-requires-clause-fills : goal.receive_if-heard-requires-clause-fills
receive_if-heard-requires-clause-fills g c = c.requires.fills

pub receive_if-heard-requires-clause-requests : goal.receive_if-heard-requires-clause-requests
receive_if-heard-requires-clause-requests g c = c.requires.requests

pub receive_if-heard-requires-clause-backs : goal.receive_if-heard-requires-clause-backs
receive_if-heard-requires-clause-backs g c = c.requires.backs

pub returns-clause-alone : goal.returns-clause-alone
returns-clause-alone g c = λ alone. c.tick_acquisition.ensures.alone (c.receive_if-heard.ensures.alone alone)
