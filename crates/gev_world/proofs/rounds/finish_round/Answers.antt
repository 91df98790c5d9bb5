use Rattle.gev_world.proofs.Closing.{stops_unwritten}
use Rattle.gev_world.proofs.Rounding.{finishes, finish_stops}
use Rattle.gev_world.proofs.rounds.finish_round.Goals as goal

pub returns-in-Err-clause-ends : goal.returns-in-Err-clause-ends
returns-in-Err-clause-ends g c = λ acts w stands. stops_unwritten _ _ _ _ _ _

pub write_takes-requires : goal.write_takes-requires
write_takes-requires g c =
    let there = c.in-Ok.ensures.stands c.requires.world.acts c.requires.world.world c.requires.world.stands in
    record { hosted = record { lines = _; receiver = _; stands = there.hosts.stands } }

pub returns-in-Ok-write_takes-clause-ends : goal.returns-in-Ok-write_takes-clause-ends
returns-in-Ok-write_takes-clause-ends g c = λ acts w stands.
    finishes c.args.stage.now c.ask.new.stage c.args.host.now c.ask.new.host c.write_takes.new.host c.close.result acts w
    (g.K.Sink.written c.args.sink.now) (g.K.Sink.written c.write_takes.new.sink) (g.K.Sink.written c.close.new.sink)
    (g.K.Sink.faults c.args.sink.now) (g.K.Sink.faults c.write_takes.new.sink) (g.K.Sink.faults c.close.new.sink)
    stands c.in-Ok.ensures c.in-Ok-write_takes.ensures.taken c.in-Ok-write_takes.ensures.wrote c.close.ensures

pub returns-in-Err-write_takes-clause-ends : goal.returns-in-Err-write_takes-clause-ends
returns-in-Err-write_takes-clause-ends g c = λ acts w stands.
    finish_stops c.args.stage.now c.ask.new.stage c.args.host.now c.ask.new.host c.write_takes.new.host c.in-Err-write_takes.stop acts w
    (g.K.Sink.written c.args.sink.now) (g.K.Sink.written c.write_takes.new.sink) (g.K.Sink.faults c.args.sink.now) (g.K.Sink.faults c.write_takes.new.sink)
    stands c.in-Ok.ensures c.in-Err-write_takes.ensures.wrote
