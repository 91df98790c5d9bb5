-- The links were bound and the clocks taken.
use Rattle.gev_program.specs.Runs.{RecordsOver}
use Rattle.gev_program.proofs.Addresses.{bound_so}
use Rattle.gev_program.proofs.recording.run_recorded.Goals as goal

pub returns-in-Ok-clause-recorded : goal.returns-in-Ok-clause-recorded
returns-in-Ok-clause-recorded g c =
    bound_so c.record_new.new.kept
    (λ k camera stream links clocks. RecordsOver g.P.L.Link.received g.P.L.Link.sent g.P.L.Link.faults g.P.C.Clock.told c.args.numbers camera stream c.record_new.result links
    (g.P.Ports.links c.record_new.new.ports) clocks (g.P.Ports.clocks c.record_new.new.ports) (g.K.Sink.written c.args.sink.now) (g.K.Sink.written c.record_new.new.sink)
    (g.K.Sink.faults c.args.sink.now) (g.K.Sink.faults c.record_new.new.sink) k.1.seen)
    _ _ _ _ _ _ _ _ _ _ c.in-Ok.ensures.bound c.record_new.ensures.bound c.in-Ok.ensures.links c.bind_three.ensures.clocks c.record_new.ensures.recorded
