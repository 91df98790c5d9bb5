-- What was told isn't written.
use Rattle.std.proofs.Common.{subst}
use Rattle.live_recording.specs.Recorded.{Finishes}
use Rattle.live_recording.proofs.recording.finish.Goals as goal

pub returns : goal.returns
returns g c =
    subst (λ w. Finishes c.args.lived c.write_told.result c.args.tape.now.kept c.args.journal.now w (g.K.Sink.written c.write_told.new.sink)
    (g.K.Sink.faults c.args.sink.now) (g.K.Sink.faults c.write_told.new.sink)) c.tell.ensures.written
    (subst (λ f. Finishes c.args.lived c.write_told.result c.args.tape.now.kept c.args.journal.now (g.K.Sink.written c.tell.new.self)
    (g.K.Sink.written c.write_told.new.sink) f (g.K.Sink.faults c.write_told.new.sink)) c.tell.ensures.faults c.write_told.ensures)
