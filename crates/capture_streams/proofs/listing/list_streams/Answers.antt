use Rattle.capture_streams.proofs.Listed.{listed, listed_none}
use Rattle.capture_streams.proofs.listing.list_streams.Goals as goal

pub returns-in-Err-clause-ends : goal.returns-in-Err-clause-ends
returns-in-Err-clause-ends g c = listed_none (g.S.Source.left c.args.source.now) (g.S.Source.faults c.args.source.now) (g.K.Sink.written c.args.sink.now) (g.K.Sink.faults c.args.sink.now)

pub returns-in-Ok-clause-ends : goal.returns-in-Ok-clause-ends
returns-in-Ok-clause-ends g c =
    listed c.new-out.result.items c.run_capture.result
    (g.S.Source.left c.args.source.now) (g.S.Source.left c.run_capture.new.source) (g.S.Source.faults c.args.source.now) (g.S.Source.faults c.run_capture.new.source)
    (g.K.Sink.written c.args.sink.now) (g.K.Sink.written c.run_capture.new.sink) (g.K.Sink.faults c.args.sink.now) (g.K.Sink.faults c.run_capture.new.sink)
    c.new-out.ensures.items (c.run_capture.ensures.ends _ (c.in-Ok.ensures {u = tt}))

pub returns-in-Ok-clause-exact : goal.returns-in-Ok-clause-exact
returns-in-Ok-clause-exact g c = c.run_capture.ensures.exact _ (c.in-Ok.ensures {u = tt})
