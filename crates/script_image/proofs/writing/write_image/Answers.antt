use Rattle.script_image.proofs.Exact.{image_exact, image_completes}
use Rattle.script_image.proofs.writing.write_image.Goals as goal

pub returns-clause-exact : goal.returns-clause-exact
returns-clause-exact g c =
    image_exact c.args.wanted c.write_wanted.result (g.S.Source.left c.args.source.now) (g.S.Source.left c.write_wanted.new.source)
    (g.K.Sink.written c.args.sink.now) (g.K.Sink.written c.write_wanted.new.sink) (g.S.Source.faults c.args.source.now) (g.S.Source.faults c.write_wanted.new.source)
    (g.K.Sink.faults c.args.sink.now) (g.K.Sink.faults c.write_wanted.new.sink) c.write_wanted.ensures.ends

pub returns-clause-complete : goal.returns-clause-complete
returns-clause-complete g c =
    image_completes c.args.wanted c.write_wanted.result (g.S.Source.left c.args.source.now) (g.S.Source.left c.write_wanted.new.source)
    (g.K.Sink.written c.args.sink.now) (g.K.Sink.written c.write_wanted.new.sink) (g.S.Source.faults c.args.source.now) (g.S.Source.faults c.write_wanted.new.source)
    (g.K.Sink.faults c.args.sink.now) (g.K.Sink.faults c.write_wanted.new.sink) c.write_wanted.ensures.ends
