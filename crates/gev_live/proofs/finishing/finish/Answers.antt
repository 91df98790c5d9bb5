-- What was told isn't written.
use Rattle.std.proofs.Common.{◌++◌, subst}
use Rattle.gev_report.specs.LiveLine.{live_line}
use Rattle.gev_live.specs.Endings.{EndsSo}
use Rattle.gev_live.proofs.finishing.finish.Goals as goal

pub returns : goal.returns
returns g c = record {
  ends =
      subst (λ w. EndsSo c.args.first c.write_told.result (c.args.lines.items ++ live_line c.args.frames c.args.taken) w (g.K.Sink.written c.write_told.new.sink)
      (g.K.Sink.faults c.args.sink.now) (g.K.Sink.faults c.write_told.new.sink)) c.tell_counts.ensures.written
      (subst (λ f. EndsSo c.args.first c.write_told.result (c.args.lines.items ++ live_line c.args.frames c.args.taken) (g.K.Sink.written c.tell_counts.new.sink)
      (g.K.Sink.written c.write_told.new.sink) f (g.K.Sink.faults c.write_told.new.sink)) c.tell_counts.ensures.faults c.write_told.ensures.ends);
}
