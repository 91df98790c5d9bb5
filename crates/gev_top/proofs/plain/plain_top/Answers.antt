use Rattle.gev_top.proofs.Completing.{completed}
use Rattle.gev_top.proofs.plain.plain_top.Goals as goal

pub returns-in-Ok-clause-complete : goal.returns-in-Ok-clause-complete
returns-in-Ok-clause-complete g c =
    λ command is none none_written.
    completed c.in-Ok.command command _ c.run_command.result
    (g.S.Source.left c.args.source.now) (g.S.Source.left c.run_command.new.source)
    (g.S.Source.faults c.args.source.now) (g.S.Source.faults c.run_command.new.source)
    (g.K.Sink.written c.args.sink.now) (g.K.Sink.written c.run_command.new.sink)
    (g.K.Sink.faults c.args.sink.now) (g.K.Sink.faults c.run_command.new.sink)
    c.in-Ok.ensures.said is c.run_command.ensures.cause c.run_command.ensures.exact none none_written
