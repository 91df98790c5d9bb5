use Rattle.std.proofs.Common.{refl}
use Rattle.capture_script.specs.Script.{not_written}
use Rattle.capture_script.proofs.Written.{scripted, scripted_none, scripted_exact}
use Rattle.capture_script.proofs.scripting.write_capture.Goals as goal

pub returns-in-Err-clause-ends : goal.returns-in-Err-clause-ends
returns-in-Err-clause-ends g c =
    scripted_none c.args.port c.args.p c.args.size (g.S.Source.left c.args.source.now) (g.S.Source.faults c.args.source.now) (g.K.Sink.written c.args.sink.now) (g.K.Sink.faults c.args.sink.now)

pub returns-in-Ok-new_scripting-clause-ends : goal.returns-in-Ok-new_scripting-clause-ends
returns-in-Ok-new_scripting-clause-ends g c =
    scripted c.args.port c.args.p c.args.size c.in-Ok.out.items c.run_capture.result
    (g.S.Source.left c.args.source.now) (g.S.Source.left c.run_capture.new.source) (g.S.Source.faults c.args.source.now) (g.S.Source.faults c.run_capture.new.source)
    (g.K.Sink.written c.args.sink.now) (g.K.Sink.written c.run_capture.new.sink) (g.K.Sink.faults c.args.sink.now) (g.K.Sink.faults c.run_capture.new.sink)
    c.in-Ok.ensures (c.run_capture.ensures.ends (not_written c.args.port c.args.p c.args.size) (record { stands = c.in-Ok-new_scripting.ensures; told_is = refl }))

pub returns-in-Ok-new_scripting-clause-exact : goal.returns-in-Ok-new_scripting-clause-exact
returns-in-Ok-new_scripting-clause-exact g c =
    scripted_exact c.args.port c.args.p c.args.size c.run_capture.result (g.S.Source.left c.args.source.now)
    (c.run_capture.ensures.exact (not_written c.args.port c.args.p c.args.size) (record { stands = c.in-Ok-new_scripting.ensures; told_is = refl }))

pub returns-clause-ends : goal.returns-clause-ends
returns-clause-ends g c =
    scripted_none c.args.port c.args.p c.args.size (g.S.Source.left c.args.source.now) (g.S.Source.faults c.args.source.now) (g.K.Sink.written c.args.sink.now) (g.K.Sink.faults c.args.sink.now)
