use Rattle.std.proofs.Common.{◌≡◌, subst}
use Rattle.capture_runs.specs.declared.ending.Ending.{Ending}
use Rattle.capture_runs.specs.declared.ending.Ending.TheVariants.{WriteFault}
use Rattle.capture_runs.specs.Turns.{TurnEnds}
use Rattle.capture_runs.proofs.Walked.{turn_ended, turn_broken, if_ok}
use Rattle.capture_runs.proofs.running.run_next.Goals as goal

pub returns-in-Err-write_if_long-clause-ends : goal.returns-in-Err-write_if_long-clause-ends
returns-in-Err-write_if_long-clause-ends g c ending e =
    let same : WriteFault ≡ ending = cc in
    subst
    (λ (x : Ending). TurnEnds g.T.Telling.texts (g.T.Telling.stands_for c.args.telling.now) x c.args.reader.now c.args.moments.now c.args.out.now.items
    (g.S.Source.left c.args.source.now) (g.S.Source.left c.next.new.source) (g.S.Source.faults c.args.source.now) (g.S.Source.faults c.next.new.source)
    (g.K.Sink.written c.args.sink.now) (g.K.Sink.written c.write_if_long.new.sink) (g.K.Sink.faults c.args.sink.now) (g.K.Sink.faults c.write_if_long.new.sink))
    same
    (turn_broken g.T.Telling.texts (g.T.Telling.stands_for c.args.telling.now) (g.T.Telling.stands_for c.tell_packet.new.telling) c.args.reader.now c.next.new.self c.args.moments.now c.args.out.now.items c.tell_packet.new.out.items
    (g.S.Source.left c.args.source.now) (g.S.Source.left c.next.new.source) (g.K.Sink.written c.args.sink.now) (g.K.Sink.written c.write_if_long.new.sink)
    (g.S.Source.faults c.args.source.now) (g.S.Source.faults c.next.new.source) (g.K.Sink.faults c.args.sink.now) (g.K.Sink.faults c.write_if_long.new.sink)
    c.in-Ok.ensures.next (if_ok c.tell_packet.result _ c.tell_packet.ensures.told (c.if-is_err.ensures {u = tt}).value) (c.in-Err-write_if_long.ensures {u = tt}).failed (c.in-Err-write_if_long.ensures {u = tt}).front)

pub returns-in-Err-clause-ends : goal.returns-in-Err-clause-ends
returns-in-Err-clause-ends g c ending e =
    let same : c.end_run.result ≡ ending = cc in
    subst
    (λ (x : Ending). TurnEnds g.T.Telling.texts (g.T.Telling.stands_for c.args.telling.now) x c.args.reader.now c.args.moments.now c.args.out.now.items
    (g.S.Source.left c.args.source.now) (g.S.Source.left c.next.new.source) (g.S.Source.faults c.args.source.now) (g.S.Source.faults c.next.new.source)
    (g.K.Sink.written c.args.sink.now) (g.K.Sink.written c.end_run.new.sink) (g.K.Sink.faults c.args.sink.now) (g.K.Sink.faults c.end_run.new.sink))
    same
    (turn_ended g.T.Telling.texts (g.T.Telling.stands_for c.args.telling.now) c.in-Err.end c.records-records.result c.end_run.result c.args.reader.now c.next.new.self c.args.moments.now c.args.out.now.items
    (g.S.Source.left c.args.source.now) (g.S.Source.left c.next.new.source) (g.S.Source.faults c.args.source.now) (g.S.Source.faults c.next.new.source)
    (g.K.Sink.written c.args.sink.now) (g.K.Sink.written c.end_run.new.sink) (g.K.Sink.faults c.args.sink.now) (g.K.Sink.faults c.end_run.new.sink)
    c.records-records.ensures c.in-Err.ensures.next c.end_run.ensures.ends)
