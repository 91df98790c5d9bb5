use Rattle.std.proofs.Common.{◌≡◌, refl, ap, ◌∙◌, arith}
use Rattle.gev_capture.specs.Walking.{CaptureState}
use Rattle.capture_runs.proofs.Walked.{stood_none, stood_on, stood_ends}
use Rattle.capture_runs.proofs.running.run_records.Goals as goal

pub records-init : goal.records-init
records-init g c = record {
  stood = stood_none g.T.Telling.texts (g.T.Telling.stands_for c.args.telling.now) c.args.reader.now c.new-moments.result c.args.out.now.items (g.S.Source.left c.args.source.now) (g.K.Sink.written c.args.sink.now) c.requires c.new-moments.ensures;
  counted = let none : c.args.reader.now.records ≡ 0 = ap (λ (r : CaptureState). r.records) c.requires in omega (arith, none);
  reads = refl;
  writes = refl;
}

pub records-preserved : goal.records-preserved
records-preserved g c = record {
  stood =
      stood_on g.T.Telling.texts (g.T.Telling.stands_for c.args.telling.now) (g.T.Telling.stands_for c.records.telling) (g.T.Telling.stands_for c.run_next.new.telling)
      c.records.reader c.run_next.new.reader c.records.moments c.run_next.new.moments c.args.out.now.items c.records.out.items c.run_next.new.out.items
      (g.S.Source.left c.args.source.now) (g.S.Source.left c.records.source) (g.S.Source.left c.run_next.new.source)
      (g.K.Sink.written c.args.sink.now) (g.K.Sink.written c.records.sink) (g.K.Sink.written c.run_next.new.sink)
      c.records.invariant.stood (c.in-None.ensures.goes refl);
  counted = c.in-None.ensures.counted refl;
  reads = c.in-None.ensures.reads_on refl ∙ c.records.invariant.reads;
  writes = c.in-None.ensures.writes_steady (λ e. absurd (cc)) ∙ c.records.invariant.writes;
}

pub returns-in-Some-clause-ends : goal.returns-in-Some-clause-ends
returns-in-Some-clause-ends g c =
    stood_ends g.T.Telling.texts (g.T.Telling.stands_for c.args.telling.now) (g.T.Telling.stands_for c.records.telling)
    c.records.reader c.records.moments c.args.out.now.items c.records.out.items
    (g.S.Source.left c.args.source.now) (g.S.Source.left c.records.source) (g.S.Source.left c.run_next.new.source)
    (g.S.Source.faults c.args.source.now) (g.S.Source.faults c.records.source) (g.S.Source.faults c.run_next.new.source)
    (g.K.Sink.written c.args.sink.now) (g.K.Sink.written c.records.sink) (g.K.Sink.written c.run_next.new.sink)
    (g.K.Sink.faults c.args.sink.now) (g.K.Sink.faults c.records.sink) (g.K.Sink.faults c.run_next.new.sink)
    c.in-Some.ending c.records.invariant.stood c.records.invariant.reads c.records.invariant.writes (c.in-Some.ensures.ends c.in-Some.ending refl)
