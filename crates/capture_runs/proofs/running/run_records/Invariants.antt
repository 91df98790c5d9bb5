use Rattle.std.proofs.Common.{◌≡◌, ◌≤◌, ◌-◌, ◌^◌}
use Rattle.capture_runs.proofs.Walked.{Stood}
use Rattle.capture_runs.proofs.running.run_records.Given as goal

abbrev pub invariant-records : goal.invariant-records
invariant-records g l = record {
  stood : Stood g.T.Telling.texts (g.T.Telling.stands_for l.fn.telling) (g.T.Telling.stands_for l.telling) l.reader l.moments l.fn.out.items l.out.items
      (g.S.Source.left l.fn.source) (g.S.Source.left l.source) (g.K.Sink.written l.fn.sink) (g.K.Sink.written l.sink);
  counted : l.reader.records ≤ 2 ^ 64 - 1;
  reads : g.S.Source.faults l.source ≡ g.S.Source.faults l.fn.source;
  writes : g.K.Sink.faults l.sink ≡ g.K.Sink.faults l.fn.sink;
}

abbrev pub decreases-records : goal.decreases-records
decreases-records g l = 2 ^ 64 - l.reader.records
