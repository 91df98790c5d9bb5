use Rattle.std.proofs.Common.{◌≡◌, ◌-◌, ◌≤◌, length}
use Rattle.gev_capture.specs.Steps.{format_of}
use Rattle.gev_capture.proofs.Coming.{Came}
use Rattle.gev_capture.proofs.reading.find_record.Given as goal

abbrev pub invariant-reading : goal.invariant-reading
invariant-reading g l = record {
  came : Came (format_of l.form l.interfaces) l.fn.room l.room (g.S.Source.left l.fn.source) (g.S.Source.left l.source);
  steady : g.S.Source.faults l.source ≡ g.S.Source.faults l.fn.source;
  few : length l.room ≤ 1114112;
}

abbrev pub decreases-reading : goal.decreases-reading
decreases-reading g l = 1200000 - length l.room
