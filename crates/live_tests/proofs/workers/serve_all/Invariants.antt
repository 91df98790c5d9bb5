use Rattle.std.proofs.Common.{◌≡◌, vec_len}
use Rattle.gev_lanes.specs.Sides.{AreReadersOf, AreLanesOf}
use Rattle.live_tests.proofs.workers.serve_all.Given as goal

abbrev pub invariant-lanes : goal.invariant-lanes
invariant-lanes g l = record {
  readers : AreReadersOf l.lanes l.reader;
  lanes : AreLanesOf l.lanes l.all.items;
  table : l.pass.table ≡ l.fn.pass.table;
}

abbrev pub decreases-lanes : goal.decreases-lanes
decreases-lanes g l = vec_len l.all
