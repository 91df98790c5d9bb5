use Rattle.std.proofs.Common.{◌≡◌, ℕ, List}
use Rattle.gev_lanes.specs.Sides.{AreReadersOf}
use Rattle.gev_control.specs.Sends.{SendsOn, Fails}
use Rattle.lane_reader.specs.LanesTurns.{joined}
use Rattle.lane_reader.proofs.Looping.{AskedTo}
use Rattle.lane_reader.proofs.asking.ask_lanes.Given as goal

abbrev pub invariant-lanes : goal.invariant-lanes
invariant-lanes g l = record {
  asked : List (List (List ℕ));
  reader : AreReadersOf l.lanes l.reader;
  to : AskedTo l.lane asked l.fn.reader l.reader;
  sends : SendsOn l.camera (joined asked) l.fn.failed l.failed (g.M.Link.sent l.fn.control) (g.M.Link.sent l.control);
  fails : Fails l.fn.failed l.failed (g.M.Link.faults l.fn.control) (g.M.Link.faults l.control);
  received : g.M.Link.received l.control ≡ g.M.Link.received l.fn.control;
}
