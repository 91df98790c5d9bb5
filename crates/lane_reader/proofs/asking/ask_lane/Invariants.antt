use Rattle.std.proofs.Common.{◌≡◌, ℕ, List, length}
use Rattle.gev_lanes.specs.Sides.{AreReadersOf}
use Rattle.gev_lanes.specs.Acts.{DoesAt}
use Rattle.gev_control.specs.Sends.{SendsOn, Fails}
use Rattle.lane_reader.proofs.Looping.{AskedSome}
use Rattle.lane_reader.proofs.asking.ask_lane.Given as goal

abbrev pub invariant-requests : goal.invariant-requests
invariant-requests g l = record {
  requests : List (List ℕ);
  reader : AreReadersOf l.lanes l.reader;
  asked : DoesAt (AskedSome requests) l.lane l.fn.reader l.reader;
  many : length requests ≡ l._request;
  sends : SendsOn l.camera requests l.fn.failed l.failed (g.M.Link.sent l.fn.control) (g.M.Link.sent l.control);
  fails : Fails l.fn.failed l.failed (g.M.Link.faults l.fn.control) (g.M.Link.faults l.control);
  received : g.M.Link.received l.control ≡ g.M.Link.received l.fn.control;
}
