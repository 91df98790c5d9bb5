use Rattle.std.proofs.Common.{◌≡◌, ℕ, List, Option}
use Rattle.gev_links.specs.Moments.{Tells}
use Rattle.first_leader.specs.Waiting.{Waits}
use Rattle.first_leader.proofs.waiting.await_leader.Given as goal

abbrev pub invariant-turns : goal.invariant-turns
invariant-turns g l = record {
  first : Option (List ℕ);
  begun : Tells (g.C.Clock.told l.fn.clock) first l.begin;
  waits :
      Waits l.fn.camera l.patience.silence l.begin
      (record { received = g.L.Link.received l.fn.stream; heard = g.M.Link.received l.fn.control; sent = g.M.Link.sent l.fn.control; told = first; client = l.fn.client })
      l.pace
      (record { received = g.L.Link.received l.stream; heard = g.M.Link.received l.control; sent = g.M.Link.sent l.control; told = g.C.Clock.told l.clock; client = l.client });
  stream : g.L.Link.faults l.stream ≡ g.L.Link.faults l.fn.stream;
  control : g.M.Link.faults l.control ≡ g.M.Link.faults l.fn.control;
}
