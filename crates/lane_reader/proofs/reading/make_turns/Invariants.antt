use Rattle.std.proofs.Common.{◌≡◌, length}
use Rattle.buffer_words.specs.Passes.{SameHands}
use Rattle.gev_lanes.specs.Sides.{AreReadersOf}
use Rattle.lane_reader.proofs.Turns.{GoesOn}
use Rattle.lane_reader.proofs.reading.make_turns.Given as goal

abbrev pub invariant-turns : goal.invariant-turns
invariant-turns g l = record {
  on : GoesOn (length l.lanes) l.camera
      (record { received = g.L.Link.received l.fn.lent.stream.now; heard = g.M.Link.received l.fn.lent.control.now; sent = g.M.Link.sent l.fn.lent.control.now; told = g.C.Clock.told l.fn.lent.clock.now; client = l.fn.lent.client.now })
      (record { received = g.L.Link.received l.lent.stream.now; heard = g.M.Link.received l.lent.control.now; sent = g.M.Link.sent l.lent.control.now; told = g.C.Clock.told l.lent.clock.now; client = l.lent.client.now })
      l._turn l.fn.reader l.reader l.fn.pass l.pass;
  reader : AreReadersOf l.lanes l.reader;
  stream_count : g.L.Link.faults l.lent.stream.now ≡ g.L.Link.faults l.fn.lent.stream.now;
  control_count : g.M.Link.faults l.lent.control.now ≡ g.M.Link.faults l.fn.lent.control.now;
  same_stream : l.lent.stream.ghost_name ≡ l.fn.lent.stream.ghost_name;
  same_control : l.lent.control.ghost_name ≡ l.fn.lent.control.ghost_name;
  same_clock : l.lent.clock.ghost_name ≡ l.fn.lent.clock.ghost_name;
  same_client : l.lent.client.ghost_name ≡ l.fn.lent.client.ghost_name;
  table : l.pass.table ≡ l.fn.pass.table;
  hands : SameHands l.fn.pass l.pass;
}
