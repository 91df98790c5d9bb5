use Rattle.std.proofs.Common.{◌≡◌, ◌+◌, ◌≤◌, [], vec_len, vec_capacity}
use Rattle.acq_core.specs.Receiver.{config_of, buffers, Stands}
use Rattle.acq_core.specs.Waiting.{waiting_fills, waiting_requests}
use Rattle.gev_acq.specs.Buffers.{Backs, HoldsAlone}
use Rattle.gev_acq.proofs.AllTurns.{GoesOn}
use Rattle.gev_acq.proofs.acquiring.acquire.Given as goal

abbrev pub invariant-loop-turn : goal.invariant-loop-turn
invariant-loop-turn g l = record {
  on : GoesOn l.mode (config_of l.fn.acq) l.camera (Stands l.fn.acq) (Stands l.acq)
      (record { received = g.L.Link.received l.fn.stream; heard = g.M.Link.received l.fn.control; sent = g.M.Link.sent l.fn.control; told = g.C.Clock.told l.fn.clock; client = l.fn.client })
      (record { received = g.L.Link.received l.stream; heard = g.M.Link.received l.control; sent = g.M.Link.sent l.control; told = g.C.Clock.told l.clock; client = l.client })
      l.fn.journal.items l.journal.items l._turn l.fn.pass l.pass;
  stream_count : g.L.Link.faults l.stream ≡ g.L.Link.faults l.fn.stream;
  control_count : g.M.Link.faults l.control ≡ g.M.Link.faults l.fn.control;
  table : l.pass.table ≡ l.fn.pass.table;
  config : config_of l.acq ≡ config_of l.fn.acq;
  fills : waiting_fills l.acq ≡ [];
  requests : waiting_requests l.acq ≡ [];
  backs : Backs l.pass (buffers l.acq);
  alone : HoldsAlone l.fn.pass (buffers l.fn.acq) → HoldsAlone l.pass (buffers l.acq);
  room : vec_len l.journal + l.turns ≤ vec_capacity l.journal + l._turn;
}
