use Rattle.std.proofs.Common.{◌≡◌, []}
use Rattle.acq_core.specs.Receiver.{config_of, buffers, Stands}
use Rattle.acq_core.specs.Waiting.{waiting_fills, waiting_requests}
use Rattle.gev_acq.specs.Buffers.{Backs, HoldsAlone}
use Rattle.camera_reader.proofs.Turning.{SoFar}
use Rattle.camera_reader.proofs.looping.read_camera.Given as goal

abbrev pub invariant-turns : goal.invariant-turns
invariant-turns g l = record {
  so : SoFar l.words.mode (config_of l.fn.acq) l.words.ids l.words.camera l.words.silence l.begin (Stands l.fn.acq) (Stands l.acq)
      (record { received = g.L.Link.received l.fn.host.stream; heard = g.M.Link.received l.fn.host.control; sent = g.M.Link.sent l.fn.host.control; told = g.C.Clock.told l.fn.host.clock; client = l.fn.host.client })
      (record { received = g.L.Link.received l.host.stream; heard = g.M.Link.received l.host.control; sent = g.M.Link.sent l.host.control; told = g.C.Clock.told l.host.clock; client = l.host.client })
      l.state.clock l.state.hearing.widener l.state.hearing.refused l.listening l.fn.pass l.pass;
  stream_count : g.L.Link.faults l.host.stream ≡ g.L.Link.faults l.fn.host.stream;
  control_count : g.M.Link.faults l.host.control ≡ g.M.Link.faults l.fn.host.control;
  table : l.pass.table ≡ l.fn.pass.table;
  config : config_of l.acq ≡ config_of l.fn.acq;
  fills : waiting_fills l.acq ≡ [];
  requests : waiting_requests l.acq ≡ [];
  backs : Backs l.pass (buffers l.acq);
  alone : HoldsAlone l.fn.pass (buffers l.fn.acq) → HoldsAlone l.pass (buffers l.acq);
}
