use Rattle.std.proofs.Common.{◌≡◌, []}
use Rattle.acq_core.specs.Receiver.{config_of, buffers, Stands}
use Rattle.acq_core.specs.Waiting.{waiting_fills, waiting_requests}
use Rattle.gev_acq.specs.Buffers.{Backs, HoldsAlone}
use Rattle.gev_lanes.specs.Sides.{IsLaneAt}
use Rattle.lane_crew.proofs.Cells.{Serving}
use Rattle.lane_crew.proofs.lane_running.lane.Given as goal

abbrev pub invariant-cells : goal.invariant-cells
invariant-cells g l = record {
  so : Serving l.fn.mode (config_of l.fn.acq) (Stands l.fn.acq) (Stands l.acq) l.fn.ends l.ends l.fn.pass l.pass;
  lane : IsLaneAt l.lanes l.ends;
  table : l.pass.table ≡ l.fn.pass.table;
  config : config_of l.acq ≡ config_of l.fn.acq;
  fills : waiting_fills l.acq ≡ [];
  requests : waiting_requests l.acq ≡ [];
  backs : Backs l.pass (buffers l.acq);
  alone : HoldsAlone l.fn.pass (buffers l.fn.acq) → HoldsAlone l.pass (buffers l.acq);
}
