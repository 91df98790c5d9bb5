use Rattle.std.proofs.Common.{◌≡◌, [], take, map}
use Rattle.client_machine.specs.Machine.{IsIdle}
use Rattle.camera_control.specs.Steps.{stop_step}
use Rattle.camera_control.specs.Taking.{Goes}
use Rattle.camera_control.proofs.leaving.stop_each.Given as goal

abbrev pub invariant-loop-place : goal.invariant-loop-place
invariant-loop-place g l = record {
  so : Goes l.camera (map stop_step (take l.place l.stops)) [] l.refused
      (record { heard = g.L.Link.received l.fn.control; sent = g.L.Link.sent l.fn.control; told = g.C.Clock.told l.fn.clock; client = l.fn.client })
      (record { heard = g.L.Link.received l.control; sent = g.L.Link.sent l.control; told = g.C.Clock.told l.clock; client = l.client });
  idle : IsIdle l.client;
  faults : g.L.Link.faults l.control ≡ g.L.Link.faults l.fn.control;
}
