use Rattle.std.proofs.Common.{◌≡◌, ℕ, List, take}
use Rattle.client_machine.specs.Machine.{IsIdle}
use Rattle.gev_links.specs.Told.{Appends}
use Rattle.camera_registers.specs.Registers.{HasMade}
use Rattle.camera_registers.proofs.accessing.access_each.Given as goal

abbrev pub invariant-loop-place : goal.invariant-loop-place
invariant-loop-place g l = record {
  text : List ℕ;
  so :
      HasMade l.camera
      (record { heard = g.L.Link.received l.fn.link; sent = g.L.Link.sent l.fn.link; told = g.C.Clock.told l.fn.clock; client = l.fn.client })
      (take l.place l.accesses)
      (record { heard = g.L.Link.received l.link; sent = g.L.Link.sent l.link; told = g.C.Clock.told l.clock; client = l.client })
      text;
  idle : IsIdle l.client;
  wrote : Appends (g.K.Sink.written l.fn.sink) (g.K.Sink.written l.sink) text;
  link_faults : g.L.Link.faults l.link ≡ g.L.Link.faults l.fn.link;
  sink_faults : g.K.Sink.faults l.sink ≡ g.K.Sink.faults l.fn.sink;
}
