use Rattle.std.proofs.Common.{◌≡◌, ◌≤◌, List, length}
use Rattle.gev_control.specs.Orders.{commands_of}
use Rattle.gev_control.specs.OrderTurns.{OrderTurned}
use Rattle.gev_control.specs.CarriesOut.{CarriesOn}
use Rattle.gev_control.proofs.carrying.carry_out.Given as goal

abbrev pub invariant-turns : goal.invariant-turns
invariant-turns g l = record {
  made : List OrderTurned;
  so :
      CarriesOn l.camera (commands_of l.orders)
      (record {
        heard = g.L.Link.received l.fn.control;
        sent = g.L.Link.sent l.fn.control;
        told = g.C.Clock.told l.fn.clock;
        client = l.fn.client;
      })
      (record { heard = g.L.Link.received l.control; sent = g.L.Link.sent l.control; told = g.C.Clock.told l.clock; client = l.client })
      l.begun made;
  few : l.begun ≤ length l.orders;
  faults : g.L.Link.faults l.control ≡ g.L.Link.faults l.fn.control;
}
