use Rattle.std.proofs.Common.{◌≡◌}
use Rattle.gev_control.specs.Orders.{commands_of}
use Rattle.gev_control.specs.CarriesThrough.{GoesThrough}
use Rattle.gev_control.proofs.going_through.carry_out_all.Given as goal

abbrev pub invariant-loop-place : goal.invariant-loop-place
invariant-loop-place g l = record {
  through :
      GoesThrough l.camera (commands_of l.orders)
      (record {
        heard = g.L.Link.received l.fn.control;
        sent = g.L.Link.sent l.fn.control;
        told = g.C.Clock.told l.fn.clock;
        client = l.fn.client;
      })
      l.place
      (record { heard = g.L.Link.received l.control; sent = g.L.Link.sent l.control; told = g.C.Clock.told l.clock; client = l.client })
      l.refused;
  faults : g.L.Link.faults l.control ≡ g.L.Link.faults l.fn.control;
}
