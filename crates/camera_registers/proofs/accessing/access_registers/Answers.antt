use Rattle.std.proofs.Common.{subst}
use Rattle.client_machine.specs.Machine.{Client}
use Rattle.gev_control.specs.CarriesOut.{ControlSide}
use Rattle.camera_registers.specs.Registers.{Accesses}
use Rattle.camera_registers.proofs.accessing.access_registers.Goals as goal

pub returns-then-writes_any-clause-accesses : goal.returns-then-writes_any-clause-accesses
returns-then-writes_any-clause-accesses g c =
    let n : ControlSide = record { heard = g.L.Link.received c.access_held.new.link; sent = g.L.Link.sent c.access_held.new.link; told = g.C.Clock.told c.access_held.new.clock; client = c.access_held.new.client } in (
      c.access_held.new.client,
      subst (λ (x : Client). Accesses c.args.camera c.args.accesses.now
          (record { heard = g.L.Link.received c.args.link.now; sent = g.L.Link.sent c.args.link.now; told = g.C.Clock.told c.args.clock.now; client = x }) n
          c.access_held.result (g.K.Sink.written c.args.sink.now) (g.K.Sink.written c.access_held.new.sink)) c.with_limit-client.ensures.new c.access_held.ensures.accesses,
    )
