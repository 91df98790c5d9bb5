use Rattle.std.proofs.Common.{ap, refl, Err}
use Rattle.gev_control.specs.CarriesOut.{ControlSide}
use Rattle.camera_registers.specs.declared.register_fault.RegisterFault.{RegisterFault}
use Rattle.camera_registers.specs.Registers.{Outcome, gained, not_gained}
use Rattle.camera_registers.proofs.Made.{gain_fails, gain_no_write, fails_then, gives_steady, gives_failed}
use Rattle.camera_registers.proofs.accessing.access_held.Goals as goal

pub returns-in-Ok-clause-accesses : goal.returns-in-Ok-clause-accesses
returns-in-Ok-clause-accesses g c =
    let m : ControlSide = record { heard = g.L.Link.received c.gain_control.new.control; sent = g.L.Link.sent c.gain_control.new.control; told = g.C.Clock.told c.gain_control.new.clock; client = c.gain_control.new.client } in
    let k : ControlSide = record { heard = g.L.Link.received c.access_each-made.new.link; sent = g.L.Link.sent c.access_each-made.new.link; told = g.C.Clock.told c.access_each-made.new.clock; client = c.access_each-made.new.client } in
    gained c.requires.any m k c.access_each-made.result c.in-Ok.ensures.runs c.access_each-made.ensures.makes c.give_away.ensures.gives

pub returns-in-Err-clause-accesses : goal.returns-in-Err-clause-accesses
returns-in-Err-clause-accesses g c =
    not_gained c.requires.any c.in-Err.cause c.in-Err.ensures.runs (ap (λ (f : RegisterFault). Err f) c.fault_by.ensures) refl
