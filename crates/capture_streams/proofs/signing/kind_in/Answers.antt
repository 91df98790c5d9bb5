-- A payload is told with the bytes that it has.
use Rattle.std.proofs.Common.{◌≡◌, refl, rules}
use Rattle.gvsp_wire.specs.declared.packet.Packet.TheVariants.{Payload}
use Rattle.capture_streams.proofs.signing.kind_in.Goals as goal

pub returns-in-Ok-Payload : goal.returns-in-Ok-Payload
returns-in-Ok-Payload c =
    let is : c.in-Ok-Payload.field-0 ≡ Payload c.in-Ok-Payload.field-0-0 c.in-Ok-Payload.bytes = first_of (cc, search rules) in
    rw c.in-Ok-Payload.is (rw is refl)
