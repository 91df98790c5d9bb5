-- A payload is read with the header that was read.
use Rattle.std.proofs.Common.{◌≡◌, List, ℕ, false, Ok, refl, sym, subst, ◌∙◌}
use Rattle.std.specs.Prelude.{Result}
use Rattle.stream_packets.specs.declared.fields.Head.{Head}
use Rattle.stream_packets.specs.Packets.{StreamPacket}
use Rattle.gvsp_wire.specs.declared.form.Form.{Form}
use Rattle.gvsp_wire.specs.declared.form.Form.TheVariants.{Payload}
use Rattle.gvsp_wire.specs.declared.wire_error.WireError.{WireError}
use Rattle.gvsp_wire.specs.Wire.{is_notice_status}
use Rattle.gvsp_wire.specs.Reading.{header_of, payload_of, reading}
use Rattle.gvsp_wire.proofs.reading.read_packet.Goals as goal

payload_after : (bytes : List ℕ) (h : Head) (r : Result StreamPacket WireError) → Ok (Payload, h) ≡ header_of bytes → is_notice_status h.status ≡ false → r ≡ payload_of h bytes → r ≡ reading bytes
unfolding reading
payload_after bytes h r e n is = is ∙ rw (← e, n) refl

pub returns-in-Payload : goal.returns-in-Payload
returns-in-Payload c =
    payload_after c.args.bytes.now c.in_ok-form.head _
    (subst (λ (f : Form). Ok (f, c.in_ok-form.head) ≡ header_of c.args.bytes.now) c.in-Payload.is c.in_ok-form.ensures)
    (sym c.is_notice.ensures ∙ c.if-is_notice.false) c.payload.ensures
