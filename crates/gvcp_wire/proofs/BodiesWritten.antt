-- What is written is in the relations.
use Rattle.std.proofs.Common.{ℕ, List, [], refl, sym, subst, arith}
use Rattle.wire_fields.specs.Fields.{HasFields}
use Rattle.wire_fields.proofs.Spellings.{whole_spelled}
use Rattle.gvcp_wire.specs.Messages.{PlainAck}
use Rattle.gvcp_wire.specs.Control.{discovery, packet_resend}
use Rattle.gvcp_wire.proofs.Written.{is_written_command}
use Rattle.gvcp_wire.specs.declared.resend.Resend.{Resend}
use Rattle.gvcp_wire.specs.Bodies.{resend_fields, pending_fields, IsResendBody, resend_body, resend_head, resend_command, IsWithin, discovery_head, discovery_command}
use Rattle.gvcp_wire.specs.BodyLaws.{WritesResend, WritesDiscovery, WritesPending}

resend_body_is : (resend : Resend) → IsWithin resend → IsResendBody (resend_body resend) resend
resend_body_is resend w = record {
  reserved = 0;
  fields = whole_spelled (resend_fields 0 resend) (w.channel, (omega arith, (w.first, (w.last, (w.block, tt)))));
}

pub writes_resend : (req : ℕ) (resend : Resend) → WritesResend req resend
writes_resend req resend low high w = record {
  command = (is_written_command (resend_head req) (resend_command resend)).read_again
      (record { request = low; allowed = (refl, packet_resend refl refl refl); fits = omega arith })
      (record { flags = omega arith; code = omega arith; request = high; body = tt });
  body = record { code = refl; extended = refl; spelled = resend_body_is resend w };
}

pub writes_discovery : (req : ℕ) → WritesDiscovery req
writes_discovery req low high =
    (is_written_command (discovery_head req) discovery_command).read_again
    (record { request = low; allowed = (refl, discovery refl refl); fits = omega arith })
    (record { flags = omega arith; code = omega arith; request = high; body = tt })

pub writes_pending : (ack : PlainAck) (time : ℕ) → WritesPending ack time
writes_pending ack time code body fits =
    let fields : HasFields ack.body (pending_fields 0 time) [] =
    subst (λ (l : List ℕ). HasFields l (pending_fields 0 time) []) (sym body) (whole_spelled (pending_fields 0 time) (omega arith, (fits, tt))) in
    record { code = code; spelled = record { reserved = 0; fields = fields } }
