-- What is written of PACKETRESEND is read as that command.
use Rattle.std.proofs.Common.{ℕ, ◌^◌, ◌<◌, ◌≤◌, arith}
use Rattle.wire_fields.specs.Fields.{spelled}
use Rattle.wire_fields.proofs.Spellings.{fields_spelled, whole_spelled}
use Rattle.gvcp_wire.specs.Control.{header_fields}
use Rattle.gvcp_wire.specs.declared.resend.Resend.{Resend}
use Rattle.gvsp_std.specs.Asking.{std_resend_head, std_resend_body_fields, std_resend_fields, IsStandardResend}

pub asked_again : (req : ℕ) (resend : Resend) → req < 2 ^ 16 → resend.channel < 2 ^ 16 → resend.first < 2 ^ 32 → resend.last < 2 ^ 32 → 1 ≤ resend.block
    → IsStandardResend (spelled (std_resend_fields req resend)) req resend
asked_again req resend number channel first last block = record {
  body = spelled (std_resend_body_fields resend);
  header = fields_spelled (header_fields 0x42 (std_resend_head req) 12) (spelled (std_resend_body_fields resend))
      (omega arith, (omega arith, (omega arith, (omega arith, (number, tt)))));
  asked = whole_spelled (std_resend_body_fields resend) (channel, (omega arith, (first, (last, tt))));
}
