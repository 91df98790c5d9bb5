use Rattle.std.proofs.Common.{ℕ, arith, sym, subst, List}
use Rattle.wire_fields.specs.Fields.{spelled}
use Rattle.wire_fields.proofs.Spellings.{length-spelled}
use Rattle.gvcp_wire.specs.Control.{header_fields}
use Rattle.gvsp_std.specs.Asking.{std_resend_head, std_resend_body_fields, IsStandardResend}
use Rattle.gvsp_std.proofs.Written.{joined_whole}
use Rattle.gvsp_std.proofs.Asked.{asked_again}
use Rattle.gvsp_std.proofs.resending.write_resend_std.Goals as goal

pub returns-clause-written : goal.returns-clause-written
returns-clause-written c =
    joined_whole c.args.out.now (spelled (header_fields 0x42 (std_resend_head c.args.req) 12)) (spelled (std_resend_body_fields c.args.resend)) c.write_head.new.out
    c.write_body.new.out 8 12 (length-spelled (header_fields 0x42 (std_resend_head c.args.req) 12)) (omega arith) c.write_head.ensures c.write_body.ensures.written

pub returns-clause-read_again : goal.returns-clause-read_again
returns-clause-read_again c =
    subst (λ (l : List ℕ). IsStandardResend l c.args.req c.args.resend) (sym (returns-clause-written c))
    (asked_again c.args.req c.args.resend (omega arith) c.write_body.ensures.channel c.write_body.ensures.first c.write_body.ensures.last c.requires.block)
