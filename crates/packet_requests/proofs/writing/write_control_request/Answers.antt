use Rattle.std.proofs.Common.{ℕ, List, ◌++◌, length, drop, ap, ◌∙◌, arith}
use Rattle.packet_requests.proofs.Asking.{written_command}
use Rattle.packet_requests.proofs.writing.write_control_request.Goals as goal

pub returns-clause-written : goal.returns-clause-written
returns-clause-written c =
    c.write_form.ensures.written
    ∙ ap (λ (l : List ℕ). l ++ drop c.write_form.result c.args.out.now)
    (written_command c.args.ids c.args.request.now c.resend_at-resend.result c.u16_at.result c.request_number-number.result c.is_standard.result
    (omega arith) c.resend_at-resend.ensures c.u16_at.ensures c.request_number-number.ensures.is c.is_standard.ensures)

pub returns-clause-size : goal.returns-clause-size
returns-clause-size c =
    c.write_form.ensures.size
    ∙ ap length
    (written_command c.args.ids c.args.request.now c.resend_at-resend.result c.u16_at.result c.request_number-number.result c.is_standard.result
    (omega arith) c.resend_at-resend.ensures c.u16_at.ensures c.request_number-number.ensures.is c.is_standard.ensures)
