use Rattle.std.proofs.Common.{◌++◌, sym, ap, ◌∙◌}
use Rattle.std.proofs.lemmas.Result.{on_ok_weaker}
use Rattle.gev_report.specs.ReplayLines.{request_line}
use Rattle.script_replay.proofs.Widened.{form_stays, form_narrow}
use Rattle.script_replay.proofs.standard_requests.line_standard.Goals as goal

pub returns-then-not-is_narrow : goal.returns-then-not-is_narrow
returns-then-not-is_narrow c =
    on_ok_weaker c.line_request.result
    (λ told. told ∙ ap (λ bytes. c.args.out.now.items ++ request_line bytes) (sym (form_stays c.args.command.now c.asked_by-resend.result c.asked_by-resend.ensures (sym c.if-not-is_narrow.ensures))))
    c.line_request.ensures.line

pub returns : goal.returns
returns c =
    on_ok_weaker c.line_request-2.result
    (λ told. told ∙ ap (λ bytes. c.args.out.now.items ++ request_line bytes)
    (c.write_resend_std.ensures.written
    ∙ sym (form_narrow c.args.command.now c.asked_by-resend.result c.u16_at.result c.asked_by-resend.ensures (sym c.if-not-is_narrow.ensures) c.u16_at.ensures)))
    c.line_request-2.ensures.line
