use Rattle.std.proofs.Common.{codes, ap, ◌∙◌}
use Rattle.std.proofs.lemmas.Result.{on_ok_weaker}
use Rattle.board_calls.specs.Loans.{loan_value}
use Rattle.script_trace.specs.Answers.{value_text}
use Rattle.script_replay.proofs.Lent.{loan_calls, no_loan_calls}
use Rattle.script_replay.proofs.buffer_lines.loan_info_line.Goals as goal

pub returns-in-Ok : goal.returns-in-Ok
returns-in-Ok c =
    loan_calls c.line_info.result _ _ _ c.args.id c.args.which c.in-Ok.place _ _ c.in-Ok.ensures.place c.in-Ok.ensures.entries c.in-Ok.ensures.contents c.buf.ensures.content c.ds_return.ensures.entries c.ds_return.ensures.contents c.requires.ready
    (on_ok_weaker c.line_info.result
    (λ said. said ∙ ap (λ answer. value_text (codes "binfo") c.args.which answer) (c.loan_info-answer.ensures ∙ ap (λ rec. loan_value rec c.args.which) c.rec.ensures.value))
    c.line_info.ensures)

pub returns-in-Err : goal.returns-in-Err
returns-in-Err c = no_loan_calls c.line_refused.result _ _ c.args.id c.args.which c.in-Err.error _ c.in-Err.ensures.entries c.in-Err.ensures.contents c.requires.ready c.line_refused.ensures
