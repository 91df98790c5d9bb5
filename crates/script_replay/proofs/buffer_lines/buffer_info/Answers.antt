use Rattle.std.proofs.Common.{sym, ◌∙◌}
use Rattle.script_replay.proofs.Lent.{buffer_info_calls}
use Rattle.script_replay.proofs.buffer_lines.buffer_info.Goals as goal

pub returns : goal.returns
returns c =
    buffer_info_calls c.line_info.result _ _ c.args.id c.args.which c.ds_buffer_info-answer.result _ (sym c.is_of_loan.ensures ∙ c.if-is_of_loan.false) c.ds_buffer_info-answer.ensures.entries c.ds_buffer_info-answer.ensures.contents c.requires.ready c.line_info.ensures
