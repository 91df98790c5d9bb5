use Rattle.std.proofs.Common.{refl, lit≤}
use Rattle.board_calls.specs.Infos.{Infos}
use Rattle.script_trace.specs.BoardLines.{InfoLine}
use Rattle.script_replay.proofs.Quiet.{info_quiet}
use Rattle.script_replay.proofs.Calling.{quiet_calls}
use Rattle.script_replay.proofs.board_lines.info.Goals as goal

pub ds_info-answer-requires : goal.ds_info-answer-requires
ds_info-answer-requires c = record { actor = c.requires.ready.actors 0 (lit≤ tt) }

pub returns : goal.returns
returns c =
    quiet_calls c.line_info.result _ _ (Infos c.args.which c.ds_info-answer.result) (λ t. InfoLine t c.args.which) _ _ (info_quiet c.args.which c.ds_info-answer.result)
    (λ t es kind. (c.ds_info-answer.result, record { events = es; kind = kind; is = refl })) c.requires.ready c.ds_info-answer.ensures.entries c.ds_info-answer.ensures.contents c.line_info.ensures
