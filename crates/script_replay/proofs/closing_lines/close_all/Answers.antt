use Rattle.std.proofs.Common.{Some, ap, ◌∙◌}
use Rattle.gentl_handles.specs.Closing.{is_among}
use Rattle.std.proofs.lemmas.Result.{on_ok_weaker}
use Rattle.gentl_handles.specs.Storing.{serials_of}
use Rattle.script_replay.proofs.Closing.{close_acts, refused_close, closed_so, refused_so}
use Rattle.script_replay.proofs.closing_lines.close_all.Goals as goal

pub returns-in-Ok-clause-acts : goal.returns-in-Ok-clause-acts
returns-in-Ok-clause-acts c =
    on_ok_weaker c.close_board.result
    (λ acts. close_acts c.args.board.now c.close_board.new.board c.args.tree.now c.args.serial (serials_of c.in-Ok.closed.items) c.names_stream.result _
    (closed_so _ _ c.close_under.result c.in-Ok.closed (λ hs. serials_of hs.items) c.in-Ok.is c.close_under.ensures.closed) (c.names_stream.ensures ∙ ap (λ hs. is_among (serials_of hs) (Some 4)) c.as_slice.ensures.value) acts)
    c.close_board.ensures.acts

pub returns-in-Err-clause-acts : goal.returns-in-Err-clause-acts
returns-in-Err-clause-acts c =
    on_ok_weaker c.line_refused.result
    (λ told. refused_close c.args.board.now c.args.tree.now c.args.serial c.in-Err.error _ (refused_so _ _ c.close_under.result c.in-Err.error (λ hs. serials_of hs.items) c.in-Err.is c.close_under.ensures.closed) told)
    c.line_refused.ensures
