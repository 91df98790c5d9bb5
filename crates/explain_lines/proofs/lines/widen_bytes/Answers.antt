use Rattle.std.proofs.Common.{[], ◌∷◌, ◌++◌, length, sym, ap, subst, ◌∙◌}
use Rattle.std.proofs.lemmas.Result.{on_ok_weaker}
use Rattle.hex.specs.Hex.{encode_lower}
use Rattle.gvsp_std.proofs.Written.{widened_fits}
use Rattle.gev_script.specs.Lines as script_line
use Rattle.note_tape.specs.declared.told.Told.TheVariants.{Unwidened}
use Rattle.script_replay.proofs.Widened.{front_is}
use Rattle.explain_lines.specs.Telling.{GoesTold, TellsLine}
use Rattle.explain_lines.proofs.Noted.{widened_tells, refused_tells}
use Rattle.explain_lines.proofs.lines.widen_bytes.Goals as goal

pub widen-requires-clause-room : goal.widen-requires-clause-room
widen-requires-clause-room c = widened_fits c.args.script.now.widening.widener c.args.bytes.now (length c.args.wide_room.now) c.requires.room

pub returns-in-Ok : goal.returns-in-Ok
returns-in-Ok c =
    on_ok_weaker c.receive_bytes.result
    (λ goes digits is.
    let w = c.in-Ok.ensures.answer in
    widened_tells digits c.args.bytes.now c.args.script.now c.receive_bytes.new.tape.items c.receive_bytes.new.running c.widen.new.self w.block w.wide is c.requires.standard w.is w.top_is
    (subst (λ bytes. GoesTold (script_line.datagram (encode_lower bytes)) c.args.script.now.running [] c.receive_bytes.new.tape.items c.receive_bytes.new.running) (front_is _ w.wide _ c.in-Ok.len w.written w.len_is) goes))
    c.receive_bytes.ensures.wide

pub returns-in_ok-push-in-Err : goal.returns-in_ok-push-in-Err
returns-in_ok-push-in-Err c digits is =
    let w = c.in-Err.ensures.answer in
    subst (λ top. TellsLine (script_line.datagram digits) c.args.script.now [] c.push.new.self.items (record { running = c.args.script.now.running; widening = record c.args.script.now.widening { widener = top; refused = c.saturating_add-script.result } })) (sym w.top_stays)
    (refused_tells digits c.args.bytes.now c.args.script.now c.push.new.self.items c.in-Err.refusal c.saturating_add-script.result c.requires.keeps is c.requires.standard w.is c.saturating_add-script.ensures
    (c.in_ok-push-in-Err.ensures.items ∙ ap (λ l. l ++ Unwidened c.in-Err.refusal ∷ []) c.requires.untold))
