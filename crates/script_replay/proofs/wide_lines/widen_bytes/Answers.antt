use Rattle.std.proofs.Common.{[], length, sym, subst}
use Rattle.hex.specs.Hex.{encode_lower}
use Rattle.gvsp_std.proofs.Written.{widened_fits}
use Rattle.gev_script.specs.Lines as script_line
use Rattle.script_replay.specs.Replays.{Goes}
use Rattle.script_replay.specs.Widely.{DoesBytes}
use Rattle.script_replay.proofs.Widened.{widened_does, refused_does, front_is}
use Rattle.script_replay.proofs.wide_lines.widen_bytes.Goals as goal

pub widen-requires-clause-room : goal.widen-requires-clause-room
widen-requires-clause-room c = widened_fits c.args.script.now.widening.widener c.args.bytes.now (length c.args.wide_room.now) c.requires.room

pub returns-in-Ok : goal.returns-in-Ok
returns-in-Ok c l =
    let w = c.in-Ok.ensures.answer in
    widened_does l c.args.bytes.now c.args.script.now c.receive_bytes.new.running c.widen.new.self w.block w.wide w.is w.top_is
    (subst (λ bytes. Goes (script_line.datagram (encode_lower bytes)) c.args.script.now.running [] c.receive_bytes.new.running) (front_is _ w.wide _ c.in-Ok.len w.written w.len_is) c.receive_bytes.ensures.goes)

pub returns-in-Err : goal.returns-in-Err
returns-in-Err c l =
    let w = c.in-Err.ensures.answer in
    subst (λ top. DoesBytes l c.args.bytes.now c.args.script.now (record { running = c.args.script.now.running; widening = record c.args.script.now.widening { widener = top; refused = c.saturating_add-script.result } })) (sym w.top_stays)
    (refused_does l c.args.bytes.now c.args.script.now c.in-Err._refusal c.saturating_add-script.result w.is c.saturating_add-script.ensures c.requires.keeps)
