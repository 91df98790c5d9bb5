use Rattle.std.proofs.lemmas.Result.{err_from_is_err_and}
use Rattle.acquisition_machine.specs.Runs.{first_state}
use Rattle.gev_record.specs.Writing.{noted}
use Rattle.gev_record.proofs.Texts.{writes_none}
use Rattle.gev_record.proofs.Turning.{script_stops_first, script_stops, script_ends}
use Rattle.gev_record.proofs.writing.write_script.Goals as goal

pub returns-in_err-player : goal.returns-in_err-player
returns-in_err-player g c =
    let p = err_from_is_err_and c.from_residual.result c.from_residual.ensures.1 in rw (p.1, p.2) (writes_none _ _ _)

pub returns-in_err-write_first : goal.returns-in_err-write_first
returns-in_err-write_first g c =
    let p = err_from_is_err_and c.from_residual-in_err-write_first.result c.from_residual-in_err-write_first.ensures.1 in
    rw (p.1, p.2)
    (script_stops_first _ _ _ _ _ (noted c.args.tape.now.kept c.args.marks.now) c.in_err-write_first.ensures)

pub returns-in_err-write_turns : goal.returns-in_err-write_turns
returns-in_err-write_turns g c =
    let p = err_from_is_err_and c.from_residual-in_err-write_turns.result c.from_residual-in_err-write_turns.ensures.1 in
    rw (p.1, p.2)
    (script_stops _ _ (g.K.Sink.written c.write_first.new.sink) _ _ (g.K.Sink.faults c.write_first.new.sink) _ (noted c.args.tape.now.kept c.args.marks.now)
    c.in_ok-write_first.ensures (c.in_err-write_turns.ensures.written first_state c.in_ok-player.ensures))

pub returns : goal.returns
returns g c =
    script_ends c.write_last.result _ (g.K.Sink.written c.write_first.new.sink) (g.K.Sink.written c.write_turns.new.sink) _ _ (g.K.Sink.faults c.write_first.new.sink)
    (g.K.Sink.faults c.write_turns.new.sink) _ (noted c.args.tape.now.kept c.args.marks.now) c.in_ok-write_first.ensures
    (c.in_ok-write_turns.ensures.written first_state c.in_ok-player.ensures)
    (c.write_last.ensures _ (c.in_ok-write_turns.ensures.stands first_state c.in_ok-player.ensures))
