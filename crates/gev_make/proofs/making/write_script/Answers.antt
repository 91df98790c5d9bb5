use Rattle.std.proofs.Common.{Err}
use Rattle.std.proofs.lemmas.Result.{err_from_is_err_and}
use Rattle.gev_make.proofs.Texts.{writes_then, writes_stops}
use Rattle.gev_make.proofs.Turns.{script_text}
use Rattle.gev_make.proofs.making.write_script.Goals as goal

pub returns-in_err-write_opening : goal.returns-in_err-write_opening
returns-in_err-write_opening g c =
    let p = err_from_is_err_and c.from_residual-in_err-write_opening.result c.from_residual-in_err-write_opening.ensures.1 in
    rw (p.1, p.2, script_text c.args.seed c.args.frames c.args.rates c.new_network-network.result c.new_network-network.ensures)
    (writes_stops _ _ _ _ _ _ _ c.in_err-write_opening.ensures)

pub returns-in_err-write_blocks : goal.returns-in_err-write_blocks
returns-in_err-write_blocks g c =
    let p = err_from_is_err_and c.from_residual-in_err-write_blocks.result c.from_residual-in_err-write_blocks.ensures.1 in
    rw (p.1, p.2, script_text c.args.seed c.args.frames c.args.rates c.new_network-network.result c.new_network-network.ensures)
    (writes_then (Err _) _ (g.K.Sink.written c.write_opening.new.sink) _ _ (g.K.Sink.faults c.write_opening.new.sink) _ _ _
    c.in_ok-write_opening.ensures (writes_stops _ _ _ _ _ _ _ c.in_err-write_blocks.ensures))

pub returns : goal.returns
returns g c =
    rw (script_text c.args.seed c.args.frames c.args.rates c.new_network-network.result c.new_network-network.ensures)
    (writes_then c.write_closing.result _ (g.K.Sink.written c.write_opening.new.sink) _ _ (g.K.Sink.faults c.write_opening.new.sink) _ _ _
    c.in_ok-write_opening.ensures
    (writes_then c.write_closing.result _ (g.K.Sink.written c.write_blocks.new.sink) _ _ (g.K.Sink.faults c.write_blocks.new.sink) _ _ _
    c.in_ok-write_blocks.ensures c.write_closing.ensures))
