use Rattle.std.proofs.Common.{sym, ◌∙◌}
use Rattle.std.proofs.lemmas.Result.{err_from_is_err_and}
use Rattle.gev_make.specs.declared.stop.Stop.TheVariants.{WriteFault}
use Rattle.gev_world.proofs.Closing.{said_last, closes_not, closes_done, closes_failed, stops_unwritten}
use Rattle.gev_world.proofs.rounds.close.Goals as goal

pub returns-then-not-is_done : goal.returns-then-not-is_done
returns-then-not-is_done g c = λ acts w stands.
    closes_not c.args.stage.now c.args.host.now acts w (g.K.Sink.written c.args.sink.now) (g.K.Sink.faults c.args.sink.now) stands
    (sym c.if-not-is_done.true ∙ c.is_done.ensures acts w stands)

pub returns-in_err-spell_last : goal.returns-in_err-spell_last
returns-in_err-spell_last g c = λ acts w stands.
    let p = err_from_is_err_and c.from_residual.result c.from_residual.ensures.1 in
    rw (p.1, p.2) (stops_unwritten c.args.stage.now c.args.host.now acts _ _ _)

pub returns-in_err-write_all : goal.returns-in_err-write_all
returns-in_err-write_all g c = λ acts w stands.
    let p = err_from_is_err_and c.from_residual-in_err-write_all.result c.from_residual-in_err-write_all.ensures.1 in
    rw (p.1, p.2)
    (closes_failed c.args.stage.now c.args.host.now acts w c.as_slice.result.now WriteFault _ _ _ _ (sym c.if-not-is_done.false ∙ c.is_done.ensures acts w stands)
    (c.as_slice.ensures.value ∙ c.in_ok-spell_last.ensures ∙ said_last c.args.stage.now c.args.host.now acts w c.last_numbers.result stands (c.last_numbers.ensures acts w stands))
    (c.in_err-write_all.ensures.front, c.in_err-write_all.ensures.failed))

pub returns : goal.returns
returns g c = λ acts w stands.
    closes_done c.args.stage.now c.args.host.now acts w c.as_slice.result.now (g.K.Sink.written c.args.sink.now) (g.K.Sink.written c.write_all.new.sink)
    (g.K.Sink.faults c.args.sink.now) (g.K.Sink.faults c.write_all.new.sink) stands (sym c.if-not-is_done.false ∙ c.is_done.ensures acts w stands)
    (c.as_slice.ensures.value ∙ c.in_ok-spell_last.ensures ∙ said_last c.args.stage.now c.args.host.now acts w c.last_numbers.result stands (c.last_numbers.ensures acts w stands))
    (c.in_ok-write_all.ensures.written, c.in_ok-write_all.ensures.no_fault)
