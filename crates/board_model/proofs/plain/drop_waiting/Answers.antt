use Rattle.std.proofs.Common.{ap}
use Rattle.gev_types.specs.declared.block_record.Record.{Record}
use Rattle.board_machine.specs.declared.events.TakeEnd.TheVariants.{Empty, Closed}
use Rattle.board_model.proofs.Parts.{drops_one, drops_none, keeps_dropped, was_gone}
use Rattle.board_model.proofs.plain.drop_waiting.Goals as goal

pub returns-in-Taken-clause-entries : goal.returns-in-Taken-clause-entries
returns-in-Taken-clause-entries c = drops_one _ _ _ _ c.in-Taken.place c.in-Taken.ensures.step c.pool.ensures.step

pub returns-in-Taken-clause-held : goal.returns-in-Taken-clause-held
returns-in-Taken-clause-held c = keeps_dropped _ _ _ _ c.in-Taken.place c.in-Taken.ensures.step c.pool.ensures.step

pub returns-in-Empty-clause-entries : goal.returns-in-Empty-clause-entries
returns-in-Empty-clause-entries c = drops_none _ _ _ Empty tt c.in-Empty.ensures.step

pub returns-in-Closed-clause-entries : goal.returns-in-Closed-clause-entries
returns-in-Closed-clause-entries c = drops_none _ _ _ Closed tt c.in-Closed.ensures.step

pub returns-in-Taken-clause-gone : goal.returns-in-Taken-clause-gone
returns-in-Taken-clause-gone c =
    was_gone c.args.board.now c.take.new.self c.pool.new.self.board c.args.actor c.in-Taken.place c.buf.result.now _ c.in-Taken.ensures.first c.in-Taken.ensures.step c.pool.ensures.step c.buf.ensures.content
    (ap (λ (r : Record). record { place = c.in-Taken.place; block = r.block }) c.rec-block.ensures.value)
