use Rattle.board_machine.specs.declared.events.TakeEnd.TheVariants.{Empty, Closed}
use Rattle.board_model.proofs.Parts.{takes_none}
use Rattle.board_model.proofs.plain.take_waiting.Goals as goal

pub returns-in-Empty-clause-entries : goal.returns-in-Empty-clause-entries
returns-in-Empty-clause-entries c = takes_none _ _ _ Empty tt c.in-Empty.ensures.step

pub returns-in-Closed-clause-entries : goal.returns-in-Closed-clause-entries
returns-in-Closed-clause-entries c = takes_none _ _ _ Closed tt c.in-Closed.ensures.step
