use Rattle.board_machine.specs.declared.events.TakeEnd.TheVariants.{Empty, Closed}
use Rattle.shared_modes.proofs.Parts.{takes_some, takes_none}
use Rattle.shared_modes.proofs.claiming.take_waiting.Goals as goal

pub returns-in-Taken-clause-enters : goal.returns-in-Taken-clause-enters
returns-in-Taken-clause-enters g c = takes_some _ _ c.in-Taken.place c.in-Taken.ensures.entry

pub returns-in-Empty-clause-enters : goal.returns-in-Empty-clause-enters
returns-in-Empty-clause-enters g c = takes_none _ _ Empty tt c.in-Empty.ensures.entry

pub returns-in-Closed-clause-enters : goal.returns-in-Closed-clause-enters
returns-in-Closed-clause-enters g c = takes_none _ _ Closed tt c.in-Closed.ensures.entry
