use Rattle.board_machine.specs.declared.events.TakeEnd.TheVariants.{Empty, Closed}
use Rattle.shared_modes.proofs.Parts.{drops_one, drops_none, dropped_again}
use Rattle.shared_modes.proofs.filling.drop_waiting.Goals as goal

pub returns-in-Taken-clause-enters : goal.returns-in-Taken-clause-enters
returns-in-Taken-clause-enters g c = drops_one _ _ _ c.in-Taken.place c.in-Taken.ensures.entry c.put_back.ensures.entry

pub returns-in-Taken-clause-hands : goal.returns-in-Taken-clause-hands
returns-in-Taken-clause-hands g c = dropped_again c.in-Taken.place _ _ _ c.in-Taken.ensures.hands c.put_back.ensures.hands

pub returns-in-Empty-clause-enters : goal.returns-in-Empty-clause-enters
returns-in-Empty-clause-enters g c = drops_none _ _ Empty tt c.in-Empty.ensures.entry

pub returns-in-Closed-clause-enters : goal.returns-in-Closed-clause-enters
returns-in-Closed-clause-enters g c = drops_none _ _ Closed tt c.in-Closed.ensures.entry
