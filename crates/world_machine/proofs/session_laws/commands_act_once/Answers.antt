use Rattle.world_machine.proofs.Lines.{acts_once}
use Rattle.world_machine.proofs.session_laws.commands_act_once.Goals as goal

pub returns : goal.returns
returns c = acts_once
