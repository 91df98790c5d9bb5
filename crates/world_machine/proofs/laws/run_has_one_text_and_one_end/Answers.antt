use Rattle.world_machine.proofs.Texts.{one_text}
use Rattle.world_machine.proofs.laws.run_has_one_text_and_one_end.Goals as goal

pub returns : goal.returns
returns g c = one_text
