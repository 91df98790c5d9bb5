use Rattle.world_laws.proofs.TakeTexts.{text_has_take_lines}
use Rattle.world_laws.proofs.laws.text_of_a_run_has_take_lines.Goals as goal

pub returns : goal.returns
returns c = text_has_take_lines
