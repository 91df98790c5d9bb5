use Rattle.live_crew.proofs.Rising.{numbers_apart}
use Rattle.live_crew.proofs.laws.split_numbers_are_apart.Goals as goal

pub returns : goal.returns
returns c = numbers_apart
