use Rattle.script_image.proofs.Promised.{takes_are_counted}
use Rattle.script_image.proofs.laws.takes_are_counted.Goals as goal

pub returns : goal.returns
returns c = takes_are_counted
