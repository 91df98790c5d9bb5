use Rattle.gev_apply.proofs.OfKind.{turns_are}
use Rattle.gev_apply.proofs.laws.turns_are_of_their_kind.Goals as goal

pub returns : goal.returns
returns c = turns_are
