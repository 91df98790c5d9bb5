use Rattle.gev_record.proofs.Replaying.{rests_between_turns}
use Rattle.gev_record.proofs.laws.rests_between_turns.Goals as goal

pub returns : goal.returns
returns c = rests_between_turns
