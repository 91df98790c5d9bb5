use Rattle.missing_ranges.proofs.MissingLemmas.{missing_is_maximal}
use Rattle.missing_ranges.proofs.laws.missing_is_maximal.Goals as goal

pub returns : goal.returns
returns c = missing_is_maximal
