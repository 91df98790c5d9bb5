use Rattle.missing_ranges.proofs.HoleLemmas.{holes_are_maximal}
use Rattle.missing_ranges.proofs.range_laws.holes_are_maximal.Goals as goal

pub returns : goal.returns
returns c = holes_are_maximal
