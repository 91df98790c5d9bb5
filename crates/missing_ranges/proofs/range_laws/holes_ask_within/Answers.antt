use Rattle.missing_ranges.proofs.HoleLemmas.{holes_ask_within}
use Rattle.missing_ranges.proofs.range_laws.holes_ask_within.Goals as goal

pub returns : goal.returns
returns c = holes_ask_within
