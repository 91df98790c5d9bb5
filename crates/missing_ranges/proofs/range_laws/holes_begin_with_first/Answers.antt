use Rattle.missing_ranges.proofs.FirstLemmas.{holes_begin_with_first}
use Rattle.missing_ranges.proofs.range_laws.holes_begin_with_first.Goals as goal

pub returns : goal.returns
returns c = holes_begin_with_first
