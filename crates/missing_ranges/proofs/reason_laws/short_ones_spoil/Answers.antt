use Rattle.missing_ranges.proofs.ReasonLemmas.{short_ones_spoil}
use Rattle.missing_ranges.proofs.reason_laws.short_ones_spoil.Goals as goal

pub returns : goal.returns
returns c = short_ones_spoil
