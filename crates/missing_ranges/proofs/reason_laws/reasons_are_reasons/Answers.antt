use Rattle.missing_ranges.proofs.ReasonLemmas.{reasons_are_reasons}
use Rattle.missing_ranges.proofs.reason_laws.reasons_are_reasons.Goals as goal

pub returns : goal.returns
returns c = reasons_are_reasons
