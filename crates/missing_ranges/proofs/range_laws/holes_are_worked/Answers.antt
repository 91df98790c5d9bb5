use Rattle.std.proofs.Common.{refl}
use Rattle.missing_ranges.proofs.range_laws.holes_are_worked.Goals as goal

pub returns : goal.returns
returns c = record { within = refl; cut = refl; single = refl; whole = refl; none = refl; ends = refl }
