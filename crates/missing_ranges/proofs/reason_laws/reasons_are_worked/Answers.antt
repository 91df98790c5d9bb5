use Rattle.std.proofs.Common.{refl}
use Rattle.missing_ranges.proofs.reason_laws.reasons_are_worked.Goals as goal

pub returns : goal.returns
returns c = record {
  whole = refl;
  whole_lost = refl;
  small = refl;
  payload_gone = refl;
  payload_lost = refl;
  too_short = refl;
  short_lost = refl;
  trailer_gone = refl;
  trailer_lost = refl;
  trailer_early = refl;
  early_lost = refl;
  leader_gone = refl;
  leader_lost = refl;
  nothing = refl;
  nothing_lost = refl;
}
