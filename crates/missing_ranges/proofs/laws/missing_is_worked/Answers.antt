use Rattle.std.proofs.Common.{refl}
use Rattle.missing_ranges.proofs.laws.missing_is_worked.Goals as goal

pub returns : goal.returns
returns c = record {
  nothing = refl;
  only_a_notice = refl;
  first_payload = refl;
  third_payload = refl;
  all_but_one = refl;
  between = refl;
  none = refl;
  gone = refl;
  not_yet = refl;
  short = refl;
  short_first = refl;
  none_short = refl;
  short_alone = refl;
  behind = refl;
  no_line = refl;
  more_lines = refl;
}
