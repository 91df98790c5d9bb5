use Rattle.std.proofs.Common.{refl}
use Rattle.std.specs.Fmt.{digits}
use Rattle.frame_pictures.proofs.laws.pictures_are_worked.Goals as goal

pub returns : goal.returns
unfolding digits
returns c = record {
  grey = refl;
  incomplete = refl;
  twelve = refl;
  short = refl;
  no_line = refl;
  too_many = refl;
  cut = refl;
  padded = refl;
  red_first = refl;
  blue_first = refl;
  ten = refl;
  fourteen = refl;
  alpha_last = refl;
  blue_and_alpha = refl;
  brightness_first = refl;
  brightness_second = refl;
  twelve_shared = refl;
  ten_shared = refl;
  twelve_running = refl;
  ten_running = refl;
  ten_cut = refl;
  without_leader = refl;
  not_drawn = refl;
  no_column = refl;
  no_row = refl;
  part_bytes = refl;
  quarters = refl;
  no_part = refl;
}
