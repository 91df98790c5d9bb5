use Rattle.std.proofs.Common.{refl}
use Rattle.camera_control.proofs.laws.answers_are_worked.Goals as goal

pub returns : goal.returns
returns c = record {
  its_size = refl;
  largest = refl;
  too_small = refl;
  too_large = refl;
  not_told = refl;
  resends = refl;
  no_resends = refl;
  unknown = refl;
  free = refl;
  exclusive = refl;
  controlled = refl;
  unreadable = refl;
  busy = refl;
  refused = refl;
  unread = refl;
  passed = refl;
  told = refl;
  silent = refl;
  lost = refl;
  kept = refl;
}
