use Rattle.std.proofs.Common.{refl}
use Rattle.client_machine.proofs.laws.a_client_is_worked.Goals as goal

pub returns : goal.returns
returns c = record {
  first = refl;
  not_yet = refl;
  second = refl;
  not_then = refl;
  third = refl;
  no_fourth = refl;
  waits = refl;
  given_up = refl;
  answered = refl;
  refused = refl;
  not_its = refl;
  not_so = refl;
  idle = refl;
  keeps = refl;
}
