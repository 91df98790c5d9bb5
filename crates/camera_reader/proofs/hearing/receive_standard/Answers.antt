use Rattle.std.proofs.Common.{Ok, refl, ◌∙◌, arith, rules}
use Rattle.gev_links.specs.Links.{answer_of, failed}
use Rattle.camera_reader.proofs.OneTurn.{some_came}
use Rattle.camera_reader.proofs.hearing.receive_standard.Goals as goal

pub returns-in-Ok-clause-hears : goal.returns-in-Ok-clause-hears
returns-in-Ok-clause-hears g c = record {
  arrived = answer_of (Ok c.in-Ok.came) c.recv.new.out;
  told = c.in-Ok.ensures.received;
  heard = c.hear-heard.ensures.heard;
  greatest = c.hear-heard.ensures.top;
  counted = c.hear-heard.ensures.refused;
  came_is = c.is_some.ensures ∙ some_came c.in-Ok.came c.recv.new.out;
}

pub returns-in-Err-clause-hears : goal.returns-in-Err-clause-hears
returns-in-Err-clause-hears g c = record {
  arrived = failed;
  told = c.in-Err.ensures.received;
  heard = refl;
  greatest = refl;
  counted = first_of (search rules, grind arith);
  came_is = refl;
}
