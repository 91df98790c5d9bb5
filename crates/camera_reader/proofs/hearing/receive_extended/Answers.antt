use Rattle.std.proofs.Common.{refl, ◌∙◌, arith, rules}
use Rattle.gev_links.specs.Links.{answer_of}
use Rattle.gev_acq.proofs.OneTurn.{come_is_some}
use Rattle.camera_reader.proofs.hearing.receive_extended.Goals as goal

pub returns-clause-hears : goal.returns-clause-hears
returns-clause-hears g c = record {
  arrived = answer_of c.recv-received.result c.recv-received.new.out;
  told = c.recv-received.ensures.received;
  heard = refl;
  greatest = refl;
  counted = first_of (search rules, grind arith);
  came_is = c.has_come-came.ensures ∙ come_is_some c.recv-received.result c.recv-received.new.out;
}
