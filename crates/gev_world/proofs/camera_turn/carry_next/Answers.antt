use Rattle.gev_world.proofs.Steps.{carried}
use Rattle.gev_world.proofs.camera_turn.carry_next.Goals as goal

pub returns-in_ok-put_packet-in-Some : goal.returns-in_ok-put_packet-in-Some
returns-in_ok-put_packet-in-Some c = record {
  packet = c.in-Some.ensures.packet;
  first = c.in-Some.ensures.first;
  does = carried _ _ _ _ _ c.in-Some.ensures.rest c.in-Some.ensures.spelled c.in_ok-put_packet-in-Some.ensures;
}
