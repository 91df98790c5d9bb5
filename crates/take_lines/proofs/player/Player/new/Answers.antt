use Rattle.take_lines.proofs.Buffers.{begins}
use Rattle.take_lines.proofs.player.Player.new.Goals as goal

pub invariant_of-result : goal.invariant_of-result
invariant_of-result c =
    let made = c.in_ok-new.ensures in (
      begins c.args.size c.in_ok-new.field-0 c.in_ok-spare.spare.items c.args.config c.requires.config made.config made.stands made.fills made.requests made.buffers
          c.in_ok-spare.ensures.count c.in_ok-spare.ensures.sized,
      c.in_ok-spare.ensures.room,
    )
