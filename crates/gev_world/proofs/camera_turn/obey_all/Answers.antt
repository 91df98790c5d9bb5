use Rattle.std.proofs.Common.{rules}
use Rattle.gev_world.proofs.Composing.{obeying_on}
use Rattle.gev_world.proofs.camera_turn.obey_all.Goals as goal

pub loop-datagram-preserved : goal.loop-datagram-preserved
loop-datagram-preserved c =
    obeying_on c.args.stage.now c.loop-datagram.stage c.obey.new.stage c.args.arriving.now c.loop-datagram.arriving c.in-Some.datagram c.pop.new.self (search rules)
    c.loop-datagram.invariant c.in_ok-obey.ensures
