use Rattle.std.proofs.Common.{rules}
use Rattle.gev_world.proofs.Arrivals.{host_turned}
use Rattle.gev_world.proofs.host_turn.host_turn.Goals as goal

pub returns-clause-turned : goal.returns-clause-turned
returns-clause-turned c =
    host_turned c.args.stage.now c.arrive_all.new.stage c.args.host.now c.arrive_all.new.host c.arrive_all.result c.swap.new.x c.swap.new.y (search rules) (search rules)
    c.arrive_all.ensures.arrived
