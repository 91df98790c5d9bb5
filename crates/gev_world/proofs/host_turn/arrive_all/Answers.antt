use Rattle.std.proofs.Common.{rules}
use Rattle.gev_world.proofs.Arrivals.{arrived_last, arriving_on, arrived_all}
use Rattle.gev_world.proofs.host_turn.arrive_all.Goals as goal

pub returns-in-Some-arrive-clause-arrived : goal.returns-in-Some-arrive-clause-arrived
returns-in-Some-arrive-clause-arrived c =
    arrived_last c.args.stage.now c.loop-datagram.stage c.arrive.new.stage c.args.host.now c.loop-datagram.host c.arrive.new.host
    c.args.arriving.now c.loop-datagram.arriving c.in-Some.datagram c.pop.new.self c.in-Some-arrive.end (search rules) c.loop-datagram.invariant c.in-Some-arrive.ensures

pub loop-datagram-preserved : goal.loop-datagram-preserved
loop-datagram-preserved c =
    arriving_on c.args.stage.now c.loop-datagram.stage c.arrive.new.stage c.args.host.now c.loop-datagram.host c.arrive.new.host
    c.args.arriving.now c.loop-datagram.arriving c.in-Some.datagram c.pop.new.self (search rules) c.loop-datagram.invariant c.in_default-arrive.ensures

pub returns-clause-arrived : goal.returns-clause-arrived
returns-clause-arrived c =
    arrived_all c.args.stage.now c.loop-datagram.stage c.args.host.now c.loop-datagram.host c.args.arriving.now c.loop-datagram.arriving (search rules) c.loop-datagram.invariant
