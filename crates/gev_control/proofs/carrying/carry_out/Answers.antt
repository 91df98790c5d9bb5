-- Each turn goes on, or ends the list.
use Rattle.std.proofs.Common.{[], Some, None, refl, arith, ◌∙◌}
use Rattle.gev_control.specs.Orders.{commands_of}
use Rattle.gev_control.proofs.OrderRuns.{list_begins, list_goes_on, list_ends}
use Rattle.gev_control.proofs.carrying.carry_out.Goals as goal

pub turns-init : goal.turns-init
turns-init g c = record {
  made = [];
  so = list_begins c.args.camera (commands_of c.args.orders.now) _;
  few = omega arith;
  faults = refl;
}

pub returns-in-Some-take_turn-clause-carries_out : goal.returns-in-Some-take_turn-clause-carries_out
returns-in-Some-take_turn-clause-carries_out g c =
    list_ends c.args.camera (commands_of c.args.orders.now) _ _ _ c.turns.begun c.take_turn.new.begun c.now-moment.result c.turns.invariant.made
    (Some c.in-Some-take_turn.end) c.in-Some-take_turn.end c.turns.invariant.so c.now-moment.ensures.told c.in-Some-take_turn.ensures.turn refl

pub turns-preserved : goal.turns-preserved
turns-preserved g c =
    let more = list_goes_on c.args.camera (commands_of c.args.orders.now)
    (record {
      heard = g.L.Link.received c.args.control.now;
      sent = g.L.Link.sent c.args.control.now;
      told = g.C.Clock.told c.args.clock.now;
      client = c.args.client.now;
    })
    (record { heard = g.L.Link.received c.turns.control; sent = g.L.Link.sent c.turns.control; told = g.C.Clock.told c.turns.clock; client = c.turns.client })
    (record {
      heard = g.L.Link.received c.take_turn.new.control;
      sent = g.L.Link.sent c.take_turn.new.control;
      told = g.C.Clock.told c.now-moment.new.self;
      client = c.take_turn.new.client;
    })
    c.turns.begun c.take_turn.new.begun c.now-moment.result c.turns.invariant.made None c.turns.invariant.so c.now-moment.ensures.told
    c.in-None-take_turn.ensures.turn refl
    in
    record {
      made = more.0;
      so = more.1;
      few = c.take_turn.ensures.few;
      faults = c.in-None-take_turn.ensures.fails ∙ c.turns.invariant.faults;
    }
