use Rattle.std.proofs.Common.{refl, ◌∙◌}
use Rattle.std.proofs.lemmas.Bool.{OnTrue_at}
use Rattle.first_leader.specs.Waiting.{begins, by_turn, by_input}
use Rattle.first_leader.proofs.Turning.{one_more, turn_ends, no_input, faults_from}
use Rattle.first_leader.proofs.waiting.await_leader.Goals as goal

pub turns-init : goal.turns-init
turns-init g c =
    record { first = _; begun = c.now-begin.ensures.told; waits = begins; stream = refl; control = refl }

pub returns-in-Some-wait_once-clause-awaits : goal.returns-in-Some-wait_once-clause-awaits
returns-in-Some-wait_once-clause-awaits g c =
    record {
      begin = c.now-begin.result;
      first = c.turns.invariant.first;
      begun = c.turns.invariant.begun;
      pace = c.turns.pace;
      m = (record { received = g.L.Link.received c.turns.stream; heard = g.M.Link.received c.turns.control; sent = g.M.Link.sent c.turns.control; told = g.C.Clock.told c.turns.clock; client = c.turns.client });
      waits = c.turns.invariant.waits;
      ends = by_turn _ (turn_ends _ _ _ _ _ _ _ _ c.in-Some-wait_once.ensures.makes);
    }

pub returns-in-Some-wait_once-clause-input : goal.returns-in-Some-wait_once-clause-input
returns-in-Some-wait_once-clause-input g c =
    no_input c.args.camera c.args.patience c.now-begin.result c.turns.pace (record { received = g.L.Link.received c.turns.stream; heard = g.M.Link.received c.turns.control; sent = g.M.Link.sent c.turns.control; told = g.C.Clock.told c.turns.clock; client = c.turns.client }) (record { received = g.L.Link.received c.wait_once.new.stream; heard = g.M.Link.received c.wait_once.new.control; sent = g.M.Link.sent c.wait_once.new.control; told = g.C.Clock.told c.wait_once.new.clock; client = c.wait_once.new.client }) c.in-Some-wait_once.end _ (turn_ends _ _ _ _ _ _ _ _ c.in-Some-wait_once.ensures.makes)

pub returns-in-Some-wait_once-clause-faults : goal.returns-in-Some-wait_once-clause-faults
returns-in-Some-wait_once-clause-faults g c =
    faults_from _ _ _ _ _ _ _ c.turns.invariant.stream c.turns.invariant.control c.in-Some-wait_once.ensures.faults

pub returns-then-look_at_input-clause-awaits : goal.returns-then-look_at_input-clause-awaits
returns-then-look_at_input-clause-awaits g c =
    let ended = OnTrue_at c.if-look_at_input.true c.look_at_input.ensures in
    record {
      begin = c.now-begin.result;
      first = c.turns.invariant.first;
      begun = c.turns.invariant.begun;
      pace = c.wait_once.new.pace;
      m = (record { received = g.L.Link.received c.wait_once.new.stream; heard = g.M.Link.received c.wait_once.new.control; sent = g.M.Link.sent c.wait_once.new.control; told = g.C.Clock.told c.wait_once.new.clock; client = c.wait_once.new.client });
      waits = one_more c.args.camera c.args.patience c.now-begin.result (record { received = g.L.Link.received c.args.stream.now; heard = g.M.Link.received c.args.control.now; sent = g.M.Link.sent c.args.control.now; told = c.turns.invariant.first; client = c.args.client.now }) c.turns.pace c.wait_once.new.pace (record { received = g.L.Link.received c.turns.stream; heard = g.M.Link.received c.turns.control; sent = g.M.Link.sent c.turns.control; told = g.C.Clock.told c.turns.clock; client = c.turns.client }) (record { received = g.L.Link.received c.wait_once.new.stream; heard = g.M.Link.received c.wait_once.new.control; sent = g.M.Link.sent c.wait_once.new.control; told = g.C.Clock.told c.wait_once.new.clock; client = c.wait_once.new.client }) c.turns.invariant.waits c.in-None-wait_once.ensures.makes;
      ends = by_input ended.0 refl;
    }

pub turns-preserved : goal.turns-preserved
turns-preserved g c = record {
  first = c.turns.invariant.first;
  begun = c.turns.invariant.begun;
  waits = one_more c.args.camera c.args.patience c.now-begin.result (record { received = g.L.Link.received c.args.stream.now; heard = g.M.Link.received c.args.control.now; sent = g.M.Link.sent c.args.control.now; told = c.turns.invariant.first; client = c.args.client.now }) c.turns.pace c.wait_once.new.pace (record { received = g.L.Link.received c.turns.stream; heard = g.M.Link.received c.turns.control; sent = g.M.Link.sent c.turns.control; told = g.C.Clock.told c.turns.clock; client = c.turns.client }) (record { received = g.L.Link.received c.wait_once.new.stream; heard = g.M.Link.received c.wait_once.new.control; sent = g.M.Link.sent c.wait_once.new.control; told = g.C.Clock.told c.wait_once.new.clock; client = c.wait_once.new.client }) c.turns.invariant.waits c.in-None-wait_once.ensures.makes;
  stream = c.in-None-wait_once.ensures.faults.0 ∙ c.turns.invariant.stream;
  control = c.in-None-wait_once.ensures.faults.1 ∙ c.turns.invariant.control;
}
