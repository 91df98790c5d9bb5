-- Lane by lane.
use Rattle.std.proofs.Common.{[], ◌∷◌, ◌++◌, sym, subst, ◌∙◌, arith}
use Rattle.gev_control.specs.Sends.{SendsOn}
use Rattle.gev_control.proofs.Fronts.{fails_then, sends_then}
use Rattle.gev_lanes.proofs.News.{readers_length}
use Rattle.lane_reader.proofs.Looping.{asked_step, asked_all, joined-push}
use Rattle.lane_reader.proofs.asking.ask_lanes.Goals as goal

pub lanes-preserved : goal.lanes-preserved
lanes-preserved g c =
    let one = c.ask_lane-failed.ensures.asks in
    record {
      asked = c.lanes.invariant.asked ++ one.requests ∷ [];
      reader = c.ask_lane-failed.ensures.reader;
      to = asked_step c.lanes.lane c.lanes.invariant.asked one.requests c.args.reader.now c.lanes.reader c.ask_lane-failed.new.reader c.lanes.invariant.to
          one.asks;
      sends = subst (λ l. SendsOn c.args.camera l c.args.failed c.ask_lane-failed.result (g.M.Link.sent c.args.control.now) (g.M.Link.sent c.ask_lane-failed.new.control))
          (sym (joined-push c.lanes.invariant.asked one.requests))
          (sends_then c.args.camera _ one.requests c.args.failed c.lanes.failed c.ask_lane-failed.result (g.M.Link.sent c.args.control.now)
          (g.M.Link.sent c.lanes.control) (g.M.Link.sent c.ask_lane-failed.new.control) c.lanes.invariant.sends one.sends);
      fails = fails_then c.args.failed c.lanes.failed c.ask_lane-failed.result (g.M.Link.faults c.args.control.now) (g.M.Link.faults c.lanes.control)
          (g.M.Link.faults c.ask_lane-failed.new.control) c.lanes.invariant.fails c.ask_lane-failed.ensures.fails;
      received = c.ask_lane-failed.ensures.received ∙ c.lanes.invariant.received;
    }

pub returns-clause-asks : goal.returns-clause-asks
returns-clause-asks g c = record {
  asked = c.lanes.invariant.asked;
  asks = asked_all c.lanes.lane c.lanes.invariant.asked c.args.reader.now c.lanes.reader
      (omega (arith, c.lanes-test.false, c.lanes.auto.lane-end, c.count-lane-end.ensures.count, readers_length c.args.lanes.now c.args.reader.now c.requires.reader))
      c.lanes.invariant.to;
  sends = c.lanes.invariant.sends;
}
