-- One lane more is home.
use Rattle.std.proofs.Common.{◌∙◌, sym, subst}
use Rattle.buffer_words.specs.Boards.{board_id}
use Rattle.gev_lanes.specs.Sides.{AreReadersOf}
use Rattle.buffer_words.proofs.Retries.{hands_then}
use Rattle.lane_crew.proofs.Home.{IsHoming, one_left, homing_goes_on}
use Rattle.lane_crew.proofs.homing.bring_home.Goals as goal

pub bring_one-counted-requires-clause-back : goal.bring_one-counted-requires-clause-back
bring_one-counted-requires-clause-back c =
    one_left (board_id c.args.board.now) c.args.lanes.now c.lanes.reader c.args.tools.items c.lanes.tools.items c.pop.new.self.items c.in-Some.lane c.args.pass.now
    c.lanes.pass c.lanes.invariant.so c.in-Some.ensures.items

pub lanes-preserved : goal.lanes-preserved
lanes-preserved c =
    let kept = sym c.bring_one-counted.ensures.same in
    record {
      so = homing_goes_on (board_id c.args.board.now) c.args.lanes.now c.bring_one-counted.new.reader c.args.tools.items c.lanes.tools.items c.pop.new.self.items
          c.in-Some.lane c.args.pass.now c.lanes.pass c.bring_one-counted.new.pass
          (subst (λ r. IsHoming (board_id c.args.board.now) c.args.lanes.now r c.args.tools.items c.lanes.tools.items c.args.pass.now c.lanes.pass) kept c.lanes.invariant.so)
          c.in-Some.ensures.items c.bring_one-counted.ensures.enters c.bring_one-counted.ensures.joined c.bring_one-counted.ensures.met;
      readers = subst (AreReadersOf c.args.lanes.now) kept c.lanes.invariant.readers;
      same = c.bring_one-counted.ensures.same ∙ c.lanes.invariant.same;
      table = c.bring_one-counted.ensures.enters.table ∙ c.lanes.invariant.table;
      hands = hands_then c.args.pass.now c.lanes.pass c.bring_one-counted.new.pass c.lanes.invariant.hands c.bring_one-counted.ensures.hands;
    }
