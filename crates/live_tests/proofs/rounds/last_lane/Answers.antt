use Rattle.std.proofs.Common.{subst}
use Rattle.gev_lanes.specs.Sides.{AreLanesOf}
use Rattle.gev_lanes.proofs.News.{lanes_last}
use Rattle.live_tests.proofs.rounds.last_lane.Goals as goal

pub returns-in-Some : goal.returns-in-Some
returns-in-Some c = record {
  lane =
      (lanes_last c.args.lanes.now c.pop.new.self.items c.in-Some.lane
      (subst (λ l. AreLanesOf c.args.lanes.now l) c.in-Some.ensures.items c.requires.lanes)).1;
}
