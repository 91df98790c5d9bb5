use Rattle.std.proofs.Common.{subst, sym, ◌∙◌}
use Rattle.gev_lanes.specs.Sides.{AreReadersOf, AreLanesOf}
use Rattle.gev_lanes.proofs.News.{lanes_last}
use Rattle.live_tests.proofs.workers.serve_all.Goals as goal

pub serve_one-requires-clause-lane : goal.serve_one-requires-clause-lane
serve_one-requires-clause-lane g c =
    (lanes_last c.args.lanes.now c.pop.new.self.items c.in-Some.ends
    (subst (λ l. AreLanesOf c.args.lanes.now l) c.in-Some.ensures.items c.lanes.invariant.lanes)).1

pub lanes-preserved : goal.lanes-preserved
lanes-preserved g c = record {
  readers = subst (λ r. AreReadersOf c.args.lanes.now r) (sym c.serve_one.ensures.reader) c.lanes.invariant.readers;
  lanes =
      (lanes_last c.args.lanes.now c.pop.new.self.items c.in-Some.ends
      (subst (λ l. AreLanesOf c.args.lanes.now l) c.in-Some.ensures.items c.lanes.invariant.lanes)).0;
  table = c.serve_one.ensures.table ∙ c.lanes.invariant.table;
}
