-- At first there are none.
use Rattle.std.proofs.Common.{[], length, ap}
use Rattle.gev_lanes.proofs.News.{news_are}
use Rattle.gev_lanes.proofs.lanes.add_lanes.Goals as goal

pub lanes-init : goal.lanes-init
lanes-init c = record {
  count = ap length c.requires.queues;
  new = news_are [] c.args.queues.now.items [] c.args.sides.now.items [] c.args.ends.now.items c.requires.queues c.requires.sides c.requires.ends tt;
}
