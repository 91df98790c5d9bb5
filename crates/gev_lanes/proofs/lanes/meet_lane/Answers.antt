-- The lane's queues are those with its number, and so are the reader's ends.
use Rattle.std.proofs.Common.{◌≡◌, ◌<◌, length, get_or, sym, ◌∙◌, subst, arith}
use Rattle.std.specs.Prelude.{slice_get, Some}
use Rattle.gev_lanes.specs.Sides.{IsReaderOf, IsLaneOf}
use Rattle.gev_lanes.proofs.News.{get_at, get_below, readers_length, reader_or, lane_met}
use Rattle.gev_lanes.proofs.lanes.meet_lane.Goals as goal

pub bounds-sides-at : goal.bounds-sides-at
bounds-sides-at c =
    let few : c.args.number < length c.args.queues.now = get_below c.args.queues.now c.args.number c.requires.lane.queues c.requires.lane.at in
    omega (arith, few, readers_length c.args.queues.now c.args.sides.now c.requires.sides, c.from-at.ensures)

pub meet_one-requires-clause-side : goal.meet_one-requires-clause-side
meet_one-requires-clause-side c =
    let few : c.args.number < length c.args.queues.now = get_below c.args.queues.now c.args.number c.requires.lane.queues c.requires.lane.at in
    subst (λ q. IsReaderOf q (get_or c.args.sides.now c.from-at.result c.index-sides-at.result)) (sym c.index-queues-at.is)
    (reader_or c.args.queues.now c.args.sides.now c.from-at.result c.index-queues-at.result c.index-sides-at.result c.requires.sides
    (omega (arith, few, c.from-at.ensures)))

pub meet_one-requires-clause-lane : goal.meet_one-requires-clause-lane
meet_one-requires-clause-lane c =
    subst (λ q. IsLaneOf q c.args.hands)
    (sym
    (get_at c.args.queues.now c.from-at.result c.requires.lane.queues c.index-queues-at.result
    (subst (λ n. slice_get c.args.queues.now n ≡ Some c.requires.lane.queues) (sym c.from-at.ensures) c.requires.lane.at))
    ∙ sym c.index-queues-at.is)
    c.requires.lane.lane_of

pub returns-clause-met : goal.returns-clause-met
returns-clause-met c =
    let few : c.args.number < length c.args.queues.now = get_below c.args.queues.now c.args.number c.requires.lane.queues c.requires.lane.at in
    lane_met c.args.sides.now c.args.number c.from-at.result c.meet_one.new.side _ c.from-at.ensures
    (omega (arith, few, readers_length c.args.queues.now c.args.sides.now c.requires.sides, c.from-at.ensures))
    c.meet_one.ensures.met
