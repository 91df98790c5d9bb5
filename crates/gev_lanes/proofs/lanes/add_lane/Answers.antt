-- One lane more.
use Rattle.std.proofs.Common.{◌+◌, [], ◌∷◌, ◌++◌, length, ap, ◌∙◌, length-append, arith}
use Rattle.gev_lanes.proofs.News.{new_more, news_are}
use Rattle.gev_lanes.proofs.lanes.add_lane.Goals as goal

pub returns-clause-count : goal.returns-clause-count
returns-clause-count c =
    ap length (c.push_reserved.ensures.items ∙ ap (λ l. l ++ c.in_ok-lane_queues.lane_queues ∷ []) c.in_ok-make_room.ensures.queues)
    ∙ (length-append c.args.queues.now.items (c.in_ok-lane_queues.lane_queues ∷ []) ∙ ap (λ n. n + 1) c.requires.number)

pub returns-clause-new : goal.returns-clause-new
returns-clause-new c =
    news_are (c.args.queues.now.items ++ c.in_ok-lane_queues.lane_queues ∷ []) c.push_reserved.new.self.items
    (c.args.sides.now.items ++ c.in_ok-lane_queues.side ∷ []) c.push_reserved-2.new.self.items
    (c.args.ends.now.items ++ c.in_ok-lane_queues.lane_ends ∷ []) c.push_reserved-3.new.self.items
    (c.push_reserved.ensures.items ∙ ap (λ l. l ++ c.in_ok-lane_queues.lane_queues ∷ []) c.in_ok-make_room.ensures.queues)
    (c.push_reserved-2.ensures.items ∙ ap (λ l. l ++ c.in_ok-lane_queues.side ∷ []) c.in_ok-make_room.ensures.sides)
    (c.push_reserved-3.ensures.items ∙ ap (λ l. l ++ c.in_ok-lane_queues.lane_ends ∷ []) c.in_ok-make_room.ensures.ends)
    (new_more 0 c.args.number c.args.queues.now.items c.args.sides.now.items c.args.ends.now.items c.in_ok-lane_queues.lane_queues
    c.in_ok-lane_queues.side c.in_ok-lane_queues.lane_ends c.requires.new c.in_ok-lane_queues.ensures.new (omega (arith, c.requires.number)))
