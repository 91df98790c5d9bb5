-- The last lane beside the others.
use Rattle.std.proofs.Common.{rules, ◌++◌, ◌∷◌, [], sym, subst}
use Rattle.buffer_words.specs.Boards.{board_id}
use Rattle.lane_crew.specs.Tools.{AreReady, AreServed}
use Rattle.lane_crew.proofs.Lists.{ready_last, served_last}
use Rattle.lane_crew.proofs.serving.+fn-run_lanes-join+arg3+run_lanes.Goals as goal

pub join-served-requires-after_bounds : goal.join-served-requires-after_bounds
join-served-requires-after_bounds g t c κs within =
    let both = ready_last (board_id c.args.board.now) c.args.lanes.now c.pop.new.self.items c.in-Some.last
    (subst (AreReady (board_id c.args.board.now) c.args.lanes.now) c.in-Some.ensures.items c.requires.ready) in
    (both.1, search rules)

pub returns-in-Some-clause-served : goal.returns-in-Some-clause-served
returns-in-Some-clause-served g t c =
    subst (AreServed c.args.mode c.args.lanes.now c.args.tools.items) (sym c.push_reserved.ensures.items)
    (subst (λ l. AreServed c.args.mode c.args.lanes.now l (c.join-served.result.1.items ++ c.join-served.result.0 ∷ [])) (sym c.in-Some.ensures.items)
    (served_last c.args.mode c.args.lanes.now c.pop.new.self.items c.join-served.result.1.items c.in-Some.last c.join-served.result.0 c.join-served.ensures.second.0 c.join-served.ensures.first))
