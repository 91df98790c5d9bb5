-- A lane more.
use Rattle.std.proofs.Common.{◌∙◌, ◌++◌, ◌∷◌, [], ap, sym, subst, rules, arith}
use Rattle.buffer_words.specs.Boards.{board_id}
use Rattle.gev_lanes.specs.Sides.{AreLanesOf}
use Rattle.gev_lanes.proofs.News.{lanes_last}
use Rattle.lane_crew.specs.Tools.{AreReady, ends_in}
use Rattle.lane_crew.proofs.Lists.{ready_more, ends_more}
use Rattle.live_tests.proofs.crews.+make_tools.Goals as goal

pub make_tools-requires : goal.make_tools-requires
make_tools-requires t c = (
  first_of (search rules, grind arith),
  (
    c.requires.table,
    (lanes_last c.args.lanes.now c.pop.new.self.items c.in-Some.last (subst (AreLanesOf c.args.lanes.now) c.in-Some.ensures.items c.requires.lanes)).0,
  ),
)

pub returns-in_ok-push-in-Some-clause-ready : goal.returns-in_ok-push-in-Some-clause-ready
returns-in_ok-push-in-Some-clause-ready t c =
    subst (AreReady (board_id c.args.board.now) c.args.lanes.now) (sym c.in_ok-push-in-Some.ensures.items)
    (ready_more (board_id c.args.board.now) c.args.lanes.now c.in_ok-tools-in-Some.tools.items _ c.in_ok-tools-in-Some.ensures.ready
    (record {
      table = c.split.ensures.table;
      unborn = c.split.ensures.unborn;
      empty = c.split.ensures.empty;
      lane = (lanes_last c.args.lanes.now c.pop.new.self.items c.in-Some.last (subst (AreLanesOf c.args.lanes.now) c.in-Some.ensures.items c.requires.lanes)).1;
      new = c.in_ok-acq-in-Some.ensures.stands;
      fills = c.in_ok-acq-in-Some.ensures.fills;
      requests = c.in_ok-acq-in-Some.ensures.requests;
      buffers_none = c.in_ok-acq-in-Some.ensures.buffers;
    }))

pub returns-in_ok-push-in-Some-clause-ends : goal.returns-in_ok-push-in-Some-clause-ends
returns-in_ok-push-in-Some-clause-ends t c =
    ap ends_in c.in_ok-push-in-Some.ensures.items
    ∙ (ends_more c.in_ok-tools-in-Some.tools.items _
    ∙ (ap (λ l. l ++ c.in-Some.last ∷ []) c.in_ok-tools-in-Some.ensures.ends ∙ sym c.in-Some.ensures.items))
