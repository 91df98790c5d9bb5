use Rattle.std.proofs.Common.{[], ◌∷◌, ◌++◌, refl, sym, subst}
use Rattle.buffer_words.specs.Boards.{board_id}
use Rattle.lane_crew.specs.declared.lane_tools.LaneTools.{LaneTools}
use Rattle.gev_live.specs.LanesMade.{AreSplit}
use Rattle.gev_live.proofs.Splits.{split_last}
use Rattle.gev_live.proofs.lane_passes.+split_lanes.Goals as goal

pub returns-in-Some-clause-split : goal.returns-in-Some-clause-split
returns-in-Some-clause-split t c =
    let x : LaneTools = record { pass = c.split-lane_pass.result; ends = c.in-Some.last.0; acq = c.in-Some.last.1 } in
    subst (λ l. AreSplit (board_id c.args.board.now) c.args.parts.items c.args.pass.now l c.split-lane_pass.new.pass) (sym c.push_reserved.ensures.items)
    (subst (λ l. AreSplit (board_id c.args.board.now) l c.args.pass.now (c.split_lanes-tools.result.items ++ x ∷ []) c.split-lane_pass.new.pass) (sym c.in-Some.ensures.items)
    (split_last (board_id c.args.board.now) c.pop.new.self.items c.args.pass.now c.split_lanes-tools.result.items c.split_lanes-tools.new.pass c.in-Some.last x c.split-lane_pass.new.pass
    c.split_lanes-tools.ensures.split
    (record {
      splits = c.split-lane_pass.ensures.entry;
      table = c.split-lane_pass.ensures.table;
      unborn = c.split-lane_pass.ensures.unborn;
      empty = c.split-lane_pass.ensures.empty;
      ends = refl;
      acq = refl;
    })))
