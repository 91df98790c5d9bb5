use Rattle.std.proofs.Common.{◌≡◌, vec_len}
use Rattle.buffer_words.specs.Boards.{board_id}
use Rattle.buffer_words.specs.Passes.{SameHands}
use Rattle.gev_lanes.specs.Sides.{AreReadersOf}
use Rattle.lane_crew.proofs.Home.{IsHoming}
use Rattle.lane_crew.proofs.homing.bring_home.Given as goal

abbrev pub invariant-lanes : goal.invariant-lanes
invariant-lanes l = record {
  so : IsHoming (board_id l.board) l.lanes l.reader l.fn.tools.items l.tools.items l.fn.pass l.pass;
  readers : AreReadersOf l.lanes l.reader;
  same : l.reader ≡ l.fn.reader;
  table : l.pass.table ≡ board_id l.board;
  hands : SameHands l.fn.pass l.pass;
}

abbrev pub decreases-lanes : goal.decreases-lanes
decreases-lanes l = vec_len l.tools
