use Rattle.std.proofs.Common.{◌≡◌, length}
use Rattle.board_machine.specs.Adding.{AddsOf}
use Rattle.board_calls.specs.Rounds.{RefusedBelow}
use Rattle.board_model.proofs.board.PlainBoard.enrol_lowest.Given as goal

abbrev pub invariant-loop-place : goal.invariant-loop-place
invariant-loop-place l = record {
  tried : AddsOf l.initial.self.board l.actor (RefusedBelow l.place (length l.fn.buf.bytes)) l.self.board;
  same : l.buf ≡ l.fn.buf;
  contents : l.self.contents ≡ l.initial.self.contents;
}
