use Rattle.std.proofs.Common.{◌≡◌, ◌≤◌}
use Rattle.board_machine.specs.Adding.{AddsOf}
use Rattle.board_calls.specs.Infos.{CountsBelow}
use Rattle.board_model.proofs.board.PlainBoard.count_announced.Given as goal

abbrev pub invariant-loop-place : goal.invariant-loop-place
invariant-loop-place l = record {
  entries : AddsOf l.initial.self.board l.actor (CountsBelow l.place l.count) l.self.board;
  few : l.count ≤ l.place;
  contents : l.self.contents ≡ l.initial.self.contents;
}
