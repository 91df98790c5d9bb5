use Rattle.std.proofs.Common.{◌≡◌, take}
use Rattle.board_machine.specs.Adding.{AddsOf}
use Rattle.board_model.specs.Holdings.{LeftHand}
use Rattle.board_calls.specs.Rounds.{LaysEach}
use Rattle.board_model.proofs.board.PlainBoard.lay_each.Given as goal

abbrev pub invariant-loop-place : goal.invariant-loop-place
invariant-loop-place l = record {
  entries : AddsOf l.initial.self.board l.actor (LaysEach (take l.place-index l.places)) l.self.board;
  left : LeftHand l.initial.self.board l.actor (take l.place-index l.places) l.self.board;
  contents : l.self.contents ≡ l.initial.self.contents;
}
