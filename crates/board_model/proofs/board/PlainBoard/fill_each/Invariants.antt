use Rattle.std.proofs.Common.{◌≡◌, take}
use Rattle.board_machine.specs.Adding.{AddsOf}
use Rattle.board_model.specs.Holdings.{LeftHand, HaveBufs, FillsAsLying, with_empty_records}
use Rattle.board_model.proofs.board.PlainBoard.fill_each.Given as goal

abbrev pub invariant-loop-place : goal.invariant-loop-place
invariant-loop-place l = record {
  entries : AddsOf l.initial.self.board l.actor (FillsAsLying l.initial.self.contents (take l.place-index l.places)) l.self.board;
  left : LeftHand l.initial.self.board l.actor (take l.place-index l.places) l.self.board;
  have : HaveBufs l.self.contents l.places;
  contents : l.self.contents ≡ with_empty_records (take l.place-index l.places) l.initial.self.contents;
}
