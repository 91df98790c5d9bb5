use Rattle.std.proofs.Common.{◌≡◌, ℕ, ◌+◌, ◌++◌, map, take}
use Rattle.arrayvec.specs.ArrayVec.{array_vec_len}
use Rattle.board_machine.specs.Adding.{AddsOf}
use Rattle.board_model.specs.Steps.{DropsSome, KeepsHeld}
use Rattle.board_model.specs.Gone.{gone_of}
use Rattle.board_model.proofs.plain.drop_all_waiting.Given as goal

abbrev pub invariant-loop-dropped : goal.invariant-loop-dropped
invariant-loop-dropped l = record {
  entries : AddsOf l.initial.board.board l.actor (DropsSome l.dropped) l.board.board;
  held : KeepsHeld l.initial.board.board l.actor l.board.board;
  contents : l.board.contents ≡ l.initial.board.contents;
  many : array_vec_len l.gone ≡ l.dropped;
  gone : (m : ℕ) → l.gone.items ++ map gone_of (take m l.board.board.out) ≡ map gone_of (take (l.dropped + m) l.initial.board.board.out);
}
