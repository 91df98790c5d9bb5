use Rattle.std.proofs.Common.{◌≡◌}
use Rattle.board_machine.specs.Adding.{AddsOf}
use Rattle.board_calls.specs.Rounds.{PoolsHeldBelow}
use Rattle.board_model.proofs.board.PlainBoard.pool_held.Given as goal

abbrev pub invariant-loop-place : goal.invariant-loop-place
invariant-loop-place l = record {
  entries : AddsOf l.initial.self.board l.actor (PoolsHeldBelow l.place) l.self.board;
  contents : l.self.contents ≡ l.initial.self.contents;
}
