use Rattle.std.proofs.Common.{◌≡◌}
use Rattle.buffer_words.specs.Passes.{SameHands}
use Rattle.buffer_words.specs.Several.{EntersOf}
use Rattle.buffer_words.specs.Boards.{board_id}
use Rattle.board_model.specs.Steps.{DropsSome}
use Rattle.shared_modes.proofs.filling.drop_all_waiting.Given as goal

abbrev pub invariant-loop-dropped : goal.invariant-loop-dropped
invariant-loop-dropped g l = record {
  enters : EntersOf l.initial.pass (DropsSome l.dropped) l.pass;
  hands : SameHands l.initial.pass l.pass;
  table : l.pass.table ≡ board_id l.board;
}
