use Rattle.board_calls.specs.Rounds.{PoolsHeldBelow}
use Rattle.buffer_words.specs.Passes.{SameHands}
use Rattle.buffer_words.specs.Several.{EntersOf}
use Rattle.gentl_stream.proofs.places.pool_held.Given as goal

abbrev pub invariant-loop-place : goal.invariant-loop-place
invariant-loop-place l = record {
  entries : EntersOf l.fn.pass (PoolsHeldBelow l.place) l.pass;
  hands : SameHands l.fn.pass l.pass;
}
