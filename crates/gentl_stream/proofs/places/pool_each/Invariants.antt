use Rattle.std.proofs.Common.{take}
use Rattle.board_calls.specs.Rounds.{PoolsEach}
use Rattle.buffer_words.specs.Several.{EntersOf}
use Rattle.gentl_stream.specs.Several.{Leaves}
use Rattle.gentl_stream.proofs.places.pool_each.Given as goal

abbrev pub invariant-loop-place : goal.invariant-loop-place
invariant-loop-place l = record {
  entries : EntersOf l.fn.pass (PoolsEach (take l.place-index l.places)) l.pass;
  hands : Leaves (take l.place-index l.places) l.fn.pass l.pass;
}
