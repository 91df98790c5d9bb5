use Rattle.std.proofs.Common.{take}
use Rattle.board_calls.specs.Rounds.{LaysEach}
use Rattle.buffer_words.specs.Several.{EntersOf}
use Rattle.gentl_stream.specs.Several.{Leaves}
use Rattle.gentl_stream.proofs.places.lay_each.Given as goal

abbrev pub invariant-loop-place : goal.invariant-loop-place
invariant-loop-place l = record {
  entries : EntersOf l.fn.pass (LaysEach (take l.place-index l.places)) l.pass;
  hands : Leaves (take l.place-index l.places) l.fn.pass l.pass;
}
