use Rattle.std.proofs.Common.{◌≤◌}
use Rattle.board_calls.specs.Infos.{CountsBelow}
use Rattle.buffer_words.specs.Passes.{SameHands}
use Rattle.buffer_words.specs.Several.{EntersOf}
use Rattle.gentl_stream.proofs.info.count_announced.Given as goal

abbrev pub invariant-loop-place : goal.invariant-loop-place
invariant-loop-place l = record {
  entries : EntersOf l.fn.pass (CountsBelow l.place l.count) l.pass;
  hands : SameHands l.fn.pass l.pass;
  few : l.count ≤ l.place;
}
