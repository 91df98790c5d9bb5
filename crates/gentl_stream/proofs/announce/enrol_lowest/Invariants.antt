use Rattle.std.proofs.Common.{◌≡◌, length}
use Rattle.board_calls.specs.Rounds.{RefusedBelow}
use Rattle.buffer_words.specs.Passes.{SameHands}
use Rattle.buffer_words.specs.Several.{EntersOf}
use Rattle.gentl_stream.proofs.announce.enrol_lowest.Given as goal

abbrev pub invariant-loop-place : goal.invariant-loop-place
invariant-loop-place l = record {
  tried : EntersOf l.fn.pass (RefusedBelow l.place (length l.fn.buf.bytes)) l.pass;
  same : l.buf ≡ l.fn.buf;
  hands : SameHands l.fn.pass l.pass;
}
