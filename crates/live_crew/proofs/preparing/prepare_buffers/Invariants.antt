use Rattle.std.proofs.Common.{◌≡◌}
use Rattle.buffer_words.specs.Boards.{board_id}
use Rattle.buffer_words.specs.Passes.{SameHands}
use Rattle.live_crew.specs.Prepared.{HasPrepared}
use Rattle.live_crew.proofs.preparing.prepare_buffers.Given as goal

abbrev pub invariant-buffers : goal.invariant-buffers
invariant-buffers l = record {
  table : l.pass.table ≡ board_id l.board;
  has : HasPrepared l.size l._buffer l.fn.pass l.pass;
  hands : SameHands l.fn.pass l.pass;
}
