use Rattle.std.proofs.Common.{◌≡◌}
use Rattle.buffer_words.specs.Passes.{IsEmptyHanded}
use Rattle.room_tests.proofs.board.meeting.announce_all.Given as goal

abbrev pub invariant-buffers : goal.invariant-buffers
invariant-buffers l = (l.pass.table ≡ l.fn.pass.table) × IsEmptyHanded l.pass
