use Rattle.std.proofs.Common.{◌≡◌}
use Rattle.buffer_words.specs.Passes.{IsEmptyHanded}
use Rattle.room_tests.proofs.board.meeting.wait_for.Given as goal

abbrev pub invariant-waits : goal.invariant-waits
invariant-waits g l = (l.pass.table ≡ l.fn.pass.table) × IsEmptyHanded l.pass
