use Rattle.std.proofs.Common.{◌≡◌}
use Rattle.buffer_words.specs.Passes.{IsEmptyHanded}
use Rattle.room_tests.proofs.board.meeting.look_for.Given as goal

abbrev pub invariant-looks : goal.invariant-looks
invariant-looks l = (l.pass.table ≡ l.fn.pass.table) × IsEmptyHanded l.pass
