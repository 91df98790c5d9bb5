use Rattle.std.proofs.Common.{◌≡◌}
use Rattle.buffer_words.specs.Passes.{IsEmptyHanded}
use Rattle.room_tests.proofs.board.output_meeting.close_late.Given as goal

abbrev pub invariant-looks : goal.invariant-looks
invariant-looks g l = (l.pass.table ≡ l.fn.pass.table) × IsEmptyHanded l.pass
