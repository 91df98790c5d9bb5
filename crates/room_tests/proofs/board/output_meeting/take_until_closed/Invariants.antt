use Rattle.std.proofs.Common.{◌≡◌}
use Rattle.buffer_words.specs.Passes.{IsEmptyHanded}
use Rattle.room_tests.proofs.board.output_meeting.take_until_closed.Given as goal

abbrev pub invariant-takes : goal.invariant-takes
invariant-takes g l = (l.pass.table ≡ l.fn.pass.table) × IsEmptyHanded l.pass
