use Rattle.std.proofs.Common.{◌≡◌}
use Rattle.buffer_words.specs.Passes.{IsEmptyHanded}
use Rattle.room_tests.proofs.board.call_meeting.fill_pool.Given as goal

abbrev pub invariant-fills : goal.invariant-fills
invariant-fills g l = (l.pass.table ≡ l.fn.pass.table) × IsEmptyHanded l.pass
