use Rattle.std.proofs.Common.{◌≡◌}
use Rattle.buffer_words.specs.Passes.{IsEmptyHanded}
use Rattle.room_tests.proofs.board.pool_meeting.queue_and_claim.Given as goal

abbrev pub invariant-loop-place : goal.invariant-loop-place
invariant-loop-place g l = (l.pass.table ≡ l.fn.pass.table) × IsEmptyHanded l.pass

abbrev pub invariant-claims : goal.invariant-claims
invariant-claims g l = (l.pass.table ≡ l.fn.pass.table) × IsEmptyHanded l.pass
