use Rattle.std.proofs.Common.{◌≡◌, ◌≤◌}
use Rattle.live_tests.proofs.queues.give_all.Given as goal

abbrev pub invariant-items : goal.invariant-items
invariant-items g l = record { line : l.giver.line ≡ l.line.table; few : l.next ≤ 10000 }
