use Rattle.std.specs.Prelude.{◌≡◌}
use Rattle.board_cases.proofs.application.take_all.Given as goal

abbrev pub invariant-takes : goal.invariant-takes
invariant-takes g l = l.pass.table ≡ l.fn.pass.table
