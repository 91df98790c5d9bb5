use Rattle.std.proofs.Common.{refl}
use Rattle.board_machine.proofs.Adding.{adds_kind}
use Rattle.board_model.proofs.board.PlainBoard.count_pool.Goals as goal

pub returns-clause-entries : goal.returns-clause-entries
returns-clause-entries c = adds_kind _ _ _ _ _ tt (record { pooled = c.look_pool.result.items; is = refl; value = c.len.ensures.value }) c.look_pool.ensures.step
