use Rattle.std.proofs.Common.{refl}
use Rattle.board_machine.proofs.Adding.{adds_kind}
use Rattle.board_model.proofs.board.PlainBoard.look_closed.Goals as goal

pub returns-clause-entries : goal.returns-clause-entries
returns-clause-entries c = adds_kind _ _ _ _ _ tt (record { output = c.look_out.result.0.items; is = refl }) c.look_out.ensures.step
