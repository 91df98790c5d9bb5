use Rattle.std.proofs.Common.{refl}
use Rattle.board_machine.proofs.Adding.{adds_kind}
use Rattle.board_model.proofs.board.PlainBoard.count_output.Goals as goal

pub returns-clause-entries : goal.returns-clause-entries
returns-clause-entries c =
    adds_kind _ _ _ _ _ tt (record { output = c.look_out-output.result.0.items; closed = c.look_out-output.result.1; is = refl; value = c.len.ensures.value }) c.look_out-output.ensures.step
