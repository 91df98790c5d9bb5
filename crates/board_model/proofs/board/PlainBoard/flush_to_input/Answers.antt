use Rattle.board_model.proofs.CallsKinds.{flushes_to_input}
use Rattle.board_model.proofs.board.PlainBoard.flush_to_input.Goals as goal

pub returns-clause-entries : goal.returns-clause-entries
returns-clause-entries c =
    flushes_to_input _ _ _ _ _ _ _ c.as_slice.ensures.value c.sweep_out-output.ensures.step
    c.pool_each.ensures.entries c.pool_held.ensures.entries
