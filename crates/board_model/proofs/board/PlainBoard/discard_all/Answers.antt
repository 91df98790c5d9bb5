use Rattle.board_model.proofs.CallsKinds.{discards_all}
use Rattle.board_model.proofs.board.PlainBoard.discard_all.Goals as goal

pub returns-clause-entries : goal.returns-clause-entries
returns-clause-entries c =
    discards_all _ _ _ _ _ _ _ _ _ _ c.as_slice.ensures.value c.as_slice-2.ensures.value
    c.sweep_pool-pooled.ensures.step c.sweep_out-output.ensures.step
    c.lay_each.ensures.entries c.lay_each-2.ensures.entries
