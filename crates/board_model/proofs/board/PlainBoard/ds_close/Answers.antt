use Rattle.board_model.proofs.CallsKinds.{closes}
use Rattle.board_model.proofs.board.PlainBoard.ds_close.Goals as goal

pub returns-clause-entries : goal.returns-clause-entries
returns-clause-entries c =
    closes _ _ _ _ _ _ _ _ _ _ _ c.as_slice.ensures.value c.as_slice-2.ensures.value c.close.ensures.step
    c.sweep_out-output.ensures.step c.sweep_pool-pooled.ensures.step
    c.lay_each.ensures.entries c.lay_each-2.ensures.entries
