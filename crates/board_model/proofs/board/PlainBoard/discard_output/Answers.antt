use Rattle.board_model.proofs.CallsKinds.{discards_output}
use Rattle.board_model.proofs.board.PlainBoard.discard_output.Goals as goal

pub returns-clause-entries : goal.returns-clause-entries
returns-clause-entries c = discards_output _ _ _ _ _ _ c.as_slice.ensures.value c.sweep_out-output.ensures.step c.lay_each.ensures.entries
