use Rattle.board_machine.proofs.Forms.{owned_cases}
use Rattle.board_model.proofs.board.PlainBoard.owned.Goals as goal

pub returns-clause-owned : goal.returns-clause-owned
returns-clause-owned c = rw (← c.self.view_is) (owned_cases _ c.self.invariant.owned)
