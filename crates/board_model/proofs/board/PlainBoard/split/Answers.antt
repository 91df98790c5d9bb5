use Rattle.board_machine.specs.Machine.{Board, IsActor}
use Rattle.board_model.proofs.Keeps.{at_board, plain_split}
use Rattle.board_model.proofs.board.PlainBoard.split.Goals as goal

pub invariant_of-self : goal.invariant_of-self
invariant_of-self c =
    rw c.add.ensures.after
    (plain_split _ _ c.args.actor c.self.invariant
    (at_board (λ (b : Board). IsActor b c.args.actor) _ _ c.self.view_is c.requires.actor))
