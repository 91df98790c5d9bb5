use Rattle.board_machine.specs.Machine.{Board, IsActor, InHand}
use Rattle.board_model.specs.Plain.{PlainState, HasBuf}
use Rattle.board_model.proofs.Keeps.{at_board, at_state, plain_lay}
use Rattle.board_model.proofs.board.PlainBoard.lay.Goals as goal

pub invariant_of-self : goal.invariant_of-self
invariant_of-self c =
    rw c.remove.ensures
    (plain_lay _ _ c.args.actor c.args.place c.self.invariant
    (at_board (λ (b : Board). IsActor b c.args.actor) _ _ c.self.view_is c.requires.actor)
    (at_board (λ (b : Board). InHand b c.args.actor c.args.place) _ _ c.self.view_is c.requires.in_hand)
    (at_state (λ (s : PlainState). HasBuf s c.args.place) _ _ c.self.view_is c.requires.set_down))
