use Rattle.std.proofs.Common.{◌≡◌}
use Rattle.board_machine.specs.Machine.{Board, hand_at, empty_hands, IsActor}
use Rattle.board_model.proofs.Keeps.{at_board, plain_join}
use Rattle.board_model.proofs.board.PlainBoard.join.Goals as goal

pub invariant_of-self : goal.invariant_of-self
invariant_of-self c =
    rw c.end.ensures
    (plain_join _ _ c.args.actor c.args.other c.self.invariant
    (at_board (λ (b : Board). IsActor b c.args.actor) _ _ c.self.view_is c.requires.actor)
    (at_board (λ (b : Board). hand_at b c.args.other ≡ empty_hands) _ _ c.self.view_is c.requires.empty)
    c.requires.other)
