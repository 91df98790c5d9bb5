use Rattle.std.proofs.Common.{ap}
use Rattle.board_machine.specs.Machine.{Board, word_at, IsActor, IsHeldAs}
use Rattle.board_machine.specs.Owners.{due}
use Rattle.board_model.specs.contracts.board.PlainBoard.{the_view}
use Rattle.board_model.proofs.Keeps.{at_board, plain_grab, hand_missing}
use Rattle.board_model.proofs.CallsHands.{picked_in}
use Rattle.board_model.proofs.board.PlainBoard.grab.Goals as goal

pub put-requires-clause-missing : goal.put-requires-clause-missing
put-requires-clause-missing c =
    let b : Board = (the_view c.self.inside).board in
    let is_held : IsHeldAs (word_at b c.args.place) c.args.generation = c.is_held_as.ensures.0 c.if-not-is_held_as.false in
    hand_missing b c.args.actor c.args.place c.self.invariant.owned (ap due is_held.0)

pub invariant_of-self : goal.invariant_of-self
invariant_of-self c =
    rw c.put.ensures
    (plain_grab _ _ c.args.actor c.args.place c.args.generation tt c.self.invariant
    (at_board (λ (b : Board). IsActor b c.args.actor) _ _ c.self.view_is c.requires.actor)
    c.requires.in_range
    (c.is_held_as.ensures.0 c.if-not-is_held_as.false))

pub returns-clause-in_hand : goal.returns-clause-in_hand
returns-clause-in_hand c =
    rw c.put.ensures (picked_in (the_view c.self.inside).board c.args.actor c.args.place (at_board (λ (b : Board). IsActor b c.args.actor) _ _ c.self.view_is c.requires.actor))
