use Rattle.std.proofs.Common.{◌∙◌}
use Rattle.board_machine.specs.Machine.{Board, IsActor}
use Rattle.board_model.proofs.Keeps.{at_board, plain_sweep_pool, pool_missing}
use Rattle.board_model.proofs.CallsHands.{swept_in}
use Rattle.board_model.proofs.board.PlainBoard.sweep_pool.Goals as goal

pub put_each-requires-clause-missing : goal.put_each-requires-clause-missing
put_each-requires-clause-missing c =
    pool_missing _ c.args.actor c.as_slice.result.now (c.as_slice.ensures.value ∙ c.list-swept.ensures) c.self.invariant.owned

pub invariant_of-self : goal.invariant_of-self
invariant_of-self c =
    rw (c.put_each.ensures, c.new-self-inside.ensures, c.as_slice.ensures.value, c.list-swept.ensures)
    (plain_sweep_pool _ _ c.args.actor c.self.invariant
    (at_board (λ (b : Board). IsActor b c.args.actor) _ _ c.self.view_is c.requires.actor))

pub returns-clause-in_hand : goal.returns-clause-in_hand
returns-clause-in_hand c =
    rw (← c.self.view_is)
    (swept_in _ _ c.args.actor _ c.as_slice.result.now c.as_slice.ensures.value (at_board (λ (b : Board). IsActor b c.args.actor) _ _ c.self.view_is c.requires.actor) c.put_each.ensures)
