use Rattle.std.proofs.Common.{rules, arith, ◌≡◌, sym, ap, ◌∙◌}
use Rattle.board_machine.specs.Machine.{Board, IsActor}
use Rattle.board_model.proofs.Items.{places_items}
use Rattle.board_model.proofs.Keeps.{at_board, plain_sweep_out, out_missing, out_below}
use Rattle.board_model.proofs.CallsHands.{swept_in, out_have}
use Rattle.board_model.proofs.board.PlainBoard.sweep_out.Goals as goal

pub put_each-requires-clause-in_range : goal.put_each-requires-clause-in_range
put_each-requires-clause-in_range c =
    out_below _ c.as_slice.result.now
    (c.as_slice.ensures.value ∙ ap (λ xs. xs.items) c.take-swept.ensures.value ∙ sym (places_items c.self.inside.bufs.items c.self.inside.out.items))
    c.self.invariant.owned

pub put_each-requires-clause-missing : goal.put_each-requires-clause-missing
put_each-requires-clause-missing c =
    out_missing _ c.args.actor c.as_slice.result.now
    (c.as_slice.ensures.value ∙ ap (λ xs. xs.items) c.take-swept.ensures.value ∙ sym (places_items c.self.inside.bufs.items c.self.inside.out.items))
    c.self.invariant.owned

pub invariant_of-self : goal.invariant_of-self
invariant_of-self c =
    let all : c.as_slice.result.now ≡ c.self.inside.out.items = c.as_slice.ensures.value ∙ ap (λ xs. xs.items) c.take-swept.ensures.value in
    rw (c.put_each.ensures, c.take-swept.ensures.after, all, ← places_items c.self.inside.bufs.items c.self.inside.out.items)
    (plain_sweep_out _ _ c.args.actor c.self.invariant
    (at_board (λ (b : Board). IsActor b c.args.actor) _ _ c.self.view_is c.requires.actor))

pub returns-clause-step : goal.returns-clause-step
returns-clause-step c =
    record {
      may = rw (← c.self.view_is)
          (record {
            actor = (at_board (λ (b : Board). IsActor b c.args.actor) _ _ c.self.view_is c.requires.actor);
            meets = ap (λ xs. xs.items) c.take-swept.ensures.value ∙ sym (places_items c.self.inside.bufs.items c.self.inside.out.items);
          });
      after = first_of (search rules, grind arith);
    }

pub returns-clause-in_hand : goal.returns-clause-in_hand
returns-clause-in_hand c =
    rw (← c.self.view_is)
    (swept_in _ _ c.args.actor _ c.as_slice.result.now c.as_slice.ensures.value (at_board (λ (b : Board). IsActor b c.args.actor) _ _ c.self.view_is c.requires.actor) c.put_each.ensures)

pub returns-clause-set_down : goal.returns-clause-set_down
returns-clause-set_down c =
    out_have _ _ _ c.self.invariant (ap (λ xs. xs.items) c.take-swept.ensures.value ∙ sym (places_items c.self.inside.bufs.items c.self.inside.out.items))
