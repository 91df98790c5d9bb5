use Rattle.std.proofs.Common.{◌≡◌, set, sym, ap, ◌∙◌}
use Rattle.board_machine.specs.Places.{times}
use Rattle.board_machine.specs.Machine.{Board, IsActor, InHand}
use Rattle.board_model.specs.Plain.{PlainState, nothing}
use Rattle.board_model.specs.contracts.board.PlainBoard.{the_view}
use Rattle.board_model.proofs.Items.{places_items, items_apart}
use Rattle.board_model.proofs.Keeps.{at_board, plain_vacate, hand_not_out, in_hand_below}
use Rattle.board_model.proofs.CallsFill.{read_there}
use Rattle.board_model.proofs.board.PlainBoard.vacate.Goals as goal

pub invariant_of-self : goal.invariant_of-self
invariant_of-self c =
    let none : times c.args.place c.self.inside.out.items ≡ 0 =
    hand_not_out _ c.args.actor c.args.place c.self.inside.out.items (sym (places_items c.self.inside.bufs.items c.self.inside.out.items)) c.self.invariant.owned
    (at_board (λ (b : Board). InHand b c.args.actor c.args.place) _ _ c.self.view_is c.requires.in_hand)
    in
    rw (c.take.ensures.after, c.remove.ensures, items_apart c.self.inside.bufs.items c.args.place nothing c.self.inside.out.items none)
    (plain_vacate _ _ c.args.actor c.args.place c.self.invariant
    (at_board (λ (b : Board). IsActor b c.args.actor) _ _ c.self.view_is c.requires.actor)
    (at_board (λ (b : Board). InHand b c.args.actor c.args.place) _ _ c.self.view_is c.requires.in_hand))

pub returns-clause-step : goal.returns-clause-step
returns-clause-step c =
    let none : times c.args.place c.self.inside.out.items ≡ 0 =
    hand_not_out _ c.args.actor c.args.place c.self.inside.out.items (sym (places_items c.self.inside.bufs.items c.self.inside.out.items)) c.self.invariant.owned
    (at_board (λ (b : Board). InHand b c.args.actor c.args.place) _ _ c.self.view_is c.requires.in_hand)
    in
    record {
      may = record { actor = c.requires.actor; meets = c.requires.in_hand };
      after = rw (← c.self.view_is, c.take.ensures.after, c.remove.ensures, items_apart c.self.inside.bufs.items c.args.place nothing c.self.inside.out.items none);
    }

pub remove-requires : goal.remove-requires
remove-requires c = at_board (λ (b : Board). InHand b c.args.actor c.args.place) _ _ c.self.view_is c.requires.in_hand

pub bounds-self-inside-place : goal.bounds-self-inside-place
bounds-self-inside-place c =
    in_hand_below (the_view c.self.inside).board c.args.actor c.args.place c.self.invariant.owned (at_board (λ (b : Board). InHand b c.args.actor c.args.place) _ _ c.self.view_is c.requires.in_hand)

pub unreachable-requires : goal.unreachable-requires
unreachable-requires c =
    c.requires.set_down
    (read_there (the_view c.self.inside) c.args.self.now c.args.place c.index_mut.result.now c.self.view_is c.requires.set_down c.index_mut.ensures.value ∙ sym c.take.ensures.value ∙ c.in-None.is)

pub returns-clause-value : goal.returns-clause-value
returns-clause-value c =
    read_there (the_view c.self.inside) c.args.self.now c.args.place c.index_mut.result.now c.self.view_is c.requires.set_down c.index_mut.ensures.value ∙ sym c.take.ensures.value ∙ c.in-Some.is

pub returns-clause-contents : goal.returns-clause-contents
returns-clause-contents c =
    ap (λ x. set c.self.inside.bufs.items c.args.place x) c.take.ensures.after ∙ ap (λ (s : PlainState). set s.contents c.args.place nothing) c.self.view_is
