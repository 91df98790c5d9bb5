use Rattle.std.proofs.Common.{◌≡◌, Some, set, sym, ap, ◌∙◌}
use Rattle.board_machine.specs.Places.{times}
use Rattle.board_machine.specs.Machine.{Board, word_at, InHand}
use Rattle.board_model.specs.Plain.{PlainState, content_at, nothing}
use Rattle.board_model.specs.contracts.board.PlainBoard.{the_view}
use Rattle.board_model.proofs.Items.{places_items, items_apart}
use Rattle.board_model.proofs.Keeps.{at_board, plain_lift, hand_not_out}
use Rattle.board_model.proofs.CallsFill.{read_there}
use Rattle.board_model.proofs.board.PlainBoard.lift.Goals as goal

pub invariant_of-self : goal.invariant_of-self
invariant_of-self c =
    let none : times c.args.place c.self.inside.out.items ≡ 0 =
    hand_not_out _ c.args.actor c.args.place c.self.inside.out.items (sym (places_items c.self.inside.bufs.items c.self.inside.out.items)) c.self.invariant.owned
    (at_board (λ (b : Board). InHand b c.args.actor c.args.place) _ _ c.self.view_is c.requires.in_hand)
    in
    rw (c.take.ensures.after, items_apart c.self.inside.bufs.items c.args.place nothing c.self.inside.out.items none)
    (plain_lift _ _ c.args.actor c.args.place c.self.invariant
    (at_board (λ (b : Board). InHand b c.args.actor c.args.place) _ _ c.self.view_is c.requires.in_hand))

pub returns-clause-board : goal.returns-clause-board
returns-clause-board c =
    let none : times c.args.place c.self.inside.out.items ≡ 0 =
    hand_not_out _ c.args.actor c.args.place c.self.inside.out.items (sym (places_items c.self.inside.bufs.items c.self.inside.out.items)) c.self.invariant.owned
    (at_board (λ (b : Board). InHand b c.args.actor c.args.place) _ _ c.self.view_is c.requires.in_hand)
    in
    rw (← c.self.view_is, c.take.ensures.after, items_apart c.self.inside.bufs.items c.args.place nothing c.self.inside.out.items none)

pub unreachable-requires : goal.unreachable-requires
unreachable-requires c =
    c.requires.set_down
    (read_there (the_view c.self.inside) c.args.self.now c.args.place c.index_mut.result.now c.self.view_is c.requires.set_down c.index_mut.ensures.value ∙ sym c.take.ensures.value ∙ c.in-None.is)

pub returns-clause-value : goal.returns-clause-value
returns-clause-value c =
    read_there (the_view c.self.inside) c.args.self.now c.args.place c.index_mut.result.now c.self.view_is c.requires.set_down c.index_mut.ensures.value ∙ sym c.take.ensures.value ∙ c.in-Some.is

pub returns-clause-contents : goal.returns-clause-contents
returns-clause-contents c =
    ap (λ x. set c.self.inside.bufs.items c.args.place x) c.take.ensures.after ∙ ap (λ (s : PlainState). set s.contents c.args.place nothing) c.self.view_is

pub returns-clause-size : goal.returns-clause-size
returns-clause-size c =
    let there : content_at (the_view c.self.inside) c.args.place ≡ Some c.in-Some.buf =
    ap (λ (s : PlainState). content_at s c.args.place) c.self.view_is
    ∙ read_there (the_view c.self.inside) c.args.self.now c.args.place c.index_mut.result.now c.self.view_is c.requires.set_down c.index_mut.ensures.value ∙ sym c.take.ensures.value ∙ c.in-Some.is
    in
    c.self.invariant.sized c.args.place c.in-Some.buf there ∙ ap (λ (s : PlainState). (word_at s.board c.args.place).size) c.self.view_is
