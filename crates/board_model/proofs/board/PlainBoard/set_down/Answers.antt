use Rattle.std.proofs.Common.{◌≡◌, Some, length, sym}
use Rattle.board_machine.specs.Places.{times}
use Rattle.board_machine.specs.Machine.{Board, word_at, InHand}
use Rattle.board_model.proofs.Items.{places_items, items_apart}
use Rattle.board_model.proofs.Keeps.{at_board, plain_set_down, hand_not_out}
use Rattle.board_model.proofs.board.PlainBoard.set_down.Goals as goal

pub invariant_of-self : goal.invariant_of-self
invariant_of-self c =
    let none : times c.args.place c.self.inside.out.items ≡ 0 =
    hand_not_out _ c.args.actor c.args.place c.self.inside.out.items (sym (places_items c.self.inside.bufs.items c.self.inside.out.items)) c.self.invariant.owned
    (at_board (λ (b : Board). InHand b c.args.actor c.args.place) _ _ c.self.view_is c.requires.in_hand)
    in
    rw (items_apart c.self.inside.bufs.items c.args.place (Some c.args.buf) c.self.inside.out.items none)
    (plain_set_down _ _ c.args.actor c.args.place c.args.buf c.self.invariant
    (at_board (λ (b : Board). InHand b c.args.actor c.args.place) _ _ c.self.view_is c.requires.in_hand)
    (at_board (λ (b : Board). length c.args.buf.bytes ≡ (word_at b c.args.place).size) _ _ c.self.view_is c.requires.size))

pub returns-clause-board : goal.returns-clause-board
returns-clause-board c =
    let none : times c.args.place c.self.inside.out.items ≡ 0 =
    hand_not_out _ c.args.actor c.args.place c.self.inside.out.items (sym (places_items c.self.inside.bufs.items c.self.inside.out.items)) c.self.invariant.owned
    (at_board (λ (b : Board). InHand b c.args.actor c.args.place) _ _ c.self.view_is c.requires.in_hand)
    in
    rw (← c.self.view_is, items_apart c.self.inside.bufs.items c.args.place (Some c.args.buf) c.self.inside.out.items none)
