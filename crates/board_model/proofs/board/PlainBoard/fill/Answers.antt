use Rattle.std.proofs.Common.{rules, ◌≡◌, ◌<◌, length, sym, arith, lit<}
use Rattle.gev_types.specs.Limits.{place_count}
use Rattle.board_machine.specs.Places.{times}
use Rattle.board_machine.specs.Machine.{Board, word_at, IsActor, InHand}
use Rattle.board_model.proofs.Items.{places_items, items_fill}
use Rattle.board_model.proofs.Keeps.{at_board, plain_fill, hand_not_out, in_hand_below, out_room}
use Rattle.board_model.proofs.board.PlainBoard.fill.Goals as goal

pub push-requires : goal.push-requires
push-requires c =
    let room : length c.self.inside.out.items < place_count =
    out_room _ c.args.actor c.args.place c.self.inside.out.items (sym (places_items c.self.inside.bufs.items c.self.inside.out.items)) c.self.invariant.owned
    (at_board (λ (b : Board). InHand b c.args.actor c.args.place) _ _ c.self.view_is c.requires.in_hand)
    in
    (lit< tt, room)

pub invariant_of-self : goal.invariant_of-self
invariant_of-self c =
    let none : times c.args.place c.self.inside.out.items ≡ 0 =
    hand_not_out _ c.args.actor c.args.place c.self.inside.out.items (sym (places_items c.self.inside.bufs.items c.self.inside.out.items)) c.self.invariant.owned
    (at_board (λ (b : Board). InHand b c.args.actor c.args.place) _ _ c.self.view_is c.requires.in_hand)
    in
    let below : c.args.place < place_count =
    in_hand_below _ c.args.actor c.args.place c.self.invariant.owned
    (at_board (λ (b : Board). InHand b c.args.actor c.args.place) _ _ c.self.view_is c.requires.in_hand)
    in
    let within : c.args.place < length c.self.inside.bufs.items = omega (arith, c.self.invariant.wide) in
    rw (c.push.ensures.items, c.remove.ensures, items_fill c.self.inside.bufs.items c.args.place c.args.buf c.self.inside.out.items none within)
    (plain_fill _ _ c.args.actor c.args.place c.args.buf c.self.invariant
    (at_board (λ (b : Board). IsActor b c.args.actor) _ _ c.self.view_is c.requires.actor)
    (at_board (λ (b : Board). InHand b c.args.actor c.args.place) _ _ c.self.view_is c.requires.in_hand)
    (at_board (λ (b : Board). length c.args.buf.bytes ≡ (word_at b c.args.place).size) _ _ c.self.view_is c.requires.size)
    c.if-self.false)

pub returns-clause-step : goal.returns-clause-step
returns-clause-step c =
    let none : times c.args.place c.self.inside.out.items ≡ 0 =
    hand_not_out _ c.args.actor c.args.place c.self.inside.out.items (sym (places_items c.self.inside.bufs.items c.self.inside.out.items)) c.self.invariant.owned
    (at_board (λ (b : Board). InHand b c.args.actor c.args.place) _ _ c.self.view_is c.requires.in_hand)
    in
    let below : c.args.place < place_count =
    in_hand_below _ c.args.actor c.args.place c.self.invariant.owned
    (at_board (λ (b : Board). InHand b c.args.actor c.args.place) _ _ c.self.view_is c.requires.in_hand)
    in
    let within : c.args.place < length c.self.inside.bufs.items = omega (arith, c.self.invariant.wide) in
    record {
      may = first_of (search rules, grind arith);
      after = rw (← c.self.view_is, c.push.ensures.items, c.remove.ensures, items_fill c.self.inside.bufs.items c.args.place c.args.buf c.self.inside.out.items none within);
    }
