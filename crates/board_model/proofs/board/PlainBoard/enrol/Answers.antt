use Rattle.std.proofs.Common.{◌≡◌, ◌+◌, Some, refl, sym, ap}
use Rattle.board_machine.specs.Places.{times}
use Rattle.board_machine.specs.Machine.{Board, word_at, IsActor, CanEnrol}
use Rattle.board_machine.specs.Owners.{due}
use Rattle.board_model.specs.contracts.board.PlainBoard.{the_view}
use Rattle.board_model.proofs.Items.{places_items, items_apart}
use Rattle.board_model.proofs.Keeps.{at_board, plain_enrol, hand_missing, vacant_not_out}
use Rattle.board_model.proofs.CallsHands.{picked_in}
use Rattle.board_model.proofs.board.PlainBoard.enrol.Goals as goal

pub put-requires-clause-missing : goal.put-requires-clause-missing
put-requires-clause-missing c =
    let b : Board = (the_view c.self.inside).board in
    let can : CanEnrol (word_at b c.args.place) = c.can_enrol.ensures.0 c.if-not-can_enrol.false in
    hand_missing b c.args.actor c.args.place c.self.invariant.owned (ap due can.0)

pub invariant_of-self : goal.invariant_of-self
invariant_of-self c =
    let b : Board = (the_view c.self.inside).board in
    let can : CanEnrol (word_at b c.args.place) = c.can_enrol.ensures.0 c.if-not-can_enrol.false in
    let none : times c.args.place c.self.inside.out.items ≡ 0 =
    vacant_not_out b c.args.place c.self.inside.out.items (sym (places_items c.self.inside.bufs.items c.self.inside.out.items)) c.self.invariant.owned can.0
    in
    rw (c.put.ensures, c.bytes.ensures.value, items_apart c.self.inside.bufs.items c.args.place (Some c.args.buf) c.self.inside.out.items none)
    (plain_enrol _ _ c.args.actor c.args.place ((word_at b c.args.place).generation + 1) c.args.buf c.self.invariant
    (at_board (λ (b : Board). IsActor b c.args.actor) _ _ c.self.view_is c.requires.actor)
    c.requires.in_range c.bytes.ensures.some c.bytes.ensures.in_limits can refl)

pub returns-clause-step : goal.returns-clause-step
returns-clause-step c =
    let b : Board = (the_view c.self.inside).board in
    let can : CanEnrol (word_at b c.args.place) = c.can_enrol.ensures.0 c.if-not-can_enrol.false in
    let none : times c.args.place c.self.inside.out.items ≡ 0 =
    vacant_not_out b c.args.place c.self.inside.out.items (sym (places_items c.self.inside.bufs.items c.self.inside.out.items)) c.self.invariant.owned can.0
    in
    record {
      may = rw (← c.self.view_is)
          (record {
            actor = at_board (λ (b : Board). IsActor b c.args.actor) _ _ c.self.view_is c.requires.actor;
            meets = (c.requires.in_range, c.bytes.ensures.some, c.bytes.ensures.in_limits, can, refl);
          });
      after = rw (← c.self.view_is, c.put.ensures, c.bytes.ensures.value, items_apart c.self.inside.bufs.items c.args.place (Some c.args.buf) c.self.inside.out.items none);
    }

pub returns-clause-in_hand : goal.returns-clause-in_hand
returns-clause-in_hand c =
    rw c.put.ensures (picked_in (the_view c.self.inside).board c.args.actor c.args.place (at_board (λ (b : Board). IsActor b c.args.actor) _ _ c.self.view_is c.requires.actor))
