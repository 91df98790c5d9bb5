use Rattle.std.proofs.Common.{◌∙◌}
use Rattle.buffer_words.proofs.Turns.{slot_some}
use Rattle.buffer_words.proofs.Carried.{carries_single}
use Rattle.buffer_words.proofs.Handling.{whole_some, brought_buffer}
use Rattle.buffer_words.proofs.Partings.{lifts}
use Rattle.buffer_words.proofs.words.Board.lift.Goals as goal

pub bring-requires-clause-single : goal.bring-requires-clause-single
bring-requires-clause-single c = carries_single _ _ _ c.pass.invariant.carries

pub bring-requires-clause-has : goal.bring-requires-clause-has
bring-requires-clause-has c = slot_some c.args.place c.pass.inside.seat.me.1 (whole_some c.args.pass.now c.pass.inside.seat.table_id c.pass.inside.seat.me c.args.place c.pass.view_is c.requires.holds)

pub lift_front-requires-clause-filled : goal.lift_front-requires-clause-filled
lift_front-requires-clause-filled c = let holds = brought_buffer c.args.pass.now c.pass.inside.seat.table_id c.pass.inside.held.items c.bring.new.held.items c.pass.inside.seat.me c.bring.new.seat.me c.args.place c.pass.view_is c.requires.holds c.pass.invariant (record { order = c.bring.ensures.order; view = c.bring.ensures.view; counts = c.bring.ensures.times; slots = c.bring.ensures.slots }) c.bring.ensures.front in record { filling = holds.filling; front = holds.front }

pub invariant_of-pass : goal.invariant_of-pass
invariant_of-pass c = (lifts c.args.pass.now c.pass.inside.seat.table_id c.lift_front.new.seat.table_id c.pass.inside.held.items c.bring.new.held.items c.pass.inside.seat.me c.bring.new.seat.me c.lift_front.new.seat.me c.args.place c.lift_front.result c.pass.view_is c.pass.invariant (record { order = c.bring.ensures.order; view = c.bring.ensures.view; counts = c.bring.ensures.times; slots = c.bring.ensures.slots }) c.lift_front.ensures.was c.lift_front.ensures.now (c.lift_front.ensures.table ∙ c.bring.ensures.table)).pass

pub returns : goal.returns
returns c = let all = (lifts c.args.pass.now c.pass.inside.seat.table_id c.lift_front.new.seat.table_id c.pass.inside.held.items c.bring.new.held.items c.pass.inside.seat.me c.bring.new.seat.me c.lift_front.new.seat.me c.args.place c.lift_front.result c.pass.view_is c.pass.invariant (record { order = c.bring.ensures.order; view = c.bring.ensures.view; counts = c.bring.ensures.times; slots = c.bring.ensures.slots }) c.lift_front.ensures.was c.lift_front.ensures.now (c.lift_front.ensures.table ∙ c.bring.ensures.table)) in record { stays = all.stays; was = all.was; size = all.size; hands = all.has }
