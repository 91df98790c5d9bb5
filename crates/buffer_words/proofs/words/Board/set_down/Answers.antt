use Rattle.std.proofs.Common.{◌∙◌}
use Rattle.buffer_words.proofs.Turns.{slot_some}
use Rattle.buffer_words.proofs.Carried.{carries_single}
use Rattle.buffer_words.proofs.Handling.{lifted_some, brought_nothing}
use Rattle.buffer_words.proofs.Partings.{sets_down}
use Rattle.buffer_words.proofs.words.Board.set_down.Goals as goal

pub bring-requires-clause-single : goal.bring-requires-clause-single
bring-requires-clause-single c = carries_single _ _ _ c.pass.invariant.carries

pub bring-requires-clause-has : goal.bring-requires-clause-has
bring-requires-clause-has c = slot_some c.args.place c.pass.inside.seat.me.1 (lifted_some c.args.pass.now c.pass.inside.seat.table_id c.pass.inside.seat.me c.args.place c.pass.view_is c.requires.holds)

pub put_front-requires-clause-empty : goal.put_front-requires-clause-empty
put_front-requires-clause-empty c = (brought_nothing c.args.pass.now c.pass.inside.seat.table_id c.pass.inside.held.items c.bring.new.held.items c.pass.inside.seat.me c.bring.new.seat.me c.args.place c.pass.view_is c.requires.holds c.pass.invariant (record { order = c.bring.ensures.order; view = c.bring.ensures.view; counts = c.bring.ensures.times; slots = c.bring.ensures.slots }) c.bring.ensures.front).front

pub invariant_of-pass : goal.invariant_of-pass
invariant_of-pass c = (sets_down c.args.pass.now c.pass.inside.seat.table_id c.put_front.new.seat.table_id c.pass.inside.held.items c.bring.new.held.items c.pass.inside.seat.me c.bring.new.seat.me c.put_front.new.seat.me c.args.place c.args.buf c.pass.view_is c.pass.invariant (record { order = c.bring.ensures.order; view = c.bring.ensures.view; counts = c.bring.ensures.times; slots = c.bring.ensures.slots }) (brought_nothing c.args.pass.now c.pass.inside.seat.table_id c.pass.inside.held.items c.bring.new.held.items c.pass.inside.seat.me c.bring.new.seat.me c.args.place c.pass.view_is c.requires.holds c.pass.invariant (record { order = c.bring.ensures.order; view = c.bring.ensures.view; counts = c.bring.ensures.times; slots = c.bring.ensures.slots }) c.bring.ensures.front).front c.requires.size c.put_front.ensures.now (c.put_front.ensures.table ∙ c.bring.ensures.table)).pass

pub returns : goal.returns
returns c = let all = (sets_down c.args.pass.now c.pass.inside.seat.table_id c.put_front.new.seat.table_id c.pass.inside.held.items c.bring.new.held.items c.pass.inside.seat.me c.bring.new.seat.me c.put_front.new.seat.me c.args.place c.args.buf c.pass.view_is c.pass.invariant (record { order = c.bring.ensures.order; view = c.bring.ensures.view; counts = c.bring.ensures.times; slots = c.bring.ensures.slots }) (brought_nothing c.args.pass.now c.pass.inside.seat.table_id c.pass.inside.held.items c.bring.new.held.items c.pass.inside.seat.me c.bring.new.seat.me c.args.place c.pass.view_is c.requires.holds c.pass.invariant (record { order = c.bring.ensures.order; view = c.bring.ensures.view; counts = c.bring.ensures.times; slots = c.bring.ensures.slots }) c.bring.ensures.front).front c.requires.size c.put_front.ensures.now (c.put_front.ensures.table ∙ c.bring.ensures.table)) in record { stays = all.stays; hands = all.has }
