use Rattle.std.proofs.Common.{refl}
use Rattle.buffer_words.proofs.Turns.{slot_some}
use Rattle.buffer_words.proofs.Carried.{carries_single}
use Rattle.buffer_words.proofs.Handling.{lifted_some, below_of, brought_nothing, gave}
use Rattle.buffer_words.proofs.words.Board.vacate_lifted.Goals as goal

pub bring-requires-clause-single : goal.bring-requires-clause-single
bring-requires-clause-single c = carries_single _ _ _ c.pass.invariant.carries

pub bring-requires-clause-has : goal.bring-requires-clause-has
bring-requires-clause-has c = slot_some c.args.place c.pass.inside.seat.me.1 (lifted_some c.args.pass.now c.pass.inside.seat.table_id c.pass.inside.seat.me c.args.place c.pass.view_is c.requires.holds)

pub vacate_front-requires-clause-in_range : goal.vacate_front-requires-clause-in_range
vacate_front-requires-clause-in_range c = below_of _ c.pass.inside.seat.me c.args.place c.pass.invariant (lifted_some c.args.pass.now c.pass.inside.seat.table_id c.pass.inside.seat.me c.args.place c.pass.view_is c.requires.holds)

pub vacate_front-requires-clause-holds : goal.vacate_front-requires-clause-holds
vacate_front-requires-clause-holds c = brought_nothing c.args.pass.now c.pass.inside.seat.table_id c.pass.inside.held.items c.bring.new.held.items c.pass.inside.seat.me c.bring.new.seat.me c.args.place c.pass.view_is c.requires.holds c.pass.invariant
    (record { order = c.bring.ensures.order; view = c.bring.ensures.view; counts = c.bring.ensures.times; slots = c.bring.ensures.slots }) c.bring.ensures.front

pub invariant_of-pass : goal.invariant_of-pass
invariant_of-pass c = (gave c.args.pass.now c.pass.inside.seat.table_id c.vacate_front.new.seat.table_id c.pass.inside.held.items c.bring.new.held.items c.remove.new.self.items c.pass.inside.seat.me c.bring.new.seat.me c.vacate_front.new.seat.me _ c.args.place c.pass.view_is c.pass.invariant
    (record { order = c.bring.ensures.order; view = c.bring.ensures.view; counts = c.bring.ensures.times; slots = c.bring.ensures.slots }) c.bring.ensures.front c.vacate_front.ensures.vacates (λ b. refl) c.remove.ensures.items).pass

pub returns-clause-hands : goal.returns-clause-hands
returns-clause-hands c = (gave c.args.pass.now c.pass.inside.seat.table_id c.vacate_front.new.seat.table_id c.pass.inside.held.items c.bring.new.held.items c.remove.new.self.items c.pass.inside.seat.me c.bring.new.seat.me c.vacate_front.new.seat.me _ c.args.place c.pass.view_is c.pass.invariant
    (record { order = c.bring.ensures.order; view = c.bring.ensures.view; counts = c.bring.ensures.times; slots = c.bring.ensures.slots }) c.bring.ensures.front c.vacate_front.ensures.vacates (λ b. refl) c.remove.ensures.items).has
