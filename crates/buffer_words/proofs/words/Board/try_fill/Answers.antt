use Rattle.std.proofs.Common.{refl, ◌∙◌}
use Rattle.buffer_words.proofs.Turns.{slot_some}
use Rattle.buffer_words.proofs.Carried.{carries_single}
use Rattle.buffer_words.proofs.Handling.{whole_some, below_of, turned_pass, brought_buffer}
use Rattle.buffer_words.proofs.Claimed.{try_lost, try_lost_pass}
use Rattle.buffer_words.proofs.Filled.{still_holds, room_for, fill_done, filled_gave, did_fill, refused_pass, refused_fill, turned_lost}
use Rattle.buffer_words.proofs.words.Board.try_fill.Goals as goal

pub bring-requires-clause-single : goal.bring-requires-clause-single
bring-requires-clause-single c = carries_single _ _ _ c.pass.invariant.carries

pub bring-requires-clause-has : goal.bring-requires-clause-has
bring-requires-clause-has c = slot_some c.args.place c.pass.inside.seat.me.1 (whole_some c.args.pass.now c.pass.inside.seat.table_id c.pass.inside.seat.me c.args.place c.pass.view_is c.requires.holds)

pub see_mark-number-requires-clause-holds : goal.see_mark-number-requires-clause-holds
see_mark-number-requires-clause-holds c = (brought_buffer c.args.pass.now c.pass.inside.seat.table_id c.pass.inside.held.items c.bring.new.held.items c.pass.inside.seat.me c.bring.new.seat.me c.args.place c.pass.view_is c.requires.holds c.pass.invariant
    (record { order = c.bring.ensures.order; view = c.bring.ensures.view; counts = c.bring.ensures.times; slots = c.bring.ensures.slots }) c.bring.ensures.front)

pub invariant_of-pass : goal.invariant_of-pass
invariant_of-pass c = refused_pass c.pass.inside.held.items c.bring.new.held.items c.pass.inside.seat.me _ _ _ c.pass.invariant
    (record { order = c.bring.ensures.order; view = c.bring.ensures.view; counts = c.bring.ensures.times; slots = c.bring.ensures.slots }) (c.see_mark-number.ensures.closed c.if-is_marked.ensures.mark)

pub returns-then-is_marked-clause-did : goal.returns-then-is_marked-clause-did
returns-then-is_marked-clause-did c =
    refused_fill c.args.pass.now c.pass.inside.seat.table_id c.see_mark-number.new.seat.table_id c.pass.inside.held.items c.bring.new.held.items c.pass.inside.seat.me c.bring.new.seat.me c.see_mark-number.new.seat.me _ c.pass.view_is c.pass.invariant
    (record { order = c.bring.ensures.order; view = c.bring.ensures.view; counts = c.bring.ensures.times; slots = c.bring.ensures.slots }) (c.see_mark-number.ensures.closed c.if-is_marked.ensures.mark) (c.see_mark-number.ensures.table ∙ c.bring.ensures.table)

pub put_last-found-requires-clause-in_range : goal.put_last-found-requires-clause-in_range
put_last-found-requires-clause-in_range c = below_of _ c.pass.inside.seat.me c.args.place c.pass.invariant (whole_some c.args.pass.now c.pass.inside.seat.table_id c.pass.inside.seat.me c.args.place c.pass.view_is c.requires.holds)

pub put_last-found-requires-clause-holds : goal.put_last-found-requires-clause-holds
put_last-found-requires-clause-holds c = still_holds _ _ _ (c.see_mark-number.ensures.open c.if-is_marked.ensures.mark).waited (c.see_mark-number.ensures.open c.if-is_marked.ensures.mark).slots (brought_buffer c.args.pass.now c.pass.inside.seat.table_id c.pass.inside.held.items c.bring.new.held.items c.pass.inside.seat.me c.bring.new.seat.me c.args.place c.pass.view_is c.requires.holds c.pass.invariant
    (record { order = c.bring.ensures.order; view = c.bring.ensures.view; counts = c.bring.ensures.times; slots = c.bring.ensures.slots }) c.bring.ensures.front)

pub put_last-found-requires-clause-room : goal.put_last-found-requires-clause-room
put_last-found-requires-clause-room c = room_for _ _ _ c.args.place (c.see_mark-number.ensures.open c.if-is_marked.ensures.mark) c.if-is_marked.ensures.mark (brought_buffer c.args.pass.now c.pass.inside.seat.table_id c.pass.inside.held.items c.bring.new.held.items c.pass.inside.seat.me c.bring.new.seat.me c.args.place c.pass.view_is c.requires.holds c.pass.invariant
    (record { order = c.bring.ensures.order; view = c.bring.ensures.view; counts = c.bring.ensures.times; slots = c.bring.ensures.slots }) c.bring.ensures.front).in_hand

pub invariant_of-pass-then-found-number : goal.invariant_of-pass-then-found-number
invariant_of-pass-then-found-number c =
    try_lost_pass _ _ _ _ _ _ _ (turned_pass c.pass.inside.held.items c.bring.new.held.items c.pass.inside.seat.me c.bring.new.seat.me c.pass.invariant
    (record { order = c.bring.ensures.order; view = c.bring.ensures.view; counts = c.bring.ensures.times; slots = c.bring.ensures.slots })) (c.see_mark-number.ensures.open c.if-is_marked.ensures.mark) (c.put_last-found.ensures.lost c.if-found-number.true)

pub returns-then-found-number-clause-lost : goal.returns-then-found-number-clause-lost
returns-then-found-number-clause-lost c =
    turned_lost _ c.args.pass.now _ c.pass.inside.seat.table_id c.bring.new.seat.table_id c.pass.inside.seat.me c.bring.new.seat.me c.bring.new.held.items _ _ c.pass.view_is
    (record { order = c.bring.ensures.order; view = c.bring.ensures.view; counts = c.bring.ensures.times; slots = c.bring.ensures.slots }) c.bring.ensures.table
    (try_lost _ _ c.bring.new.seat.table_id c.put_last-found.new.seat.table_id c.bring.new.held.items c.bring.new.seat.me c.see_mark-number.new.seat.me c.put_last-found.new.seat.me _ _ refl (turned_pass c.pass.inside.held.items c.bring.new.held.items c.pass.inside.seat.me c.bring.new.seat.me c.pass.invariant
    (record { order = c.bring.ensures.order; view = c.bring.ensures.view; counts = c.bring.ensures.times; slots = c.bring.ensures.slots })) (c.put_last-found.ensures.table ∙ c.see_mark-number.ensures.table)
    (c.see_mark-number.ensures.open c.if-is_marked.ensures.mark) (c.put_last-found.ensures.lost c.if-found-number.true) c.if-found-number.true)

pub invariant_of-pass-2 : goal.invariant_of-pass-2
invariant_of-pass-2 c = (filled_gave c.args.pass.now c.pass.inside.seat.table_id c.put_last-found.new.seat.table_id c.pass.inside.held.items c.bring.new.held.items c.remove.new.self.items c.pass.inside.seat.me c.bring.new.seat.me c.put_last-found.new.seat.me c.args.place c.pass.view_is c.pass.invariant
    (record { order = c.bring.ensures.order; view = c.bring.ensures.view; counts = c.bring.ensures.times; slots = c.bring.ensures.slots }) (fill_done _ _ _ _ _ (c.see_mark-number.ensures.open c.if-is_marked.ensures.mark) (c.put_last-found.ensures.done c.if-found-number.false)) c.remove.ensures.items).pass

pub returns-clause-did : goal.returns-clause-did
returns-clause-did c = did_fill c.args.pass.now c.pass.inside.seat.table_id c.put_last-found.new.seat.table_id c.pass.inside.held.items c.bring.new.held.items c.remove.new.self.items c.pass.inside.seat.me c.bring.new.seat.me c.put_last-found.new.seat.me c.args.place c.pass.view_is c.pass.invariant
    (record { order = c.bring.ensures.order; view = c.bring.ensures.view; counts = c.bring.ensures.times; slots = c.bring.ensures.slots }) (fill_done _ _ _ _ _ (c.see_mark-number.ensures.open c.if-is_marked.ensures.mark) (c.put_last-found.ensures.done c.if-found-number.false)) c.remove.ensures.items (c.put_last-found.ensures.table ∙ (c.see_mark-number.ensures.table ∙ c.bring.ensures.table))
