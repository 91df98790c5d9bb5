use Rattle.stream_packets.specs.Packets.{head_of}
use Rattle.gvsp_wire.specs.View.{view}
use Rattle.acq_core.proofs.Noting.{slot_at, slot_block, stands_at, acts_noted, slots_noted, never_buffer}
use Rattle.acq_core.proofs.hearing.tell_at.Goals as goal

pub tell_slot-requires-clause-stands : goal.tell_slot-requires-clause-stands
tell_slot-requires-clause-stands c =
    slot_at c.args.window.now (head_of (view c.args.packet.now)).block c.args.at c.index_mut.result.now c.requires.acts c.requires.found c.index_mut.ensures.value

pub tell_slot-requires-clause-of_block : goal.tell_slot-requires-clause-of_block
tell_slot-requires-clause-of_block c =
    slot_block c.args.window.now (head_of (view c.args.packet.now)).block c.args.at c.index_mut.result.now c.requires.acts c.requires.found c.index_mut.ensures.value

pub returns-clause-need : goal.returns-clause-need
returns-clause-need c s o acts sound found =
    c.tell_slot.ensures.need o
    (stands_at c.args.window.now s (head_of (view c.args.packet.now)).block c.args.at c.index_mut.result.now o acts sound c.requires.found c.index_mut.ensures.value found)

pub returns-clause-acts : goal.returns-clause-acts
returns-clause-acts c s o acts sound found =
    acts_noted c.args.window.now s (view c.args.packet.now) c.args.at c.tell_slot.new.slot o acts sound c.requires.found found
    (c.tell_slot.ensures.stands o
    (stands_at c.args.window.now s (head_of (view c.args.packet.now)).block c.args.at c.index_mut.result.now o acts sound c.requires.found c.index_mut.ensures.value found))

pub returns-clause-no_buffer : goal.returns-clause-no_buffer
returns-clause-no_buffer c b e =
    never_buffer c.args.window.now (view c.args.packet.now) c.args.at c.index_mut.result.now c.tell_slot.result b c.requires.acts c.requires.found c.index_mut.ensures.value c.tell_slot.ensures.need e

pub returns-clause-slots : goal.returns-clause-slots
returns-clause-slots c =
    slots_noted c.args.window.now (view c.args.packet.now) c.args.at c.index_mut.result.now c.tell_slot.new.slot c.requires.acts c.requires.found c.index_mut.ensures.value c.tell_slot.ensures.stands
