-- The interface with this number divides a second, and the packet is of it.
use Rattle.std.proofs.Common.{◌≡◌, ℕ, ◌+◌, ◌≤◌, List, length, Option, Some, refl, sym, ap, ◌∙◌, subst, arith}
use Rattle.std.specs.Prelude.{slice_get}
use Rattle.std.proofs.lemmas.Option.{slice_get_read}
use Rattle.gev_capture.specs.declared.order.Order.{Order}
use Rattle.gev_capture.specs.declared.form.SectionInterface.{SectionInterface}
use Rattle.gev_capture.specs.declared.form.Form.TheVariants as form
use Rattle.gev_capture.specs.declared.step.Change.TheVariants.{Same}
use Rattle.gev_capture.specs.declared.step.Entry.TheVariants as entry
use Rattle.gev_capture.specs.declared.step.Found.{Found}
use Rattle.gev_capture.specs.declared.step.Step.TheVariants.{Record}
use Rattle.gev_capture.specs.Files.{block_time, on_interface}
use Rattle.gev_capture.specs.Steps.{told_by, IsFound}
use Rattle.gev_capture.proofs.blocks.on_interface.Goals as goal

abbrev packet_of : Order → SectionInterface → ℕ → ℕ → List ℕ → Found
packet_of order interface total count bytes = record {
  size = total;
  form = form.Section order (block_time order interface.parts bytes);
  change = Same;
  packet = Some (entry.Packet (record { time = block_time order interface.parts bytes; link = interface.link; at = 28; count = count }));
}

told_so : (order : Order) (interfaces : List SectionInterface) (total i count : ℕ) (interface : SectionInterface) (bytes : List ℕ) (found : Found)
    → slice_get interfaces i ≡ Some interface → found ≡ packet_of order interface total count bytes
    → told_by interfaces bytes (Record found) ≡ on_interface order interfaces total count (slice_get interfaces i) bytes
told_so order interfaces total i count interface bytes found there is =
    ap (λ (f : Found). told_by interfaces bytes (Record f)) is ∙ sym (ap (λ (o : Option SectionInterface). on_interface order interfaces total count o bytes) there)

sound_so : (order : Order) (interfaces : List SectionInterface) (total count : ℕ) (interface : SectionInterface) (bytes : List ℕ) (found : Found)
    → found ≡ packet_of order interface total count bytes → 32 + count ≤ total → total ≤ length bytes → IsFound interfaces bytes found
sound_so order interfaces total count interface bytes found is fits within =
    subst (IsFound interfaces bytes) (sym is) (record { some = omega arith; within = within; form = tt; change = tt; packet = omega arith })

pub interface_packet-requires-clause-parts : goal.interface_packet-requires-clause-parts
interface_packet-requires-clause-parts c =
    let there = c.in-Some.ensures.lookup.3 in
    c.requires.parts c.args.i c.in-Some.interface.now (slice_get_read c.args.interfaces.now _ c.args.i c.in-Some.interface.now refl there.0 (there.1 _))

pub returns-in-Some-clause-told : goal.returns-in-Some-clause-told
returns-in-Some-clause-told c =
    let there = c.in-Some.ensures.lookup.3 in
    told_so c.args.order c.args.interfaces.now c.args.total c.args.i c.args.count c.in-Some.interface.now c.args.bytes.now c.interface_packet.result
    (slice_get_read c.args.interfaces.now _ c.args.i c.in-Some.interface.now refl there.0 (there.1 _)) c.interface_packet.ensures

pub returns-in-Some-clause-sound : goal.returns-in-Some-clause-sound
returns-in-Some-clause-sound c =
    sound_so c.args.order c.args.interfaces.now c.args.total c.args.count c.in-Some.interface.now c.args.bytes.now c.interface_packet.result c.interface_packet.ensures
    c.requires.fits c.requires.within
