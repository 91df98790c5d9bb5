-- A packet that is noted in its slot.
use Rattle.std.proofs.Common.{◌≡◌, ℕ, Bool, true, false, List, get_or, refl, sym, subst, ◌∙◌}
use Rattle.std.specs.Prelude.{◌==◌, not, position, Option, Some, None, if◌then◌else◌}
use Rattle.std.specs.Vec.{with_item}
use Rattle.stream_packets.specs.Packets.{StreamPacket, head_of, is_notice}
use Rattle.block_image.specs.Kept.{fits}
use Rattle.acquisition_machine.specs.declared.need.Need.{Need}
use Rattle.acquisition_machine.specs.declared.need.Need.TheVariants.{Buffer, Done, Ignored}
use Rattle.acquisition_machine.specs.declared.need.Why.TheVariants.{Repeat, Misfit, Starved, Notice}
use Rattle.acquisition_machine.specs.Blocks.{Given, Open, is_new}
use Rattle.acquisition_machine.specs.Machine.{State, open_at}
use Rattle.acquisition_machine.specs.Sound.{RiseFrom, IsSound}
use Rattle.acquisition_machine.proofs.Order.{IsFound, Finds, find}
use Rattle.acq_core.specs.declared.slot.Slot.{Slot}
use Rattle.acq_core.specs.declared.window.Window.{Window}
use Rattle.acq_core.specs.Standing.{SlotStands, IsSlot, AreSlots, Acts, ActsForSome}
use Rattle.acq_core.specs.Hearing.{need_given, need_in, heard_as, heard_in}
use Rattle.acq_core.specs.Turning.{with_heard}
use Rattle.acq_core.proofs.Places.{IsAt, at_found}

found_block : (b low : ℕ) (os : List Open) (o : Open) → RiseFrom low os → open_at b os ≡ Some o → o.block ≡ b
found_block b low os o r is = let f : IsFound b os o = subst (λ x. Finds b os x) is (find b low os r) in f.of_block

-- where the block with this id stands
here : (m : Window) (s : State) (b at : ℕ) → Acts m s → IsSound m.config s → position (λ y. y.block == b) m.slots.items ≡ Some at → IsAt m.config.p b at m.slots.items s.opens
here m s b at acts sound is = at_found m.config.p b s.floor at m.slots.items s.opens acts.slots sound.rise is

pub slot_at : (m : Window) (b at : ℕ) (x : Slot) → ActsForSome m → position (λ y. y.block == b) m.slots.items ≡ Some at → x ≡ get_or m.slots.items at x → IsSlot m.config.p x
slot_at m b at x some is e =
    let a = here m some.state b at some.acts some.sound is in
    record { block = a.block; stands = subst (λ y. SlotStands m.config.p y a.block) (sym e) (a.slot x) }

pub slot_block : (m : Window) (b at : ℕ) (x : Slot) → ActsForSome m → position (λ y. y.block == b) m.slots.items ≡ Some at → x ≡ get_or m.slots.items at x → b ≡ x.block
slot_block m b at x some is e =
    let a = here m some.state b at some.acts some.sound is in
    let stands : SlotStands m.config.p x a.block = subst (λ y. SlotStands m.config.p y a.block) (sym e) (a.slot x) in
    sym (found_block b some.state.floor some.state.opens a.block some.sound.rise a.is) ∙ sym stands.block

-- the slot there stands for the open block
pub stands_at : (m : Window) (s : State) (b at : ℕ) (x : Slot) (o : Open) → Acts m s → IsSound m.config s → position (λ y. y.block == b) m.slots.items ≡ Some at → x ≡ get_or m.slots.items at x → open_at b s.opens ≡ Some o → SlotStands m.config.p x o
stands_at m s b at x o acts sound is e there =
    let a = here m s b at acts sound is in
    let same : a.block ≡ o = cc in
    subst (λ y. SlotStands m.config.p y o) (sym e) (subst (λ k. SlotStands m.config.p (get_or m.slots.items at x) k) same (a.slot x))

block-heard : (now : ℕ) (o : Open) (x : StreamPacket) (need : Need) → (heard_as now o x need).block ≡ o.block
block-heard now o x (Buffer b) = refl
block-heard now o x Done = refl
block-heard now o x (Ignored why) = refl

pub acts_noted : (m : Window) (s : State) (x : StreamPacket) (at : ℕ) (y : Slot) (o : Open) → Acts m s → IsSound m.config s → position (λ z. z.block == (head_of x).block) m.slots.items ≡ Some at → open_at (head_of x).block s.opens ≡ Some o
    → SlotStands m.config.p y (heard_in m.moment m.config.p o x)
    → Acts (record m { slots = with_item m.slots at y }) (with_heard m.config.p x o s)
acts_noted m s x at y o acts sound is found stands =
    let b : ℕ = (head_of x).block in
    let p : ℕ = m.config.p in
    let a = here m s b at acts sound is in
    let now : SlotStands p y (heard_in s.now p o x) = subst (λ n. SlotStands p y (heard_in n p o x)) acts.moment stands in
    let same : (heard_in s.now p o x).block ≡ b = block-heard s.now o x (need_in p o x) ∙ found_block b s.floor s.opens o sound.rise found in
    record {
      moment = acts.moment;
      floor = acts.floor;
      slots = a.swapped y (heard_in s.now p o x) now same;
      asked = acts.asked;
      counts = acts.counts;
      number = acts.number;
    }

-- there are slots still, and the answer wants no buffer
pub slots_noted : (m : Window) (x : StreamPacket) (at : ℕ) (z y : Slot) → ActsForSome m → position (λ k. k.block == (head_of x).block) m.slots.items ≡ Some at → z ≡ get_or m.slots.items at z
    → ((o : Open) → SlotStands m.config.p z o → SlotStands m.config.p y (heard_in m.moment m.config.p o x)) → AreSlots (record m { slots = with_item m.slots at y })
slots_noted m x at z y some is e f =
    let a = here m some.state (head_of x).block at some.acts some.sound is in
    let stands : SlotStands m.config.p z a.block = subst (λ k. SlotStands m.config.p k a.block) (sym e) (a.slot z) in
    let acts = acts_noted m some.state x at y a.block some.acts some.sound is a.is (f a.block stands) in
    ((with_heard m.config.p x a.block some.state).opens, acts.slots)

never_without : (p : ℕ) (x : StreamPacket) (b : ℕ) (v w : Bool) → (if v then Ignored Notice else if w then Ignored Misfit else Ignored Starved) ≡ Buffer b → ⊥
never_without p x b true w e = cc
never_without p x b false true e = cc
never_without p x b false false e = cc

never_with : (b : ℕ) (v w u : Bool) → (if v then Ignored Notice else if w then Ignored Misfit else if u then Done else Ignored Repeat) ≡ Buffer b → ⊥
never_with b true w u e = cc
never_with b false true u e = cc
never_with b false false true e = cc
never_with b false false false e = cc

never_given : (p : ℕ) (o : Open) (given : Option Given) (x : StreamPacket) (b : ℕ) → need_given p o given x ≡ Buffer b → ⊥
never_given p o None x b e = never_without p x b (is_notice x) (not (fits p x)) e
never_given p o (Some g) x b e = never_with b (is_notice x) (not (fits p x)) (is_new p o x) e

pub never_buffer : (m : Window) (x : StreamPacket) (at : ℕ) (z : Slot) (need : Need) (b : ℕ) → ActsForSome m → position (λ k. k.block == (head_of x).block) m.slots.items ≡ Some at → z ≡ get_or m.slots.items at z
    → ((o : Open) → SlotStands m.config.p z o → need ≡ need_in m.config.p o x) → need ≡ Buffer b → ⊥
never_buffer m x at z need b some is e f n =
    let a = here m some.state (head_of x).block at some.acts some.sound is in
    let stands : SlotStands m.config.p z a.block = subst (λ k. SlotStands m.config.p k a.block) (sym e) (a.slot z) in
    never_given m.config.p a.block a.block.given x b (sym (f a.block stands) ∙ n)
