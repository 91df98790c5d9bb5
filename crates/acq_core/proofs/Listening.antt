-- A datagram, from its bytes on.
use Rattle.std.proofs.Common.{◌≡◌, ℕ, List, true, false, refl, sym, ap, subst, ◌∙◌}
use Rattle.std.specs.Prelude.{◌==◌, nat_lt, position, Option, Some, None, Result, Ok}
use Rattle.stream_packets.specs.declared.fields.Head.{Head}
use Rattle.stream_packets.specs.Packets.{StreamPacket, head_of, is_notice}
use Rattle.block_image.specs.Kept.{fits}
use Rattle.gvsp_wire.specs.declared.wire_error.WireError.{WireError}
use Rattle.gvsp_wire.specs.Reading.{reading}
use Rattle.acquisition_machine.specs.declared.need.Need.{Need}
use Rattle.acquisition_machine.specs.declared.need.Need.TheVariants.{Done}
use Rattle.acquisition_machine.specs.declared.need.Why.{Why}
use Rattle.acquisition_machine.specs.declared.need.Why.TheVariants.{Late, Misfit, Notice}
use Rattle.acquisition_machine.specs.Blocks.{Open}
use Rattle.acquisition_machine.specs.Machine.{State, bound, shown, open_at, leaving, staying, unasked, ignored, wants, hears, hears_packet, datagram, step}
use Rattle.acquisition_machine.specs.Sound.{IsSound}
use Rattle.acq_core.specs.declared.slot.Slot.{Slot}
use Rattle.acq_core.specs.declared.window.Window.{Window}
use Rattle.acq_core.specs.Standing.{Acts, ActsForSome, floor_of}
use Rattle.acq_core.specs.Retiring.{ChangesSlots, RetiresAll}
use Rattle.acq_core.specs.Turning.{Answers, turn_of}
use Rattle.acq_core.proofs.Places.{at_found, found_none}
use Rattle.acq_core.proofs.Acting.{settles_gives}

pub listen_late : (m n : Window) (s : State) (x : StreamPacket) (h : Head) (why : Why) (r : Option ℕ) (answer : Need) → h ≡ head_of x → floor_of r ≡ bound m.config s → nat_lt h.block (floor_of r) ≡ true → ((b : ℕ) → floor_of r ≡ b → why ≡ Late (shown b)) → Answers m n answer (ignored why s) → Answers m n answer (hears m.config (Ok x) s)
listen_late m n s x h why r answer same e late f a =
    let l : nat_lt (head_of x).block (floor_of r) ≡ true = subst (λ (k : Head). nat_lt k.block (floor_of r) ≡ true) same late in
    let t : nat_lt (head_of x).block (bound m.config s) ≡ true = subst (λ b. nat_lt (head_of x).block b ≡ true) e l in
    rw t (subst (λ w. Answers m n answer (ignored w s)) (f (bound m.config s) e) a)

pub listen_on : (m n : Window) (s : State) (x : StreamPacket) (h : Head) (r : Option ℕ) (answer : Need) → h ≡ head_of x → floor_of r ≡ bound m.config s → nat_lt h.block (floor_of r) ≡ false → Answers m n answer (hears_packet m.config x (open_at (head_of x).block s.opens) s) → Answers m n answer (hears m.config (Ok x) s)
listen_on m n s x h r answer same e late a =
    let l : nat_lt (head_of x).block (floor_of r) ≡ false = subst (λ (k : Head). nat_lt k.block (floor_of r) ≡ false) same late in
    let t : nat_lt (head_of x).block (bound m.config s) ≡ false = subst (λ b. nat_lt (head_of x).block b ≡ false) e l in
    rw t a

-- where the search among the slots was for the packet's block
searched : (m : Window) (x : StreamPacket) (h : Head) (xs : List Slot) (r : Option ℕ) → h ≡ head_of x → xs ≡ m.slots.items → r ≡ position (λ k. k.block == h.block) xs → position (λ k. k.block == (head_of x).block) m.slots.items ≡ r
searched m x h xs r same items is =
    sym (is ∙ ap (λ (k : Head). position (λ (y : Slot). y.block == k.block) xs) same ∙ ap (λ l. position (λ (y : Slot). y.block == (head_of x).block) l) items)

-- no slot has the packet's block
pub not_open : (m n : Window) (s : State) (x : StreamPacket) (h : Head) (xs : List Slot) (answer : Need) → Acts m s → h ≡ head_of x → xs ≡ m.slots.items → None ≡ position (λ k. k.block == h.block) xs → Answers m n answer (hears_packet m.config x None s) → Answers m n answer (hears_packet m.config x (open_at (head_of x).block s.opens) s)
not_open m n s x h xs answer acts same items is a =
    subst (λ o. Answers m n answer (hears_packet m.config x o s))
    (sym (found_none m.config.p (head_of x).block m.slots.items s.opens acts.slots (searched m x h xs None same items is))) a

-- the slot at this place has it
pub is_open : (m n : Window) (s : State) (x : StreamPacket) (h : Head) (xs : List Slot) (at : ℕ) (answer : Need) → Acts m s → IsSound m.config s → h ≡ head_of x → xs ≡ m.slots.items → Some at ≡ position (λ k. k.block == h.block) xs
    → ((o : Open) → open_at (head_of x).block s.opens ≡ Some o → Answers m n answer (hears_packet m.config x (Some o) s))
    → Answers m n answer (hears_packet m.config x (open_at (head_of x).block s.opens) s)
is_open m n s x h xs at answer acts sound same items is f =
    let a = at_found m.config.p (head_of x).block s.floor at m.slots.items s.opens acts.slots sound.rise (searched m x h xs (Some at) same items is) in
    subst (λ o. Answers m n answer (hears_packet m.config x o s)) (sym a.is) (f a.block a.is)

-- a notice of a block that isn't open
pub new_notice : (m n : Window) (s : State) (x : StreamPacket) (answer : Need) → is_notice x ≡ true → Answers m n answer (ignored Notice s) → Answers m n answer (hears_packet m.config x None s)
new_notice m n s x answer is a = rw is a

-- a packet that doesn't fit
pub new_misfit : (m n : Window) (s : State) (x : StreamPacket) (answer : Need) → is_notice x ≡ false → fits m.config.p x ≡ false → Answers m n answer (ignored Misfit s) → Answers m n answer (hears_packet m.config x None s)
new_misfit m n s x answer none fit a = rw (none, fit) a

-- a packet that fits, of a block that isn't open
pub new_wants : (m n : Window) (s : State) (x : StreamPacket) (h : Head) (answer : Need) → is_notice x ≡ false → fits m.config.p x ≡ true → h ≡ head_of x → Answers m n answer (wants m.config h.block s) → Answers m n answer (hears_packet m.config x None s)
new_wants m n s x h answer none fit same a =
    let b : Answers m n answer (wants m.config (head_of x).block s) = subst (λ (k : Head). Answers m n answer (wants m.config k.block s)) same a in
    rw (none, fit) b

-- the answer to a packet that was noted
pub answer_done : (m n : Window) (s : State) (need : Need) → need ≡ Done → Acts m s → RetiresAll m n (leaving m.config m.moment s.opens) (staying m.config m.moment s.opens) → ChangesSlots m n → Answers m n need (turn_of m.config need s)
answer_done m n s need is acts r ch =
    let a : Answers m n Done (turn_of m.config Done s) = record { gives = settles_gives m n s (Some Done) acts r ch; need = refl } in
    subst (λ k. Answers m n k (turn_of m.config k s)) (sym is) a

-- ---- nothing is asked for any more

pub acts_unasked : (m : Window) (s : State) → Acts m s → Acts (record m { asked = None }) (unasked s)
acts_unasked m s acts = record {
  moment = acts.moment;
  floor = acts.floor;
  slots = acts.slots;
  asked = refl;
  counts = acts.counts;
  number = acts.number;
}

pub sound_unasked : (m : Window) (s : State) → IsSound m.config s → IsSound m.config (unasked s)
sound_unasked m s sound = record {
  from_one = sound.from_one;
  rise = sound.rise;
  room = sound.room;
  claim = λ b e. absurd cc;
  number = sound.number;
}

pub some_unasked : (m : Window) → ActsForSome m → ActsForSome (record m { asked = None })
some_unasked m some = record {
  state = unasked some.state;
  acts = acts_unasked m some.state some.acts;
  sound = sound_unasked m some.state some.sound;
}

pub hears_read : (m n : Window) (s : State) (bytes : List ℕ) (r : Result StreamPacket WireError) (answer : Need) → r ≡ reading bytes → Answers (record m { asked = None }) n answer (hears m.config r (unasked s)) → Answers m n answer (step m.config s (datagram bytes))
hears_read m n s bytes r answer is a =
    let t : Answers (record m { asked = None }) n answer (hears m.config (reading bytes) (unasked s)) =
    subst (λ k. Answers (record m { asked = None }) n answer (hears m.config k (unasked s))) is a in
    record {
      gives = record { acts = t.gives.acts; fills = t.gives.fills; ends = t.gives.ends; requests = t.gives.requests; config = t.gives.config; telling = t.gives.telling };
      need = t.need;
    }
