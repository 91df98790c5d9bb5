-- What writes leave of the registers' invariant.
use Rattle.std.proofs.Common.{◌≡◌, ℕ, ◌*◌, ◌/◌, ◌<◌, ◌≤◌, Bool, true, false, List, [], length, Option, Some, None, refl, ap, sym, ◌∙◌, arith, subst, get_or-set_other, get_or-set_same}
use Rattle.std.specs.Prelude.{◌≢◌, ◌%◌, ◌^◌, ◌==◌, ◌&&◌, nat_le, nat_lt, if◌then◌else◌}
use Rattle.std.specs.Option.{option_or}
use Rattle.std.proofs.Math.ListN.{length-set}
use Rattle.std.proofs.lemmas.Bool.{eqb-true, eqb-false, leb-true}
use Rattle.gev_types.specs.declared.frame.Shape.{Shape}
use Rattle.gvcp_wire.specs.declared.status.Status.{Status}
use Rattle.gvcp_wire.specs.declared.status.Status.TheVariants.{InvalidParameter}
use Rattle.bootstrap_regs.specs.Addresses.{CCP, SCP0, SCPS0, WORDS, END}
use Rattle.bootstrap_regs.specs.Registers.{register_at, initial_at, is_packet_size, address_refusal, value_refusal}
use Rattle.bootstrap_regs.specs.Words.{word_at, with_word, released_words}
use Rattle.bootstrap_regs.specs.Changes.{Holds}
use Rattle.camera_machine.specs.Camera.{Job, CURRENT_ADDRESS}
use Rattle.camera_machine.proofs.Words.{is_word}
use Rattle.camera_sim.specs.declared.kept.Kept.{Kept as KeptSizes}
use Rattle.camera_sim.specs.Seen.{AreRegisters, IsCamera}

-- of two refusals, none is there where the first that is there isn't
pub first_none : (a b : Option Status) → option_or a b ≡ None → a ≡ None
first_none None b e = refl
first_none (Some x) b e = absurd (cc)

pub second_none : (a b : Option Status) → option_or a b ≡ None → b ≡ None
second_none None b e = e
second_none (Some x) b e = absurd (cc)

and_left : (a b : Bool) → (a && b) ≡ true → a ≡ true
and_left true b e = refl
and_left false b e = absurd (cc)

and_right : (a b : Bool) → (a && b) ≡ true → b ≡ true
and_right true b e = e
and_right false b e = absurd (cc)

allowed : (b : Bool) → (if b then None else Some InvalidParameter) ≡ None → b ≡ true
allowed true e = refl
allowed false e = absurd (cc)

-- ---- values

initial_packet_size : is_packet_size (initial_at SCPS0) ≡ true
unfolding register_at
initial_packet_size = refl

initial_port : initial_at SCP0 ≡ 0
unfolding register_at
initial_port = refl

packet_size_value : (value : ℕ) → value_refusal SCPS0 value ≡ None → is_packet_size value ≡ true
unfolding register_at
packet_size_value value e = allowed (is_packet_size value) e

port_value : (value : ℕ) → value_refusal SCP0 value ≡ None → value ≤ 65535
unfolding register_at
port_value value e = leb-true value 65535 (and_right (nat_le 0 value) (nat_le value 65535) (allowed (nat_le 0 value && nat_le value 65535) e))

-- the privilege takes no value above 2
pub privilege_value : (value : ℕ) → value_refusal CCP value ≡ None → value ≤ 2
unfolding register_at
privilege_value value e = leb-true value 2 (and_right (nat_le 0 value) (nat_le value 2) (allowed (nat_le 0 value && nat_le value 2) e))

-- the bounds of a packet's size
pub record SizeBounds (value : ℕ) : Type 0 where
  pub least : 576 ≤ value % 2 ^ 16
  pub most : value % 2 ^ 16 ≤ 9000

pub size_bounds : (value : ℕ) → is_packet_size value ≡ true → SizeBounds value
size_bounds value e =
    let small : Bool = nat_lt value (2 ^ 31) in
    let flags : Bool = value / 2 ^ 16 % 2 ^ 14 == 0 in
    let low : Bool = nat_le 576 (value % 2 ^ 16) in
    let high : Bool = nat_le (value % 2 ^ 16) 9000 in
    go small flags low high refl refl e
  where
    go : (small flags low high : Bool) → nat_le 576 (value % 2 ^ 16) ≡ low → nat_le (value % 2 ^ 16) 9000 ≡ high → (small && flags && low && high) ≡ true → SizeBounds value
    go true true true true p q e = record { least = leb-true 576 (value % 2 ^ 16) p; most = leb-true (value % 2 ^ 16) 9000 q }
    go true true true false p q e = absurd (cc)
    go true true false high p q e = absurd (cc)
    go true false low high p q e = absurd (cc)
    go false flags low high p q e = absurd (cc)

-- ---- words

-- a word that isn't written
pub other_word : (words : List ℕ) (address value at : ℕ) → address_refusal address ≡ None → at ≡ 4 * (at / 4) → address ≢ at
    → word_at (with_word words address value) at ≡ word_at words at
other_word words address value at e aligned differs =
    let whole : address ≡ 4 * (address / 4) = (is_word address e).0 in
    get_or-set_other words (address / 4) (at / 4) value 0 (λ k. differs (omega arith))

-- the word that is written
pub same_word : (words : List ℕ) (address value : ℕ) → address_refusal address ≡ None → length words ≡ WORDS
    → word_at (with_word words address value) address ≡ value
same_word words address value e size =
    let whole : (address ≡ 4 * (address / 4)) × (address < END) = is_word address e in
    get_or-set_same words (address / 4) value 0 (omega (arith, whole.0, whole.1, size))

-- new registers
pub first_registers : (words : List ℕ) → Holds words [] → AreRegisters words
first_registers words h =
    let port : word_at words SCP0 ≡ 0 = h.values 832 (omega arith) ∙ initial_port in
    record {
      size = h.size;
      port = omega (arith, port);
      packet_size = ap is_packet_size (h.values 833 (omega arith)) ∙ initial_packet_size;
    }

-- a write that isn't refused
pub written_registers : (words : List ℕ) (address value : ℕ) → address_refusal address ≡ None → value_refusal address value ≡ None → AreRegisters words
    → AreRegisters (with_word words address value)
written_registers words address value e v h = record {
  size = simp length-set h.size;
  port = port (address == SCP0) refl;
  packet_size = go (address == SCPS0) refl;
}
  where
    port : (b : Bool) → (address == SCP0) ≡ b → word_at (with_word words address value) SCP0 < 2 ^ 16
    port true p =
        let same : address ≡ SCP0 = eqb-true address SCP0 p in
        let at_value : word_at (with_word words address value) address ≡ value = same_word words address value e h.size in
        let here : word_at (with_word words address value) SCP0 ≡ value = subst (λ a. word_at (with_word words address value) a ≡ value) same at_value in
        omega (arith, here, port_value value (subst (λ a. value_refusal a value ≡ None) same v))
    port false p = omega (arith, other_word words address value SCP0 e refl (eqb-false address SCP0 p), h.port)

    go : (b : Bool) → (address == SCPS0) ≡ b → is_packet_size (word_at (with_word words address value) SCPS0) ≡ true
    go true p =
        let same : address ≡ SCPS0 = eqb-true address SCPS0 p in
        let at_value : word_at (with_word words address value) address ≡ value = same_word words address value e h.size in
        let here : word_at (with_word words address value) SCPS0 ≡ value = subst (λ a. word_at (with_word words address value) a ≡ value) same at_value in
        ap is_packet_size here ∙ packet_size_value value (subst (λ a. value_refusal a value ≡ None) same v)
    go false p = ap is_packet_size (other_word words address value SCPS0 e refl (eqb-false address SCPS0 p)) ∙ h.packet_size

free_values : (value_refusal CCP 0 ≡ None) × (value_refusal SCP0 0 ≡ None)
unfolding register_at
free_values = (refl, refl)

-- a release
pub released_registers : (words : List ℕ) → AreRegisters words → AreRegisters (released_words words)
released_registers words h =
    written_registers (with_word words CCP 0) SCP0 0 refl free_values.1 (written_registers words CCP 0 refl free_values.0 h)

-- ---- the camera's invariant

-- a word but the port is written
pub written_camera : (shape : Shape) (short : Bool) (words after : List ℕ) (waiting : List Job) (kept : Option KeptSizes) (command answer : List ℕ) (address value : ℕ)
    → after ≡ with_word words address value → address_refusal address ≡ None → value_refusal address value ≡ None → address ≢ SCP0
    → IsCamera shape short words waiting kept command answer → IsCamera shape short after waiting kept command answer
written_camera shape short words after waiting kept command answer address value is e v other h = record {
  image = h.image;
  lines = h.lines;
  registers = subst AreRegisters (sym is) (written_registers words address value e v h.registers);
  closed = λ z. h.closed (sym (other_word words address value SCP0 e refl other) ∙ sym (ap (λ (ws : List ℕ). word_at ws SCP0) is) ∙ z);
  keeps = h.keeps;
  command_size = h.command_size;
  answer_size = h.answer_size;
}

-- the camera's own address is written
pub standing_camera : (shape : Shape) (short : Bool) (words after : List ℕ) (waiting : List Job) (kept : Option KeptSizes) (command answer : List ℕ) (address : ℕ)
    → after ≡ with_word words CURRENT_ADDRESS address → IsCamera shape short words waiting kept command answer
    → IsCamera shape short after waiting kept command answer
standing_camera shape short words after waiting kept command answer address is h = record {
  image = h.image;
  lines = h.lines;
  registers = subst AreRegisters (sym is) registers;
  closed = λ z. h.closed (sym port ∙ sym (ap (λ (ws : List ℕ). word_at ws SCP0) is) ∙ z);
  keeps = h.keeps;
  command_size = h.command_size;
  answer_size = h.answer_size;
}
  where
    port : word_at (with_word words CURRENT_ADDRESS address) SCP0 ≡ word_at words SCP0
    port = other_word words CURRENT_ADDRESS address SCP0 refl refl (λ k. absurd (cc))

    registers : AreRegisters (with_word words CURRENT_ADDRESS address)
    registers = record {
      size = simp length-set h.registers.size;
      port = omega (arith, port, h.registers.port);
      packet_size = ap is_packet_size (other_word words CURRENT_ADDRESS address SCPS0 refl refl (λ k. absurd (cc))) ∙ h.registers.packet_size;
    }

-- the port is written, and what waits is dropped where it's 0
pub port_camera : (shape : Shape) (short : Bool) (words after : List ℕ) (waiting left : List Job) (kept : Option KeptSizes) (command answer : List ℕ) (value : ℕ)
    → after ≡ with_word words SCP0 value → value_refusal SCP0 value ≡ None → (value ≡ 0 → left ≡ [])
    → IsCamera shape short words waiting kept command answer → IsCamera shape short after left kept command answer
port_camera shape short words after waiting left kept command answer value is v gone h = record {
  image = h.image;
  lines = h.lines;
  registers = subst AreRegisters (sym is) (written_registers words SCP0 value refl v h.registers);
  closed = λ z. gone (sym (same_word words SCP0 value refl h.registers.size) ∙ sym (ap (λ (ws : List ℕ). word_at ws SCP0) is) ∙ z);
  keeps = h.keeps;
  command_size = h.command_size;
  answer_size = h.answer_size;
}
