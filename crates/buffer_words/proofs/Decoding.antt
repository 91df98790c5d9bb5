-- A place's word and its number.
use Rattle.std.proofs.Common.{◌≡◌, ℕ, ◌+◌, ◌*◌, ◌/◌, ◌%◌, ◌<◌, refl, ap, ◌∙◌, arith}
use Rattle.gentl_types.specs.declared.word.Word.{Word}
use Rattle.gentl_types.specs.declared.word.State.{State}
use Rattle.gentl_types.specs.declared.word.State.TheVariants.{Vacant, Held, Away}
use Rattle.board_machine.specs.Machine.{with_state}
use Rattle.board_machine.specs.Owners.{IsWord}
use Rattle.buffer_words.specs.Codes.{state_code, code, state_of, decode}

pub same_word : (v w : Word) → v.state ≡ w.state → v.size ≡ w.size → v.generation ≡ w.generation → v ≡ w
same_word v w state size generation =
    ap (λ s. record v { state = s }) state
    ∙ (ap (λ n. record v { state = w.state; size = n }) size ∙ ap (λ n. record v { state = w.state; size = w.size; generation = n }) generation)

state_small : (s : State) → state_code s < 4
state_small Vacant = omega arith
state_small Held = omega arith
state_small Away = omega arith

state_back : (s : State) → state_of (state_code s) ≡ s
state_back Vacant = refl
state_back Held = refl
state_back Away = refl

low_bits : (s z g : ℕ) → s < 4 → (s + 4 * z + 536870912 * g) % 4 ≡ s
low_bits s z g small = omega arith

size_bits : (s z g : ℕ) → s < 4 → z < 134217728 → (s + 4 * z + 536870912 * g) / 4 % 134217728 ≡ z
size_bits s z g small size = omega arith

generation_bits : (s z g : ℕ) → s < 4 → z < 134217728 → g < 4294967296 → (s + 4 * z + 536870912 * g) / 536870912 % 4294967296 ≡ g
generation_bits s z g small size last = omega arith

pub decode_code : (w : Word) → IsWord w → decode (code w) ≡ w
decode_code w is = same_word (decode (code w)) w
    (ap state_of (low_bits (state_code w.state) w.size w.generation (state_small w.state)) ∙ state_back w.state)
    (size_bits (state_code w.state) w.size w.generation (state_small w.state) (omega (arith, is.size)))
    (generation_bits (state_code w.state) w.size w.generation (state_small w.state) (omega (arith, is.size)) (omega (arith, is.generation)))

pub decoded : (n : ℕ) (w : Word) → IsWord w → n ≡ code w → decode n ≡ w
decoded n w is e = ap decode e ∙ decode_code w is

-- a grab adds 1, a lay takes 1 away, a vacate 2
pub grabbed_code : (w : Word) → w.state ≡ Held → code (with_state w Away) ≡ code w + 1
grabbed_code w held = let s : state_code w.state ≡ 1 = ap state_code held in omega arith

pub laid_code : (w : Word) → w.state ≡ Away → code (with_state w Held) + 1 ≡ code w
laid_code w away = let s : state_code w.state ≡ 2 = ap state_code away in omega arith

pub vacated_code : (w : Word) → w.state ≡ Away → code (with_state w Vacant) + 2 ≡ code w
vacated_code w away = let s : state_code w.state ≡ 2 = ap state_code away in omega arith
