-- The bits of words as a list of truth values.
use Rattle.std.proofs.Common.{◌≡◌, ◌≢◌, ◌⊎◌, inl, inr, ℕ, zero, suc, ◌+◌, ◌*◌, ◌/◌, ◌%◌, ◌^◌, ◌<◌, ◌≤◌, List, [], ◌∷◌, ◌++◌, length, get_or, set, replicate, bit_or, Bool, true, false, refl, sym, ◌∙◌, ap, arith}
use Rattle.std.specs.Prelude.{◌==◌}
use Rattle.std.specs.Int.{bit_at, w64}
use Rattle.std.proofs.Math.ListN.{get_or-append}
use Rattle.std.proofs.Math.Seq.{get_or-append_seam}
use Rattle.std.proofs.lemmas.List.{length-append, length-set, length-replicate, get_or-set_same, get_or-set_other, get_or-replicate, same_lists}
use Rattle.std.proofs.Math.ListN.{get_or-eq_default}
use Rattle.std.proofs.lemmas.Grind.{get_or_default_zero}
use Rattle.std.proofs.lemmas.Nat.Bits.{bit_at_set_same, bit_at_set_other, bit_at-zero}
use Rattle.std.proofs.lemmas.Bool.{cases_lt, cases_eq}
use Rattle.packet_bitmap.specs.Bits.{has, is_set, bits_of, AreBits}

pub length-bits_of : (words : List ℕ) (n : ℕ) → length (bits_of words n) ≡ n
unfolding bits_of
length-bits_of words zero = refl
length-bits_of words (suc n) = omega (arith, length-append (bits_of words n) (is_set words n ∷ []), length-bits_of words n)

-- the truth value of an id is its bit
pub get_or-bits_of : (words : List ℕ) (n k : ℕ) (d : Bool) → k < n → get_or (bits_of words n) k d ≡ is_set words k
unfolding bits_of
get_or-bits_of words zero k d inside = absurd (omega arith)
get_or-bits_of words (suc n) k d inside = go (cases_eq k n) (λ within. get_or-bits_of words n k d within) where
  go : (k ≡ n) ⊎ (k ≡ n → ⊥) → (k < n → get_or (bits_of words n) k d ≡ is_set words k) → get_or (bits_of words n ++ is_set words n ∷ []) k d ≡ is_set words k
  go (inl same) before =
      let at : k ≡ length (bits_of words n) = same ∙ sym (length-bits_of words n) in
      ap (λ (i : ℕ). get_or (bits_of words n ++ is_set words n ∷ []) i d) at
      ∙ get_or-append_seam (bits_of words n) (is_set words n) [] d
      ∙ ap (is_set words) (sym same)
  go (inr other) before =
      let within : k < length (bits_of words n) = omega (arith, length-bits_of words n, other) in
      get_or-append (bits_of words n) (is_set words n ∷ []) d k within ∙ before (omega (arith, other))

-- the truth value of an id, in range or not
pub has_is : (words : List ℕ) (ids : ℕ) (bits : List Bool) → AreBits words ids → bits_of words ids ≡ bits → (k : ℕ) → has bits k ≡ is_set words k
has_is words ids bits h seen k = go (cases_lt k ids) where
  go : (k < ids) ⊎ (ids ≤ k) → has bits k ≡ is_set words k
  go (inl inside) = ap (λ (bs : List Bool). has bs k) (sym seen) ∙ get_or-bits_of words ids k false inside
  go (inr past) =
      let beyond : length (bits_of words ids) ≤ k = omega (arith, length-bits_of words ids) in
      ap (λ (bs : List Bool). has bs k) (sym seen) ∙ get_or-eq_default (bits_of words ids) false beyond ∙ sym (h.clear k past)

pub length_is : (words : List ℕ) (ids : ℕ) (bits : List Bool) → bits_of words ids ≡ bits → length bits ≡ ids
length_is words ids bits seen = ap length (sym seen) ∙ length-bits_of words ids

-- the words with one more bit
abbrev pub with_bit : List ℕ → ℕ → List ℕ
with_bit words id = set words (id / 64) (bit_or (get_or words (id / 64) 0) (1 * 2 ^ (id % 64) % 2 ^ 64))

same_place : (k id : ℕ) → k / 64 ≡ id / 64 → k % 64 ≡ id % 64 → k ≡ id
same_place k id quotient rest = omega arith

pub is_set-with_bit_same : (words : List ℕ) (id : ℕ) → id / 64 < length words → is_set (with_bit words id) id ≡ true
is_set-with_bit_same words id inside =
    let inside_word : id % 64 < 64 = omega arith in
    let bit : bit_at (get_or (with_bit words id) (id / 64) 0) (id % 64) ≡ 1 =
    ap (λ (w : ℕ). bit_at w (id % 64)) (get_or-set_same words (id / 64) (bit_or (get_or words (id / 64) 0) (1 * 2 ^ (id % 64) % 2 ^ 64)) 0 inside)
    ∙ bit_at_set_same w64 (get_or words (id / 64) 0) (id % 64) inside_word in
    rw bit refl

pub is_set-with_bit_other : (words : List ℕ) (id k : ℕ) → id / 64 < length words → k ≢ id → is_set (with_bit words id) k ≡ is_set words k
is_set-with_bit_other words id k inside other = go (cases_eq (k / 64) (id / 64)) where
  one : ℕ
  one = bit_or (get_or words (id / 64) 0) (1 * 2 ^ (id % 64) % 2 ^ 64)

  go : (k / 64 ≡ id / 64) ⊎ (k / 64 ≡ id / 64 → ⊥) → is_set (with_bit words id) k ≡ is_set words k
  go (inr apart) = ap (λ (w : ℕ). bit_at w (k % 64) == 1) (get_or-set_other words (id / 64) (k / 64) (bit_or (get_or words (id / 64) 0) (1 * 2 ^ (id % 64) % 2 ^ 64)) 0 apart)
  go (inl same) =
      let inside_word : id % 64 < 64 = omega arith in
      let elsewhere : k % 64 ≢ id % 64 = λ rest. other (same_place k id same rest) in
      let word : get_or (with_bit words id) (k / 64) 0 ≡ bit_or (get_or words (id / 64) 0) (1 * 2 ^ (id % 64) % 2 ^ 64) =
      ap (λ (i : ℕ). get_or (with_bit words id) i 0) same ∙ get_or-set_same words (id / 64) (bit_or (get_or words (id / 64) 0) (1 * 2 ^ (id % 64) % 2 ^ 64)) 0 inside in
      ap (λ (w : ℕ). bit_at w (k % 64) == 1) word
      ∙ ap (λ (b : ℕ). b == 1) (bit_at_set_other w64 (get_or words (id / 64) 0) (id % 64) inside_word (k % 64) elsewhere)
      ∙ ap (λ (i : ℕ). bit_at (get_or words i 0) (k % 64) == 1) (sym same)

-- one more bit is one more truth value
pub bits_of-with_bit : (words : List ℕ) (ids id : ℕ) → id / 64 < length words → id < ids → bits_of (with_bit words id) ids ≡ set (bits_of words ids) id true
bits_of-with_bit words ids id inside within =
    same_lists (bits_of (with_bit words id) ids) (set (bits_of words ids) id true)
    (length-bits_of (with_bit words id) ids ∙ sym (length-set (bits_of words ids) id true ∙ length-bits_of words ids))
    (λ k d low. at k d (omega (arith, length-bits_of (with_bit words id) ids, low)) (cases_eq k id))
  where
    room : id < length (bits_of words ids)
    room = omega (arith, length-bits_of words ids)

    at : (k : ℕ) (d : Bool) → k < ids → (k ≡ id) ⊎ (k ≡ id → ⊥) → get_or (bits_of (with_bit words id) ids) k d ≡ get_or (set (bits_of words ids) id true) k d
    at k d low (inl same) =
        get_or-bits_of (with_bit words id) ids k d low ∙ ap (is_set (with_bit words id)) same ∙ is_set-with_bit_same words id inside
        ∙ sym (ap (λ (i : ℕ). get_or (set (bits_of words ids) id true) i d) same ∙ get_or-set_same (bits_of words ids) id true d room)
    at k d low (inr other) =
        get_or-bits_of (with_bit words id) ids k d low ∙ is_set-with_bit_other words id k inside other
        ∙ sym (get_or-set_other (bits_of words ids) id k true d other ∙ get_or-bits_of words ids k d low)

pub are_bits-with_bit : (words : List ℕ) (ids id : ℕ) → AreBits words ids → id < ids → AreBits (with_bit words id) ids
are_bits-with_bit words ids id h within = record {
  few = h.few;
  count = length-set words (id / 64) (bit_or (get_or words (id / 64) 0) (1 * 2 ^ (id % 64) % 2 ^ 64)) ∙ h.count;
  clear = λ k past. is_set-with_bit_other words id k (omega (arith, h.count)) (λ same. omega arith) ∙ h.clear k past;
}

-- a word without a bit
abbrev pub nothing : ℕ
nothing = 0

-- no bit is set in words of zeros
pub is_set-zeros : (count k : ℕ) → is_set (replicate count nothing) k ≡ false
is_set-zeros count k = go (cases_lt (k / 64) count) where
  at : get_or (replicate count nothing) (k / 64) 0 ≡ 0 → is_set (replicate count nothing) k ≡ false
  at e = ap (λ (w : ℕ). bit_at w (k % 64) == 1) e ∙ ap (λ (b : ℕ). b == 1) (bit_at-zero (k % 64))

  go : (k / 64 < count) ⊎ (count ≤ k / 64) → is_set (replicate count nothing) k ≡ false
  go (inl inside) = at (get_or-replicate count (k / 64) nothing 0 inside)
  go (inr past) =
      let beyond : length (replicate count nothing) ≤ k / 64 = omega (arith, length-replicate count nothing) in
      at (get_or-eq_default (replicate count nothing) 0 beyond)

pub bits_of-zeros : (count n : ℕ) → bits_of (replicate count nothing) n ≡ replicate n false
bits_of-zeros count n =
    same_lists (bits_of (replicate count nothing) n) (replicate n false)
    (length-bits_of (replicate count nothing) n ∙ sym (length-replicate n false))
    (λ k d low. at k d (omega (arith, length-bits_of (replicate count nothing) n, low)))
  where
    at : (k : ℕ) (d : Bool) → k < n → get_or (bits_of (replicate count nothing) n) k d ≡ get_or (replicate n false) k d
    at k d low = get_or-bits_of (replicate count nothing) n k d low ∙ is_set-zeros count k ∙ sym (get_or-replicate n k false d low)

pub are_bits-zeros : (words : List ℕ) (ids : ℕ) → ids < 2 ^ 32 → words ≡ replicate ((ids + 63) / 64) nothing → AreBits words ids
are_bits-zeros words ids few zeros = record {
  few = few;
  count = ap length zeros ∙ length-replicate ((ids + 63) / 64) nothing;
  clear = λ k past. ap (λ (ws : List ℕ). is_set ws k) zeros ∙ is_set-zeros ((ids + 63) / 64) k;
}

-- the words of zeros show no id
pub shown-zeros : (words : List ℕ) (count ids : ℕ) → words ≡ replicate count nothing → bits_of words ids ≡ replicate ids false
shown-zeros words count ids zeros = ap (λ (ws : List ℕ). bits_of ws ids) zeros ∙ bits_of-zeros count ids

-- the bit of a word is the truth value of its id
pub bit_is : (words : List ℕ) (ids : ℕ) (bits : List Bool) (i j : ℕ) → AreBits words ids → bits_of words ids ≡ bits → j < 64 → (bit_at (get_or words i 0) j == 1) ≡ has bits (64 * i + j)
bit_is words ids bits i j h seen small =
    let word : i ≡ (64 * i + j) / 64 = omega arith in
    let place : j ≡ (64 * i + j) % 64 = omega arith in
    ap (λ (k : ℕ). bit_at (get_or words k 0) j == 1) word
    ∙ ap (λ (k : ℕ). bit_at (get_or words ((64 * i + j) / 64) 0) k == 1) place
    ∙ sym (has_is words ids bits h seen (64 * i + j))

-- the words after a write
pub written : (words : List ℕ) (id old : ℕ) → old ≡ get_or words (id / 64) old → id / 64 < length words → set words (id / 64) (bit_or old (1 * 2 ^ (id % 64) % 2 ^ 64)) ≡ with_bit words id
written words id old e inside =
    let same : old ≡ get_or words (id / 64) 0 = e ∙ get_or_default_zero words (id / 64) old inside in
    ap (λ (w : ℕ). set words (id / 64) (bit_or w (1 * 2 ^ (id % 64) % 2 ^ 64))) same

-- the same, of a slice with the words
pub has_lent : (lent words : List ℕ) (ids : ℕ) (bits : List Bool) → lent ≡ words → AreBits words ids → bits_of words ids ≡ bits → (k : ℕ) → has bits k ≡ is_set lent k
has_lent lent words ids bits e h seen k = has_is words ids bits h seen k ∙ ap (λ (ws : List ℕ). is_set ws k) (sym e)
