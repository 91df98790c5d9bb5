-- The first wanted id among words, and the holes that two such searches find.
use Rattle.std.proofs.Common.{◌≡◌, ◌⊎◌, inl, inr, ℕ, ◌+◌, ◌-◌, ◌*◌, ◌/◌, ◌%◌, ◌<◌, ◌≤◌, min, List, Bool, true, false, Some, None, refl, sym, ◌∙◌, ap, arith}
use Rattle.std.specs.Prelude.{◌==◌, not, slice_index}
use Rattle.std.specs.Int.{bit_at}
use Rattle.std.proofs.lemmas.Bool.{cases_lt, false≢true}
use Rattle.missing_ranges.specs.RangeLaws.{IsFirstHole}
use Rattle.packet_bitmap.specs.Bits.{has, HasClear, is_set, IsFirstWith, IsNextBit}

-- an id of the same word
in_word : (words : List ℕ) (k w bit : ℕ) (b : Bool) → k / 64 ≡ w → k % 64 ≡ bit → (bit_at (slice_index words w) bit == 1) ≡ b → is_set words k ≡ b
in_word words k w bit b quotient rest e = rw (quotient, rest) e

-- none of these ids is as wanted
abbrev pub HasNone : List ℕ → Bool → ℕ → ℕ → Type 0
HasNone words wanted from to = (id : ℕ) → from ≤ id → id < to → is_set words id ≡ not wanted

-- a wanted bit in the word of `at`
pub found_in : (words : List ℕ) (wanted : Bool) (from to at bit : ℕ) → from ≤ at → HasNone words wanted from at → IsNextBit (slice_index words (at / 64)) wanted (at % 64) bit → IsFirstWith words wanted from to (min (at / 64 * 64 + bit) to)
found_in words wanted from to at bit low before h = record {
  within = omega arith;
  before = λ k lower higher. go k lower (omega arith) (cases_lt k at);
  here = λ inside. let same : min (at / 64 * 64 + bit) to ≡ at / 64 * 64 + bit = omega arith in
      ap (is_set words) same ∙ in_word words (at / 64 * 64 + bit) (at / 64) bit wanted (omega (arith, h.high)) (omega (arith, h.high)) h.here;
  after = λ inside. omega (arith, h.low);
} where
  go : (k : ℕ) → from ≤ k → k < at / 64 * 64 + bit → (k < at) ⊎ (at ≤ k) → is_set words k ≡ not wanted
  go k lower higher (inl less) = before k lower less
  go k lower higher (inr more) =
      in_word words k (at / 64) (k % 64) (not wanted) (omega (arith, h.high)) refl (h.before (k % 64) (omega (arith, h.high)) (omega (arith, h.high)))

-- no wanted bit in the word of `at`
pub none_in_word : (words : List ℕ) (wanted : Bool) (from at : ℕ) → HasNone words wanted from at → ((bit : ℕ) → at % 64 ≤ bit → bit < 64 → (bit_at (slice_index words (at / 64)) bit == 1) ≡ not wanted) → HasNone words wanted from (at / 64 * 64 + 64)
none_in_word words wanted from at before h k low high = go (cases_lt k at) where
  go : (k < at) ⊎ (at ≤ k) → is_set words k ≡ not wanted
  go (inl less) = before k low less
  go (inr more) =
      in_word words k (at / 64) (k % 64) (not wanted) (omega arith) refl (h (k % 64) (omega arith) (omega arith))

-- the ids end
pub none_found : (words : List ℕ) (wanted : Bool) (from to at : ℕ) → to ≤ at → HasNone words wanted from at → IsFirstWith words wanted from to to
none_found words wanted from to at past before = record {
  within = omega arith;
  before = λ k low high. before k low (omega arith);
  here = λ less. absurd (omega arith);
  after = λ less. absurd (omega arith);
}

-- a truth value for each bit
abbrev pub AreSame : (ℕ → Bool) → List ℕ → Type 0
AreSame there words = (k : ℕ) → there k ≡ is_set words k

pub no_hole : (there : ℕ → Bool) (words : List ℕ) (from to found : ℕ) → AreSame there words → to ≤ found → IsFirstWith words false from to found → IsFirstHole there from to None
no_hole there words from to found same past h k low high = same k ∙ h.before k low (omega arith)

-- the first set id behind a clear one
pub behind_clear : (words : List ℕ) (first to behind : ℕ) → first < to → is_set words first ≡ false → IsFirstWith words true first to behind → first < behind
behind_clear words first to behind inside clear h = go (cases_lt first behind) (cases_lt behind to) where
  go : (first < behind) ⊎ (behind ≤ first) → (behind < to) ⊎ (to ≤ behind) → first < behind
  go (inl less) rest = less
  go (inr more) (inl before) =
      let same : first ≡ behind = omega (arith, h.after before) in
      absurd (false≢true (sym clear ∙ ap (is_set words) same ∙ h.here before))
  go (inr more) (inr past) = absurd (omega arith)

pub a_hole : (there : ℕ → Bool) (words : List ℕ) (from to first behind : ℕ) → AreSame there words → first < to → IsFirstWith words false from to first → IsFirstWith words true first to behind → IsFirstHole there from to (Some (first, behind - 1))
a_hole there words from to first behind same inside f b =
    let more : first < behind = behind_clear words first to behind inside (f.here inside) b in
    record {
      hole = record {
        begins = f.after inside;
        rises = omega arith;
        ends = omega (arith, b.within);
        clear = λ k low high. same k ∙ b.before k low (omega arith);
        before = λ less. same (first - 1) ∙ f.before (first - 1) (omega arith) (omega arith);
        after = λ less. let at : behind - 1 + 1 ≡ behind = omega arith in ap there at ∙ same behind ∙ b.here (omega arith);
      };
      lowest = λ k low high. same k ∙ f.before k low high;
    }

pub all_set : (bits : List Bool) (words : List ℕ) (top found : ℕ) → AreSame (has bits) words → top < found → IsFirstWith words false 0 (top + 1) found → (id : ℕ) → id ≤ top → has bits id ≡ true
all_set bits words top found same past h id low = same id ∙ h.before id (omega arith) (omega arith)

pub one_clear : (bits : List Bool) (words : List ℕ) (top found : ℕ) → AreSame (has bits) words → found ≤ top → IsFirstWith words false 0 (top + 1) found → HasClear bits top
one_clear bits words top found same within h = record { id = found; within = within; clear = same found ∙ h.here (omega arith) }
