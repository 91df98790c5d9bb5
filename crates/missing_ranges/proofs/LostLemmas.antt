-- The lost ranges are the holes of what was kept.
use Rattle.std.proofs.Common.{◌≡◌, ◌↔◌, ℕ, zero, suc, ◌+◌, List, [], ◌∷◌, Bool, true, false, Option, refl, sym, ◌∙◌, ap, subst, arith}
use Rattle.std.specs.Prelude.{◌==◌, if◌then◌else◌}
use Rattle.std.proofs.lemmas.Bool.{eqb-true}
use Rattle.stream_packets.specs.Packets.{StreamPacket}
use Rattle.block_image.specs.Kept.{has_id}
use Rattle.missing_ranges.specs.Ranges.{with_id, holes}
use Rattle.missing_ranges.specs.RangeLaws.{AreRising, AreHoles}
use Rattle.missing_ranges.proofs.HoleLemmas.{holes_are_maximal}
use Rattle.missing_ranges.specs.Lost.{lost_to, ids_in, count_false}
use Rattle.missing_ranges.specs.ReasonLaws.{AreLost, LostIdsHaveNoPacket}

-- one id more
ids_with : (k low : ℕ) (rs : List (ℕ × ℕ)) → AreRising low rs → ids_in (with_id k rs) ≡ 1 + ids_in rs
ids_with k low [] rising = omega arith
ids_with k low (r ∷ rs) rising = go (r.0 == k + 1) refl where
  go : (v : Bool) → (r.0 == k + 1) ≡ v → ids_in (if v then (k, r.1) ∷ rs else (k, k) ∷ r ∷ rs) ≡ 1 + ids_in (r ∷ rs)
  go true e = omega (arith, eqb-true r.0 (k + 1) e, rising.1)
  go false e = omega arith

zero_more : (m : ℕ) → m ≡ 0 + m
zero_more m = omega arith

count_one : (k : ℕ) (v : Bool) (rs : List (ℕ × ℕ)) (m : ℕ) → AreRising (k + 1) rs → ids_in rs ≡ m → ids_in (if v then rs else with_id k rs) ≡ (if v then 0 else 1) + m
count_one k true rs m rising e = e ∙ zero_more m
count_one k false rs m rising e = ids_with k (k + 1) rs rising ∙ ap (λ (i : ℕ). 1 + i) e

pub ids_counted : (there : ℕ → Bool) (k n : ℕ) → ids_in (holes there k n) ≡ count_false there k n
ids_counted there k zero = refl
ids_counted there k (suc n) =
    count_one k (there k) (holes there (k + 1) n) (count_false there (k + 1) n) (holes_are_maximal there (k + 1) n).rising (ids_counted there (k + 1) n)

-- ranges have ids
none_is : (low : ℕ) (rs : List (ℕ × ℕ)) → AreRising low rs → (ids_in rs ≡ 0) ↔ (rs ≡ [])
none_is low [] rising = (λ e. refl, λ e. refl)
none_is low (r ∷ rs) rising = (λ e. absurd (omega (arith, rising.1)), λ e. absurd (apart e)) where
  apart : r ∷ rs ≡ [] → ⊥
  apart e = cc

lost_are : (top : ℕ) (ks : List StreamPacket) → AreLost ks top (holes (λ k. has_id k ks) 0 (top + 1))
lost_are top ks =
    let same : 0 + (top + 1) ≡ top + 1 = omega arith in
    let all : AreHoles (λ k. has_id k ks) 0 (top + 1) (holes (λ k. has_id k ks) 0 (top + 1)) =
    subst (λ (to : ℕ). AreHoles (λ k. has_id k ks) 0 to (holes (λ k. has_id k ks) 0 (top + 1))) same (holes_are_maximal (λ k. has_id k ks) 0 (top + 1)) in
    record {
      holes = all;
      count = ids_counted (λ k. has_id k ks) 0 (top + 1);
      none = none_is 0 (holes (λ k. has_id k ks) 0 (top + 1)) all.rising;
    }

pub lost_ids_have_no_packet : LostIdsHaveNoPacket
lost_ids_have_no_packet = record {
  up_to_the_top = λ p top ks known. subst (λ (o : Option ℕ). AreLost ks top (lost_to ks o)) (sym known) (lost_are top ks);
  with_nothing = λ p ks none. ap (lost_to ks) none;
}
