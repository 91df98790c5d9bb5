-- No more packets are kept than there are ids.
use Rattle.std.proofs.Common.{◌≡◌, ◌⊎◌, inl, inr, ℕ, zero, suc, ◌+◌, ◌-◌, ◌<◌, ◌≤◌, ◌^◌, min, List, [], ◌∷◌, length, Bool, true, false, refl, ap, subst, arith}
use Rattle.std.specs.Prelude.{◌==◌, if◌then◌else◌}
use Rattle.std.specs.List.{AllByRecursion}
use Rattle.std.proofs.lemmas.Bool.{cases_order, eqb-true, eqb-false, leb-true, or_parts, or_from}
use Rattle.stream_packets.specs.Packets.{StreamPacket, head_of}
use Rattle.block_image.specs.Kept.{has_id}
use Rattle.block_image.specs.KeptFacts.{HasDistinctIds, may_keep, IsKept}
use Rattle.block_image.proofs.IsKept.{may_keep_parts}

-- those whose id isn't m
abbrev others : ℕ → List StreamPacket → List StreamPacket
others m [] = []
others m (x ∷ xs) = if (head_of x).id == m then others m xs else x ∷ others m xs

others_same : (m : ℕ) (ks : List StreamPacket) → has_id m ks ≡ false → others m ks ≡ ks
others_same m [] none = refl
others_same m (x ∷ xs) none =
    let parts = or_parts ((head_of x).id == m) (has_id m xs) none in
    rw parts.0 (ap (λ l. x ∷ l) (others_same m xs parts.1))

one_fewer : (m : ℕ) (ks : List StreamPacket) → HasDistinctIds ks → length ks ≤ 1 + length (others m ks)
one_fewer m [] distinct = omega arith
one_fewer m (x ∷ xs) distinct = go ((head_of x).id == m) refl (one_fewer m xs distinct.1) where
  go : (v : Bool) → ((head_of x).id == m) ≡ v → length xs ≤ 1 + length (others m xs) → length (x ∷ xs) ≤ 1 + length (if v then others m xs else x ∷ others m xs)
  go true e later =
      let alone : has_id m xs ≡ false = subst (λ (i : ℕ). has_id i xs ≡ false) (eqb-true (head_of x).id m e) distinct.0 in
      let same : length (others m xs) ≡ length xs = ap length (others_same m xs alone) in
      omega arith
  go false e later = omega arith

others_lack : (k m : ℕ) (ks : List StreamPacket) → has_id k ks ≡ false → has_id k (others m ks) ≡ false
others_lack k m [] none = refl
others_lack k m (x ∷ xs) none = go ((head_of x).id == m) (or_parts ((head_of x).id == k) (has_id k xs) none) (others_lack k m xs) where
  go : (v : Bool) → (((head_of x).id == k) ≡ false) × (has_id k xs ≡ false) → (has_id k xs ≡ false → has_id k (others m xs) ≡ false) → has_id k (if v then others m xs else x ∷ others m xs) ≡ false
  go true parts later = later parts.1
  go false parts later = or_from ((head_of x).id == k) (has_id k (others m xs)) parts.0 (later parts.1)

others_distinct : (m : ℕ) (ks : List StreamPacket) → HasDistinctIds ks → HasDistinctIds (others m ks)
others_distinct m [] distinct = tt
others_distinct m (x ∷ xs) distinct = go ((head_of x).id == m) (others_distinct m xs distinct.1) where
  go : (v : Bool) → HasDistinctIds (others m xs) → HasDistinctIds (if v then others m xs else x ∷ others m xs)
  go true later = later
  go false later = (others_lack (head_of x).id m xs distinct.0, later)

abbrev HasIdBelow : ℕ → StreamPacket → Type 0
HasIdBelow n x = (head_of x).id < n

others_below : (m : ℕ) (ks : List StreamPacket) → AllByRecursion (HasIdBelow (suc m)) ks → AllByRecursion (HasIdBelow m) (others m ks)
others_below m [] all = tt
others_below m (x ∷ xs) all = go ((head_of x).id == m) refl (others_below m xs all.1) where
  go : (v : Bool) → ((head_of x).id == m) ≡ v → AllByRecursion (HasIdBelow m) (others m xs) → AllByRecursion (HasIdBelow m) (if v then others m xs else x ∷ others m xs)
  go true e later = later
  go false e later = (lower (cases_order (head_of x).id m), later) where
    lower : ((head_of x).id ≡ m) ⊎ (((head_of x).id < m) ⊎ (m < (head_of x).id)) → (head_of x).id < m
    lower (inl same) = absurd (eqb-false (head_of x).id m e same)
    lower (inr (inl less)) = less
    lower (inr (inr more)) = absurd (omega (arith, all.0))

few_ids : (n : ℕ) (ks : List StreamPacket) → HasDistinctIds ks → AllByRecursion (HasIdBelow n) ks → length ks ≤ n
few_ids zero [] distinct all = omega arith
few_ids zero (x ∷ xs) distinct all = absurd (omega (arith, all.0))
few_ids (suc m) ks distinct all =
    let fewer : length (others m ks) ≤ m = few_ids m (others m ks) (others_distinct m ks distinct) (others_below m ks all) in
    omega (arith, one_fewer m ks distinct)

ids_below : (p b : ℕ) (ks : List StreamPacket) → AllByRecursion (λ x. may_keep p b x ≡ true) ks → AllByRecursion (HasIdBelow 131074) ks
ids_below p b [] may = tt
ids_below p b (x ∷ xs) may =
    let most : (head_of x).id ≤ 131073 = leb-true (head_of x).id 131073 (may_keep_parts p b x may.0).id in
    (omega arith, ids_below p b xs may.1)

pub few_kept : (p b : ℕ) (ks : List StreamPacket) → IsKept p b ks → length ks ≤ 131074
few_kept p b ks are = few_ids 131074 ks are.distinct (ids_below p b ks are.of_block)

-- so a counter holds them all
pub count_is : (p b count : ℕ) (ks : List StreamPacket) → IsKept p b ks → count ≡ min (length ks) (2 ^ 32 - 1) → count ≡ length ks
count_is p b count ks are e =
    let few = few_kept p b ks are in
    omega arith
