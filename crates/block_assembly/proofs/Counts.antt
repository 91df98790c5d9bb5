-- As many packets as there are ids of which each was kept.
use Rattle.std.proofs.Common.{◌≡◌, ◌⊎◌, inl, inr, ℕ, zero, suc, ◌+◌, ◌<◌, ◌≤◌, List, [], ◌∷◌, length, Bool, true, false, ap, arith}
use Rattle.std.specs.Prelude.{◌==◌, ◌||◌, nat_lt}
use Rattle.std.proofs.lemmas.Bool.{cases_order, eq-eqb, ne_eqb, lt-ltb, le-ltb}
use Rattle.stream_packets.specs.Packets.{StreamPacket, head_of}
use Rattle.block_image.specs.Kept.{has_id}
use Rattle.block_image.proofs.Bools.{one_if}

-- how many have an id below m
abbrev below : ℕ → List StreamPacket → ℕ
below m [] = 0
below m (x ∷ xs) = one_if (nat_lt (head_of x).id m) + below m xs

one_at_most : (b : Bool) → one_if b ≤ 1
one_at_most true = omega arith
one_at_most false = omega arith

below-le : (m : ℕ) (ks : List StreamPacket) → below m ks ≤ length ks
below-le m [] = omega arith
below-le m (x ∷ xs) = omega (arith, below-le m xs, one_at_most (nat_lt (head_of x).id m))

-- one packet, and whether it has the id m
counted_once : (id m : ℕ) (rest : Bool) → one_if (nat_lt id m) + one_if ((id == m) || rest) ≤ one_if (nat_lt id (suc m)) + one_if rest
counted_once id m rest = go (cases_order id m) where
  go : (id ≡ m) ⊎ ((id < m) ⊎ (m < id)) → one_if (nat_lt id m) + one_if ((id == m) || rest) ≤ one_if (nat_lt id (suc m)) + one_if rest
  go (inl same) = rw (le-ltb id m (omega arith), eq-eqb id m same, lt-ltb id (suc m) (omega arith)) (omega arith)
  go (inr (inl less)) = rw (lt-ltb id m less, ne_eqb id m (λ e. omega arith), lt-ltb id (suc m) (omega arith)) (omega arith)
  go (inr (inr more)) = rw (le-ltb id m (omega arith), ne_eqb id m (λ e. omega arith), le-ltb id (suc m) (omega arith)) (omega arith)

below-suc : (m : ℕ) (ks : List StreamPacket) → below m ks + one_if (has_id m ks) ≤ below (suc m) ks
below-suc m [] = omega arith
below-suc m (x ∷ xs) = omega (arith, below-suc m xs, counted_once (head_of x).id m (has_id m xs))

all_counted : (m : ℕ) (ks : List StreamPacket) → ((k : ℕ) → k < m → has_id k ks ≡ true) → m ≤ below m ks
all_counted zero ks all = omega arith
all_counted (suc m) ks all =
    let before : m ≤ below m ks = all_counted m ks (λ k less. all k (omega arith)) in
    let here : one_if (has_id m ks) ≡ 1 = ap one_if (all m (omega arith)) in
    omega (arith, below-suc m ks)

pub as_many : (m : ℕ) (ks : List StreamPacket) → ((k : ℕ) → k < m → has_id k ks ≡ true) → m ≤ length ks
as_many m ks all = omega (arith, all_counted m ks all, below-le m ks)
