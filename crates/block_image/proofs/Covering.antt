-- Where payloads lie: two with different ids never meet.
use Rattle.std.proofs.Common.{◌≡◌, ◌⊎◌, inl, inr, ℕ, ◌+◌, ◌-◌, ◌*◌, ◌<◌, ◌≤◌, true, false, arith}
use Rattle.std.specs.Prelude.{nat_le, nat_lt}
use Rattle.std.proofs.lemmas.Bool.{and_parts, and_from, and_cases, leb-true, ltb-true, leb-false, ltb-false, le-leb, lt-ltb, cases_order}
use Rattle.stream_packets.specs.FramePackets.{payload_start}
use Rattle.block_image.specs.Image.{covers}

-- position j is one of the len bytes from start on
pub record Covers (start len j : ℕ) : Type 0 where
  pub low : start ≤ j
  pub high : j < start + len

pub covers_parts : (start len j : ℕ) → covers start len j ≡ true → Covers start len j
covers_parts start len j c =
    let parts = and_parts (nat_le start j) (nat_lt j (start + len)) c in
    record { low = leb-true start j parts.0; high = ltb-true j (start + len) parts.1 }

pub covers_from : (start len j : ℕ) → start ≤ j → j < start + len → covers start len j ≡ true
covers_from start len j low high =
    and_from (nat_le start j) (nat_lt j (start + len)) (le-leb start j low) (lt-ltb j (start + len) high)

pub covers-false : (start len j : ℕ) → covers start len j ≡ false → (j < start) ⊎ (start + len ≤ j)
covers-false start len j c = go (and_cases (nat_le start j) (nat_lt j (start + len)) c) where
  go : (nat_le start j ≡ false) ⊎ (nat_lt j (start + len) ≡ false) → (j < start) ⊎ (start + len ≤ j)
  go (inl below) = inl (leb-false start j below)
  go (inr above) = inr (ltb-false j (start + len) above)

no_lower : (p a b j : ℕ) → a * p ≤ j → j < a * p + p → b * p ≤ j → j < b * p + p → a < b → ⊥
no_lower p a b j alow ahigh blow bhigh less = grind arith

-- the only multiple of p from which position j is less than p away
pub same_multiple : (p a b j : ℕ) → a * p ≤ j → j < a * p + p → b * p ≤ j → j < b * p + p → a ≡ b
same_multiple p a b j alow ahigh blow bhigh = go (cases_order a b) where
  go : (a ≡ b) ⊎ ((a < b) ⊎ (b < a)) → a ≡ b
  go (inl same) = same
  go (inr (inl less)) = absurd (no_lower p a b j alow ahigh blow bhigh less)
  go (inr (inr more)) = absurd (no_lower p b a j blow bhigh alow ahigh more)

-- two payloads of at most p bytes that cover one position have one id
pub same_id : (p k l m n j : ℕ) → 1 ≤ k → 1 ≤ m → l ≤ p → n ≤ p → Covers (payload_start p k) l j → Covers (payload_start p m) n j → k ≡ m
same_id p k l m n j kone mone lfits nfits kc mc =
    let same : k - 1 ≡ m - 1 = same_multiple p (k - 1) (m - 1) j kc.low (omega (arith, kc.high)) mc.low (omega (arith, mc.high)) in
    omega arith
