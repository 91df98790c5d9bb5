-- How many bytes are placed, and up to where, as a list of kept packets grows at its end.
use Rattle.std.proofs.Common.{◌≡◌, ◌⊎◌, inl, inr, ℕ, zero, suc, ◌+◌, ◌-◌, ◌<◌, ◌≤◌, min, max, List, [], ◌∷◌, ◌++◌, length, Bool, true, false, refl, ap, sym, ◌∙◌, arith}
use Rattle.std.specs.Prelude.{◌&&◌, ◌||◌, nat_lt, is_some, if◌then◌else◌}
use Rattle.std.proofs.lemmas.Bool.{and_from, and_left, and_right, lt-ltb, le-ltb, cases_Bool, cases_lt}
use Rattle.stream_packets.specs.declared.fields.Head.{Head}
use Rattle.stream_packets.specs.declared.fields.LeaderInfo.{LeaderInfo}
use Rattle.stream_packets.specs.Packets.{StreamPacket, leader, payload, trailer}
use Rattle.stream_packets.specs.FramePackets.{payload_start}
use Rattle.block_image.specs.Kept.{takes}
use Rattle.block_image.specs.Image.{covers, byte_from, placed, placed_count, placed_end}
use Rattle.block_image.specs.KeptFacts.{IsKept, ArePayloadsNumbered}
use Rattle.block_image.proofs.Bools.{is_some-first_some, one_if}
use Rattle.block_image.proofs.Covering.{covers_parts, covers-false}
use Rattle.block_image.proofs.ImageLemmas.{placed-push, placed-push_none, is_some-byte_from, Fresh, fresh, placed-fresh}

pub placed_count-nil : (p n : ℕ) → placed_count p [] n ≡ 0
placed_count-nil p zero = refl
placed_count-nil p (suc n) = omega (arith, placed_count-nil p n)

pub placed_end-nil : (p n : ℕ) → placed_end p [] n ≡ 0
placed_end-nil p zero = refl
placed_end-nil p (suc n) = placed_end-nil p n

-- a test counts as 0 or 1
one_at_most : (b : Bool) → (if b then 1 else 0) ≤ 1
one_at_most true = omega arith
one_at_most false = omega arith

pub placed_count-le : (p : ℕ) (ks : List StreamPacket) (n : ℕ) → placed_count p ks n ≤ n
placed_count-le p ks zero = omega arith
placed_count-le p ks (suc n) = omega (arith, placed_count-le p ks n, one_at_most (is_some (placed p ks n)))

end_step : (b : Bool) (n e : ℕ) → e ≤ n → (if b then suc n else e) ≤ suc n
end_step true n e le = omega arith
end_step false n e le = omega arith

pub placed_end-le : (p : ℕ) (ks : List StreamPacket) (n : ℕ) → placed_end p ks n ≤ n
placed_end-le p ks zero = omega arith
placed_end-le p ks (suc n) = end_step (is_some (placed p ks n)) n (placed_end p ks n) (placed_end-le p ks n)

pub placed_count-same : (p : ℕ) (ks ls : List StreamPacket) (n : ℕ) → ((j : ℕ) → placed p ks j ≡ placed p ls j) → placed_count p ks n ≡ placed_count p ls n
placed_count-same p ks ls zero same = refl
placed_count-same p ks ls (suc n) same = rw (placed_count-same p ks ls n same, same n)

pub placed_end-same : (p : ℕ) (ks ls : List StreamPacket) (n : ℕ) → ((j : ℕ) → placed p ks j ≡ placed p ls j) → placed_end p ks n ≡ placed_end p ls n
placed_end-same p ks ls zero same = refl
placed_end-same p ks ls (suc n) same = rw (placed_end-same p ks ls n same, same n)

-- how many of the first n positions lie among the len from start on, one position further
pub part_inside-suc : (start len n : ℕ) → min (suc n) (start + len) - min (suc n) start ≡ min n (start + len) - min n start + (if covers start len n then 1 else 0)
part_inside-suc start len n = go (cases_Bool (covers start len n)) where
  go : (covers start len n ≡ true) ⊎ (covers start len n ≡ false) → min (suc n) (start + len) - min (suc n) start ≡ min n (start + len) - min n start + (if covers start len n then 1 else 0)
  go (inl c) = let parts = covers_parts start len n c in rw c (omega (arith, parts.low, parts.high))
  go (inr c) = rw c (outside (covers-false start len n c)) where
    outside : (n < start) ⊎ (start + len ≤ n) → min (suc n) (start + len) - min (suc n) start ≡ min n (start + len) - min n start + 0
    outside (inl low) = omega arith
    outside (inr high) = omega arith

is_some-push : (p : ℕ) (ks : List StreamPacket) (h : Head) (d : List ℕ) (j : ℕ) → is_some (placed p (ks ++ payload h d ∷ []) j) ≡ (is_some (placed p ks j) || covers (payload_start p h.id) (length d) j)
is_some-push p ks h d j =
    ap is_some (placed-push p ks (payload h d) j)
    ∙ is_some-first_some (placed p ks j) (byte_from p (payload h d) j)
    ∙ ap (λ c. is_some (placed p ks j) || c) (is_some-byte_from p h d j)

-- the counts of two tests that never pass together
count_or : (a c : Bool) → (c ≡ true → a ≡ false) → (if a || c then 1 else 0) ≡ (if a then 1 else 0) + (if c then 1 else 0)
count_or true true apart = cc (apart refl)
count_or true false apart = refl
count_or false true apart = refl
count_or false false apart = refl

placed_count-fresh : (p b : ℕ) (ks : List StreamPacket) (h : Head) (d : List ℕ) (n : ℕ) → Fresh p b ks h d → placed_count p (ks ++ payload h d ∷ []) n ≡ placed_count p ks n + (min n (payload_start p h.id + length d) - min n (payload_start p h.id))
placed_count-fresh p b ks h d zero f = omega arith
placed_count-fresh p b ks h d (suc n) f =
    let one : (if is_some (placed p (ks ++ payload h d ∷ []) n) then 1 else 0) ≡ (if is_some (placed p ks n) then 1 else 0) + (if covers (payload_start p h.id) (length d) n then 1 else 0) =
    ap one_if (is_some-push p ks h d n)
    ∙ count_or (is_some (placed p ks n)) (covers (payload_start p h.id) (length d) n) (λ c. ap is_some (placed-fresh p b ks h d n f c)) in
    omega (arith, placed_count-fresh p b ks h d n f, one, part_inside-suc (payload_start p h.id) (length d) n)

pub placed_count-push_payload : (p b : ℕ) (ks : List StreamPacket) (h : Head) (d : List ℕ) (size : ℕ) → IsKept p b ks → ArePayloadsNumbered ks → 1 ≤ h.id → takes p b ks (payload h d) ≡ true → placed_count p (ks ++ payload h d ∷ []) size ≡ placed_count p ks size + (min size (payload_start p h.id + length d) - min size (payload_start p h.id))
placed_count-push_payload p b ks h d size is numbered one taken = placed_count-fresh p b ks h d size (fresh p b ks h d is numbered one taken)

pub placed_count-push_leader : (p : ℕ) (ks : List StreamPacket) (h : Head) (i : LeaderInfo) (size : ℕ) → placed_count p (ks ++ leader h i ∷ []) size ≡ placed_count p ks size
placed_count-push_leader p ks h i size = placed_count-same p (ks ++ leader h i ∷ []) ks size (λ j. placed-push_none p ks (leader h i) j refl)

pub placed_count-push_trailer : (p : ℕ) (ks : List StreamPacket) (h : Head) (y : ℕ) (size : ℕ) → placed_count p (ks ++ trailer h y ∷ []) size ≡ placed_count p ks size
placed_count-push_trailer p ks h y size = placed_count-same p (ks ++ trailer h y ∷ []) ks size (λ j. placed-push_none p ks (trailer h y) j refl)

-- the end of what len bytes from start on place in a buffer of this size, 0 where they place none
abbrev pub end_inside : ℕ → ℕ → ℕ → ℕ
end_inside start len size = if nat_lt start size && nat_lt 0 len then min size (start + len) else 0

end_inside-some : (start len size : ℕ) → start < size → 0 < len → end_inside start len size ≡ min size (start + len)
end_inside-some start len size low some = rw (and_from (nat_lt start size) (nat_lt 0 len) (lt-ltb start size low) (lt-ltb 0 len some))

end_inside-past : (start len size : ℕ) → size ≤ start → end_inside start len size ≡ 0
end_inside-past start len size past = rw (and_left (nat_lt start size) (nat_lt 0 len) (le-ltb start size past))

end_inside-none : (start len size : ℕ) → len ≤ 0 → end_inside start len size ≡ 0
end_inside-none start len size none = rw (and_right (nat_lt start size) (nat_lt 0 len) (le-ltb 0 len none))

pub end_inside-le : (start len size : ℕ) → end_inside start len size ≤ size
end_inside-le start len size = go (nat_lt start size && nat_lt 0 len) where
  go : (b : Bool) → (if b then min size (start + len) else 0) ≤ size
  go true = omega arith
  go false = omega arith

-- one position further: the position itself where it is covered, and else as before
end_inside-suc_covered : (start len n : ℕ) → covers start len n ≡ true → end_inside start len (suc n) ≡ suc n
end_inside-suc_covered start len n c =
    let parts = covers_parts start len n c in
    end_inside-some start len (suc n) (omega (arith, parts.low)) (omega (arith, parts.low, parts.high)) ∙ omega (arith, parts.high)

end_inside-suc_outside : (start len n : ℕ) → covers start len n ≡ false → end_inside start len (suc n) ≡ end_inside start len n
end_inside-suc_outside start len n c = go (covers-false start len n c) (cases_lt 0 len) where
  go : (n < start) ⊎ (start + len ≤ n) → (0 < len) ⊎ (len ≤ 0) → end_inside start len (suc n) ≡ end_inside start len n
  go (inl low) some = end_inside-past start len (suc n) (omega arith) ∙ sym (end_inside-past start len n (omega arith))
  go (inr high) (inl some) =
      end_inside-some start len (suc n) (omega arith) some
      ∙ (let same : min (suc n) (start + len) ≡ min n (start + len) = omega arith in same)
      ∙ sym (end_inside-some start len n (omega arith) some)
  go (inr high) (inr none) = end_inside-none start len (suc n) none ∙ sym (end_inside-none start len n none)

end_or : (a c : Bool) (n e f g : ℕ) → e ≤ n → g ≤ suc n → (c ≡ true → g ≡ suc n) → (c ≡ false → g ≡ f) → (if a || c then suc n else max e f) ≡ max (if a then suc n else e) g
end_or true c n e f g elow glow covered outside = omega arith
end_or false true n e f g elow glow covered outside = omega (arith, covered refl)
end_or false false n e f g elow glow covered outside = omega (arith, outside refl)

pub placed_end-push_payload : (p : ℕ) (ks : List StreamPacket) (h : Head) (d : List ℕ) (size : ℕ) → placed_end p (ks ++ payload h d ∷ []) size ≡ max (placed_end p ks size) (end_inside (payload_start p h.id) (length d) size)
placed_end-push_payload p ks h d zero = rw (end_inside-past (payload_start p h.id) (length d) 0 (omega arith)) (omega arith)
placed_end-push_payload p ks h d (suc n) =
    rw (is_some-push p ks h d n, placed_end-push_payload p ks h d n)
    (end_or (is_some (placed p ks n)) (covers (payload_start p h.id) (length d) n) n (placed_end p ks n)
    (end_inside (payload_start p h.id) (length d) n) (end_inside (payload_start p h.id) (length d) (suc n))
    (placed_end-le p ks n) (end_inside-le (payload_start p h.id) (length d) (suc n))
    (end_inside-suc_covered (payload_start p h.id) (length d) n) (end_inside-suc_outside (payload_start p h.id) (length d) n))

pub placed_end-push_leader : (p : ℕ) (ks : List StreamPacket) (h : Head) (i : LeaderInfo) (size : ℕ) → placed_end p (ks ++ leader h i ∷ []) size ≡ placed_end p ks size
placed_end-push_leader p ks h i size = placed_end-same p (ks ++ leader h i ∷ []) ks size (λ j. placed-push_none p ks (leader h i) j refl)

pub placed_end-push_trailer : (p : ℕ) (ks : List StreamPacket) (h : Head) (y : ℕ) (size : ℕ) → placed_end p (ks ++ trailer h y ∷ []) size ≡ placed_end p ks size
placed_end-push_trailer p ks h y size = placed_end-same p (ks ++ trailer h y ∷ []) ks size (λ j. placed-push_none p ks (trailer h y) j refl)
