-- What lies in the places of payloads: writes into a place, and beside it.
use Rattle.std.proofs.Common.{◌≡◌, ◌⊎◌, inl, inr, ℕ, ◌+◌, ◌-◌, ◌*◌, ◌/◌, ◌<◌, ◌≤◌, true, false, Bool, List, [], ◌∷◌, ◌++◌, length, get_or, replicate, refl, ap, sym, ◌∙◌, arith, subst}
use Rattle.std.specs.Prelude.{◌==◌, ◌||◌, nat_le, min, Some, None, unwrap_or}
use Rattle.std.proofs.lemmas.Bool.{cases_Bool, cases_lt, false≢true, eq-eqb, eqb-true, leb-true, le-leb, leb-false, cond-true, cond-false}
use Rattle.std.proofs.Math.Nat.{mul-le-mul_right}
use Rattle.std.proofs.lemmas.List.{length-replicate, ext_get_or, get_or-replicate}
use Rattle.gev_types.specs.Placing.{put_at}
use Rattle.stream_packets.specs.declared.fields.Head.{Head}
use Rattle.stream_packets.specs.declared.fields.LeaderInfo.{LeaderInfo}
use Rattle.stream_packets.specs.Packets.{StreamPacket, leader, payload, trailer, head_of}
use Rattle.stream_packets.specs.FramePackets.{payload_start, payload_count}
use Rattle.block_image.specs.Kept.{has_id}
use Rattle.block_image.specs.KeptFacts.{IsKept, ArePayloadsNumbered}
use Rattle.block_image.specs.Image.{covers, byte_from, placed, image_bytes}
use Rattle.block_image.specs.Sizes.{IsPayloadSize}
use Rattle.block_image.proofs.Bools.{or_false, first_some}
use Rattle.block_image.proofs.Covering.{Covers, covers_parts, covers_from, covers-false, same_id}
use Rattle.block_image.proofs.FramePieces.{payload_at, start_at}
use Rattle.block_image.proofs.ImageLemmas.{length-image_bytes, get_or-image_bytes, placed-push, placed-push_none, byte_from-inside, byte_from-outside, placed-free, Fresh}
use Rattle.block_image.proofs.KeptLemmas.{has_id-push}
use Rattle.block_image.proofs.Lists.{length-put_at, get_or-put_at_inside, get_or-put_at_before, get_or-put_at_after}
use Rattle.missing_ranges.specs.RangeLaws.{IsLowestHole}
use Rattle.block_assembly.specs.Assembly.{HasPlaces}
use Rattle.block_assembly.specs.Steps.{zeros_put, emptied_in, placed_in}
use Rattle.block_assembly.specs.Zeroed.{places_zeroed, Zeroes}

-- ---- places

-- a position in one payload's place is in no other's
pub apart : (p k m j : ℕ) → 1 ≤ k → 1 ≤ m → (m == k) ≡ false → Covers (payload_start p k) p j → (j < payload_start p m) ⊎ (payload_start p m + p ≤ j)
apart p k m j kone mone other c = go (cases_Bool (covers (payload_start p m) p j)) where
  go : (covers (payload_start p m) p j ≡ true) ⊎ (covers (payload_start p m) p j ≡ false) → (j < payload_start p m) ⊎ (payload_start p m + p ≤ j)
  go (inr out) = covers-false (payload_start p m) p j out
  go (inl both) =
      let same = same_id p k p m p j kone mone (omega arith) (omega arith) c (covers_parts (payload_start p m) p j both) in
      absurd (false≢true (sym other ∙ eq-eqb m k (sym same)))

times_le : (p a b : ℕ) → a ≤ b → a * p ≤ b * p
times_le p a b low = mul-le-mul_right p low

times_lt : (p a b : ℕ) → a < b → a * p + p ≤ b * p
times_lt p a b less = let more : (a + 1) * p ≤ b * p = mul-le-mul_right p (omega arith) in grind arith

-- a later payload stands no earlier, and behind the place of an earlier one
start_le : (p k m : ℕ) → k ≤ m → payload_start p k ≤ payload_start p m
start_le p k m low = times_le p (k - 1) (m - 1) (omega arith)

start_lt : (p k m : ℕ) → 1 ≤ k → k < m → payload_start p k + p ≤ payload_start p m
start_lt p k m one less = times_lt p (k - 1) (m - 1) (omega arith)

-- ---- writes

pub length-zeros_put : (bytes : List ℕ) (at count size : ℕ) → length (zeros_put bytes at count size) ≡ length bytes
length-zeros_put bytes at count size = length-put_at bytes (min at size) (replicate count 0)

zeros_inside : (bytes : List ℕ) (at count size j : ℕ) → length bytes ≡ size → j < size → at ≤ j → j < at + count → get_or (zeros_put bytes at count size) j 0 ≡ 0
zeros_inside bytes at count size j len below low high =
    get_or-put_at_inside bytes (min at size) (replicate count 0) j (omega arith) (omega (arith, length-replicate {A = ℕ} count 0)) (omega (arith, len))
    ∙ get_or-replicate count (j - min at size) 0 0 (omega arith)

zeros_beside : (bytes : List ℕ) (at count size j : ℕ) → length bytes ≡ size → j < size → (j < at) ⊎ (at + count ≤ j) → get_or (zeros_put bytes at count size) j 0 ≡ get_or bytes j 0
zeros_beside bytes at count size j len below (inl low) =
    get_or-put_at_before bytes (min at size) (replicate count 0) j (omega arith) (omega (arith, len))
zeros_beside bytes at count size j len below (inr high) =
    get_or-put_at_after bytes (min at size) (replicate count 0) j (omega (arith, length-replicate {A = ℕ} count 0)) (omega (arith, len))

put_beside : (bytes : List ℕ) (at size : ℕ) (d : List ℕ) (j : ℕ) → length bytes ≡ size → j < size → (j < at) ⊎ (at + length d ≤ j) → get_or (put_at bytes (min at size) d) j 0 ≡ get_or bytes j 0
put_beside bytes at size d j len below (inl low) = get_or-put_at_before bytes (min at size) d j (omega arith) (omega (arith, len))
put_beside bytes at size d j len below (inr high) = get_or-put_at_after bytes (min at size) d j (omega arith) (omega (arith, len))

pub length-placed_in : (bytes : List ℕ) (p size start : ℕ) (d : List ℕ) → length (placed_in bytes p size start d) ≡ length bytes
length-placed_in bytes p size start d =
    length-zeros_put (put_at bytes (min start size) d) (start + length d) (p - length d) size ∙ length-put_at bytes (min start size) d

-- where a payload is placed
placed_inside : (bytes : List ℕ) (p size start : ℕ) (d : List ℕ) (j : ℕ) → length bytes ≡ size → j < size → start ≤ j → j < start + length d
    → get_or (placed_in bytes p size start d) j 0 ≡ get_or d (j - start) 0
placed_inside bytes p size start d j len below low high =
    zeros_beside (put_at bytes (min start size) d) (start + length d) (p - length d) size j (length-put_at bytes (min start size) d ∙ len) below (inl high)
    ∙ get_or-put_at_inside bytes (min start size) d j (omega arith) (omega arith) (omega (arith, len))
    ∙ ap (λ n. get_or d (j - n) 0) (omega arith)

placed_behind : (bytes : List ℕ) (p size start : ℕ) (d : List ℕ) (j : ℕ) → length bytes ≡ size → j < size → start + length d ≤ j → j < start + p
    → get_or (placed_in bytes p size start d) j 0 ≡ 0
placed_behind bytes p size start d j len below low high =
    zeros_inside (put_at bytes (min start size) d) (start + length d) (p - length d) size j (length-put_at bytes (min start size) d ∙ len) below low (omega arith)

placed_beside : (bytes : List ℕ) (p size start : ℕ) (d : List ℕ) (j : ℕ) → length d ≤ p → length bytes ≡ size → j < size → (j < start) ⊎ (start + p ≤ j)
    → get_or (placed_in bytes p size start d) j 0 ≡ get_or bytes j 0
placed_beside bytes p size start d j fits len below out =
    zeros_beside (put_at bytes (min start size) d) (start + length d) (p - length d) size j (length-put_at bytes (min start size) d ∙ len) below (wide out)
    ∙ put_beside bytes start size d j len below (near out)
  where
    wide : (j < start) ⊎ (start + p ≤ j) → (j < start + length d) ⊎ (start + length d + (p - length d) ≤ j)
    wide (inl low) = inl (omega arith)
    wide (inr high) = inr (omega arith)

    near : (j < start) ⊎ (start + p ≤ j) → (j < start) ⊎ (start + length d ≤ j)
    near (inl low) = inl low
    near (inr high) = inr (omega arith)

-- ---- one more packet

older : (k : ℕ) (ks : List StreamPacket) (x : StreamPacket) → ((head_of x).id == k) ≡ false → has_id k (ks ++ x ∷ []) ≡ true → has_id k ks ≡ true
older k ks x other here = sym (or_false (has_id k ks)) ∙ ap (λ b. has_id k ks || b) (sym other) ∙ sym (has_id-push k ks x) ∙ here

pub places_none : (p size : ℕ) (bytes : List ℕ) → HasPlaces p size [] bytes
places_none p size bytes k j one here low high below = absurd (false≢true here)

pub places_leader : (p size : ℕ) (ks : List StreamPacket) (h : Head) (i : LeaderInfo) (bytes : List ℕ) → h.id ≡ 0 → HasPlaces p size ks bytes → HasPlaces p size (ks ++ leader h i ∷ []) bytes
places_leader p size ks h i bytes zero has k j one here low high below =
    has k j one (older k ks (leader h i) (other (cases_Bool (h.id == k))) here) low high below
    ∙ ap (λ o. unwrap_or o 0) (sym (placed-push_none p ks (leader h i) j refl))
  where
    other : ((h.id == k) ≡ true) ⊎ ((h.id == k) ≡ false) → (h.id == k) ≡ false
    other (inr no_other) = no_other
    other (inl same) = let is : h.id ≡ k = eqb-true h.id k same in absurd (omega (arith, is, zero, one))

pub places_trailer : (p b size : ℕ) (ks : List StreamPacket) (h : Head) (y : ℕ) (bytes : List ℕ) → IsKept p b ks → ArePayloadsNumbered ks → has_id h.id ks ≡ false → length bytes ≡ size
    → HasPlaces p size ks bytes → HasPlaces p size (ks ++ trailer h y ∷ []) (emptied_in bytes p h.id size)
places_trailer p b size ks h y bytes is numbered none len has k j one here low high below = go (cases_Bool (h.id == k)) where
  x : StreamPacket
  x = trailer h y

  c : Covers (payload_start p k) p j
  c = record { low = low; high = high }

  pushed : placed p (ks ++ x ∷ []) j ≡ placed p ks j
  pushed = placed-push_none p ks x j refl

  beside : (h.id == k) ≡ false → (nat_le 1 h.id ≡ true) ⊎ (nat_le 1 h.id ≡ false) → get_or (emptied_in bytes p h.id size) j 0 ≡ get_or bytes j 0
  beside other (inl first) =
      ap (λ bs. get_or bs j 0) (cond-true (nat_le 1 h.id) (zeros_put bytes (payload_start p h.id) p size) bytes first)
      ∙ zeros_beside bytes (payload_start p h.id) p size j len below (apart p k h.id j one (leb-true 1 h.id first) other c)
  beside other (inr no_place) = ap (λ bs. get_or bs j 0) (cond-false (nat_le 1 h.id) (zeros_put bytes (payload_start p h.id) p size) bytes no_place)

  go : ((h.id == k) ≡ true) ⊎ ((h.id == k) ≡ false) → get_or (emptied_in bytes p h.id size) j 0 ≡ unwrap_or (placed p (ks ++ x ∷ []) j) 0
  go (inr other) = beside other (cases_Bool (nat_le 1 h.id)) ∙ has k j one (older k ks x other here) low high below ∙ ap (λ o. unwrap_or o 0) (sym pushed)
  go (inl same) =
      let is_k : h.id ≡ k = eqb-true h.id k same in
      let first : nat_le 1 h.id ≡ true = le-leb 1 h.id (omega (arith, is_k, one)) in
      let free : placed p ks j ≡ None = placed-free p b ks k j is.of_block numbered (subst (λ m. has_id m ks ≡ false) is_k none) one c in
      ap (λ bs. get_or bs j 0) (cond-true (nat_le 1 h.id) (zeros_put bytes (payload_start p h.id) p size) bytes first)
      ∙ zeros_inside bytes (payload_start p h.id) p size j len below (subst (λ m. payload_start p m ≤ j) (sym is_k) low) (subst (λ m. j < payload_start p m + p) (sym is_k) high)
      ∙ ap (λ o. unwrap_or o 0) (sym (pushed ∙ free))

pub places_payload : (p b size : ℕ) (ks : List StreamPacket) (h : Head) (d bytes : List ℕ) → Fresh p b ks h d → length bytes ≡ size → HasPlaces p size ks bytes
    → HasPlaces p size (ks ++ payload h d ∷ []) (placed_in bytes p size (payload_start p h.id) d)
places_payload p b size ks h d bytes f len has k j one here low high below = go (cases_Bool (h.id == k)) where
  x : StreamPacket
  x = payload h d

  start : ℕ
  start = payload_start p h.id

  c : Covers (payload_start p k) p j
  c = record { low = low; high = high }

  outside : (j < start) ⊎ (start + p ≤ j) → (covers start (length d) j ≡ true) ⊎ (covers start (length d) j ≡ false) → covers start (length d) j ≡ false
  outside out (inr apart_from) = apart_from
  outside (inl before) (inl both) = let parts = covers_parts start (length d) j both in absurd (omega (arith, parts.low))
  outside (inr after) (inl both) = let parts = covers_parts start (length d) j both in absurd (omega (arith, parts.high, f.fits))

  inside : h.id ≡ k → (j < start + length d) ⊎ (start + length d ≤ j) → get_or (placed_in bytes p size start d) j 0 ≡ unwrap_or (placed p (ks ++ x ∷ []) j) 0
  inside same which =
      let low_here : start ≤ j = subst (λ m. payload_start p m ≤ j) (sym same) low in
      let high_here : j < start + p = subst (λ m. j < payload_start p m + p) (sym same) high in
      let free : placed p ks j ≡ None = placed-free p b ks h.id j f.may f.numbered f.new_id f.one (record { low = low_here; high = high_here }) in
      let now : placed p (ks ++ x ∷ []) j ≡ byte_from p x j = placed-push p ks x j ∙ ap (λ o. first_some o (byte_from p x j)) free in
      here_is low_here high_here now which
    where
      covers_of : start ≤ j → j < start + length d → covers start (length d) j ≡ true
      covers_of l u = covers_from start (length d) j l u

      past : start + length d ≤ j → (covers start (length d) j ≡ true) ⊎ (covers start (length d) j ≡ false) → covers start (length d) j ≡ false
      past more (inr none) = none
      past more (inl both) = let parts = covers_parts start (length d) j both in absurd (omega (arith, parts.high))

      here_is : start ≤ j → j < start + p → placed p (ks ++ x ∷ []) j ≡ byte_from p x j → (j < start + length d) ⊎ (start + length d ≤ j)
          → get_or (placed_in bytes p size start d) j 0 ≡ unwrap_or (placed p (ks ++ x ∷ []) j) 0
      here_is low_here high_here now (inl less) =
          placed_inside bytes p size start d j len below low_here less
          ∙ ap (λ o. unwrap_or o 0) (sym (now ∙ byte_from-inside p h d j (covers_of low_here less)))
      here_is low_here high_here now (inr more) =
          placed_behind bytes p size start d j len below more high_here
          ∙ ap (λ o. unwrap_or o 0) (sym (now ∙ byte_from-outside p h d j (past more (cases_Bool (covers start (length d) j)))))

  go : ((h.id == k) ≡ true) ⊎ ((h.id == k) ≡ false) → get_or (placed_in bytes p size start d) j 0 ≡ unwrap_or (placed p (ks ++ x ∷ []) j) 0
  go (inl same) = inside (eqb-true h.id k same) (cases_lt j (start + length d))
  go (inr other) =
      let out = apart p k h.id j one f.one other c in
      placed_beside bytes p size start d j f.fits len below out
      ∙ has k j one (older k ks x other here) low high below
      ∙ ap (λ o. unwrap_or o 0) (sym (placed-push_none p ks x j (byte_from-outside p h d j (outside out (cases_Bool (covers start (length d) j))))))

-- ---- when the block retires

pub zeroes_none : (there : ℕ → Bool) (p : ℕ) (bytes : List ℕ) → Zeroes there p 1 bytes bytes
zeroes_none there p bytes = record {
  size = refl;
  stays = λ k j one here low high below. refl;
  zero = λ k j one less gone low high below. absurd (omega (arith, one, less));
}

pub zeroes_more : (there : ℕ → Bool) (p from to : ℕ) (old now new : List ℕ) (r : ℕ × ℕ) → 1 ≤ from → Zeroes there p from old now → IsLowestHole there from to r
    → new ≡ places_zeroed p r.0 r.1 now → Zeroes there p (r.1 + 1) old new
zeroes_more there p from to old now new r first z hole is =
    subst (Zeroes there p (r.1 + 1) old) (sym is) (record { size = sized; stays = stays; zero = zero })
  where
    start : ℕ
    start = min (payload_start p r.0) (length now)

    count : ℕ
    count = min (payload_start p r.1 + p) (length now) - start

    sized : length (places_zeroed p r.0 r.1 now) ≡ length old
    sized = length-put_at now start (replicate count 0) ∙ z.size

    upward : payload_start p r.0 ≤ payload_start p r.1
    upward = start_le p r.0 r.1 hole.hole.rises

    before : (j : ℕ) → j < payload_start p r.0 → j < length now → get_or (places_zeroed p r.0 r.1 now) j 0 ≡ get_or now j 0
    before j low below = get_or-put_at_before now start (replicate count 0) j (omega arith) below

    after : (j : ℕ) → payload_start p r.1 + p ≤ j → j < length now → get_or (places_zeroed p r.0 r.1 now) j 0 ≡ get_or now j 0
    after j high below = get_or-put_at_after now start (replicate count 0) j (omega (arith, length-replicate {A = ℕ} count 0, upward)) below

    stays : (k j : ℕ) → 1 ≤ k → there k ≡ true → payload_start p k ≤ j → j < payload_start p k + p → j < length old → get_or (places_zeroed p r.0 r.1 now) j 0 ≡ get_or old j 0
    stays k j one here low high below = which (cases_lt k r.0) (cases_lt r.1 k) ∙ z.stays k j one here low high below where
      inside : j < length now
      inside = omega (arith, z.size)

      which : (k < r.0) ⊎ (r.0 ≤ k) → (r.1 < k) ⊎ (k ≤ r.1) → get_or (places_zeroed p r.0 r.1 now) j 0 ≡ get_or now j 0
      which (inl less) other = before j (omega (arith, start_lt p k r.0 one less)) inside
      which (inr more) (inl above) = after j (omega (arith, start_lt p r.1 k (omega (arith, first, hole.hole.begins, hole.hole.rises)) above)) inside
      which (inr more) (inr within) = absurd (false≢true (sym (hole.hole.clear k more within) ∙ here))

    zero : (k j : ℕ) → 1 ≤ k → k < r.1 + 1 → there k ≡ false → payload_start p k ≤ j → j < payload_start p k + p → j < length old → get_or (places_zeroed p r.0 r.1 now) j 0 ≡ 0
    zero k j one less gone low high below = which (cases_lt k r.0) (cases_lt k from) where
      inside : j < length now
      inside = omega (arith, z.size)

      which : (k < r.0) ⊎ (r.0 ≤ k) → (k < from) ⊎ (from ≤ k) → get_or (places_zeroed p r.0 r.1 now) j 0 ≡ 0
      which (inl under) (inl older_one) = before j (omega (arith, start_lt p k r.0 one under)) inside ∙ z.zero k j one older_one gone low high below
      which (inl under) (inr from_on) = absurd (false≢true (sym gone ∙ hole.lowest k from_on under))
      which (inr more) other =
          get_or-put_at_inside now start (replicate count 0) j (omega (arith, start_le p r.0 k more))
          (omega (arith, length-replicate {A = ℕ} count 0, start_le p r.0 k more, start_le p k r.1 (omega (arith, less)))) inside
          ∙ get_or-replicate count (j - start) 0 0 (omega (arith, start_le p r.0 k more, start_le p k r.1 (omega (arith, less))))

pub zeroes_all : (there : ℕ → Bool) (p from to : ℕ) (old now : List ℕ) → Zeroes there p from old now → ((k : ℕ) → from ≤ k → k < to → there k ≡ true) → Zeroes there p to old now
zeroes_all there p from to old now z rest = record { size = z.size; stays = z.stays; zero = zero } where
  zero : (k j : ℕ) → 1 ≤ k → k < to → there k ≡ false → payload_start p k ≤ j → j < payload_start p k + p → j < length old → get_or now j 0 ≡ 0
  zero k j one less gone low high below = which (cases_lt k from) where
    which : (k < from) ⊎ (from ≤ k) → get_or now j 0 ≡ 0
    which (inl under) = z.zero k j one under gone low high below
    which (inr from_on) = absurd (false≢true (sym gone ∙ rest k from_on less))

-- the image, once the places of what isn't there are zero
pub image_left : (p b size : ℕ) (ks : List StreamPacket) (old new : List ℕ) (there : ℕ → Bool) → IsPayloadSize p → IsKept p b ks → ArePayloadsNumbered ks
    → ((k : ℕ) → there k ≡ has_id k ks) → length old ≡ size → HasPlaces p size ks old → Zeroes there p (payload_count p (length old) + 1) old new
    → new ≡ image_bytes p ks size
image_left p b size ks old new there sized is numbered same len has z =
    ext_get_or 0 new (image_bytes p ks size) (z.size ∙ len ∙ sym (length-image_bytes p ks size)) each
  where
    byte : (j : ℕ) → j < size → get_or new j 0 ≡ unwrap_or (placed p ks j) 0
    byte j below = which (cases_Bool (there k)) where
      k : ℕ
      k = j / p + 1

      one_p : 1 ≤ p
      one_p = omega (arith, sized.at_least)

      c : Covers (payload_start p k) p j
      c = let s = start_at p j one_p in record { low = s.0; high = s.1 }

      within : j < length old
      within = omega (arith, len)

      which : (there k ≡ true) ⊎ (there k ≡ false) → get_or new j 0 ≡ unwrap_or (placed p ks j) 0
      which (inl here) = z.stays k j (omega arith) here c.low c.high within ∙ has k j (omega arith) (sym (same k) ∙ here) c.low c.high below
      which (inr gone) =
          z.zero k j (omega arith) (omega (arith, payload_at p (length old) j one_p within)) gone c.low c.high within
          ∙ ap (λ o. unwrap_or o 0) (sym (placed-free p b ks k j is.of_block numbered (sym (same k) ∙ gone) (omega arith) c))

    each : (j : ℕ) → j < length new → get_or new j 0 ≡ get_or (image_bytes p ks size) j 0
    each j inside =
        let below : j < size = omega (arith, z.size, len) in
        byte j below ∙ sym (get_or-image_bytes p ks size j below)
