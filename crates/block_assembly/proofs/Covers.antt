-- All payloads of an image are there exactly where their ids were kept and no short one stands against it.
use Rattle.std.proofs.Common.{◌≡◌, ◌⊎◌, inl, inr, ℕ, zero, suc, ◌+◌, ◌-◌, ◌*◌, ◌<◌, ◌≤◌, List, [], ◌∷◌, length, true, false, Option, Some, None, refl, sym, ◌∙◌, ap, subst, arith}
use Rattle.std.specs.Prelude.{◌==◌, ◌&&◌, ◌||◌, nat_lt, nat_le}
use Rattle.std.specs.List.{AllByRecursion}
use Rattle.std.proofs.Math.Nat.{mul-le-mul_left}
use Rattle.std.proofs.lemmas.Bool.{cases_Bool, cases_eq, cases_lt, cases_order, eq-eqb, ne_eqb, eqb-true, lt-ltb, le-ltb, ltb-true, ltb-false, le-leb, or_cases, or_parts, or_left, or_right, and_parts, and_from, and_left, and_right, cond-true, cond-false, false≢true}
use Rattle.stream_packets.specs.declared.fields.Head.{Head}
use Rattle.stream_packets.specs.Packets.{StreamPacket, leader, payload, trailer, notice}
use Rattle.stream_packets.specs.FramePackets.{payload_count, payload_start}
use Rattle.block_image.specs.Kept.{has_id, has_trailer}
use Rattle.block_image.specs.Image.{is_long_enough, has_payload, has_payloads, has_trailer_at}
use Rattle.block_image.specs.KeptFacts.{HasDistinctIds, HasOneTrailer, may_keep, IsKept, ArePayloadsNumbered, AreLeadersFirst}
use Rattle.block_image.proofs.Bools.{or_false}
use Rattle.block_image.proofs.Completeness.{has_payload-none}
use Rattle.block_image.proofs.IsKept.{may_keep-payload, may_keep_parts}
use Rattle.block_assembly.specs.declared.progress.Short.{Short}
use Rattle.block_assembly.specs.Shortest.{IsFull, IsShortFrom, has_short, IsShortest, are_long}
use Rattle.block_assembly.proofs.Counts.{as_many}

-- how many bytes an image leaves for its last payload
count_high : (p len : ℕ) → 1 ≤ p → len ≤ p * payload_count p len
count_high p len some = omega arith

next_multiple : (p m : ℕ) → m * p + p ≡ p * (m + 1)
next_multiple p m = omega arith

pub rest_fits : (p len k : ℕ) → 1 ≤ p → payload_count p len ≤ k → len - payload_start p k ≤ p
rest_fits p len zero some more =
    let product : p * payload_count p len ≤ p * 0 = mul-le-mul_left p more in
    omega (arith, count_high p len some, product)
rest_fits p len (suc m) some more =
    let product : p * payload_count p len ≤ p * suc m = mul-le-mul_left p more in
    let start : payload_start p (suc m) + p ≡ p * (m + 1) = let same : suc m - 1 ≡ m = omega arith in ap (λ i. i * p + p) same ∙ next_multiple p m in
    let one : suc m ≡ m + 1 = omega arith in
    let bound : p * payload_count p len ≤ p * (m + 1) = subst (λ n. p * payload_count p len ≤ p * n) one product in
    omega (arith, count_high p len some, bound, start)

-- what `is_long_enough` is before the last payload, and at it
long_before : (p len k got : ℕ) → k < payload_count p len → is_long_enough p len k got ≡ (got == p)
long_before p len k got less = cond-true (nat_lt k (payload_count p len)) (got == p) (nat_le (len - payload_start p k) got) (lt-ltb k (payload_count p len) less)

long_at_last : (p len k got : ℕ) → payload_count p len ≤ k → is_long_enough p len k got ≡ nat_le (len - payload_start p k) got
long_at_last p len k got more = cond-false (nat_lt k (payload_count p len)) (got == p) (nat_le (len - payload_start p k) got) (le-ltb k (payload_count p len) more)

-- a full payload is always long enough
full_is_long : (p len k : ℕ) → 1 ≤ p → is_long_enough p len k p ≡ true
full_is_long p len k some = go (cases_lt k (payload_count p len)) where
  go : (k < payload_count p len) ⊎ (payload_count p len ≤ k) → is_long_enough p len k p ≡ true
  go (inl less) = long_before p len k p less ∙ eq-eqb p p refl
  go (inr more) = long_at_last p len k p more ∙ le-leb (len - payload_start p k) p (rest_fits p len k some more)

-- what a short payload has: its id, fewer than p bytes, and, as each payload, an id from 1 on
pub short_id : (p : ℕ) (s : Short) (ks : List StreamPacket) → has_short p s ks ≡ true → has_id s.id ks ≡ true
short_id p s [] there = absurd (false≢true there)
short_id p s (leader h i ∷ xs) there = or_right (h.id == s.id) (has_id s.id xs) (short_id p s xs there)
short_id p s (payload h d ∷ xs) there = go (or_cases (h.id == s.id && length d == s.len && nat_lt (length d) p) (has_short p s xs) there) (λ rest. short_id p s xs rest) where
  go : ((h.id == s.id && length d == s.len && nat_lt (length d) p) ≡ true) ⊎ (has_short p s xs ≡ true) → (has_short p s xs ≡ true → has_id s.id xs ≡ true) → ((h.id == s.id) || has_id s.id xs) ≡ true
  go (inl here) later = or_left (h.id == s.id) (has_id s.id xs) (and_parts (h.id == s.id) (length d == s.len) (and_parts (h.id == s.id && length d == s.len) (nat_lt (length d) p) here).0).0
  go (inr rest) later = or_right (h.id == s.id) (has_id s.id xs) (later rest)
short_id p s (trailer h y ∷ xs) there = or_right (h.id == s.id) (has_id s.id xs) (short_id p s xs there)
short_id p s (notice h ∷ xs) there = or_right (h.id == s.id) (has_id s.id xs) (short_id p s xs there)

pub short_is_short : (p : ℕ) (s : Short) (ks : List StreamPacket) → has_short p s ks ≡ true → s.len < p
short_is_short p s [] there = absurd (false≢true there)
short_is_short p s (leader h i ∷ xs) there = short_is_short p s xs there
short_is_short p s (payload h d ∷ xs) there = go (or_cases (h.id == s.id && length d == s.len && nat_lt (length d) p) (has_short p s xs) there) (λ rest. short_is_short p s xs rest) where
  go : ((h.id == s.id && length d == s.len && nat_lt (length d) p) ≡ true) ⊎ (has_short p s xs ≡ true) → (has_short p s xs ≡ true → s.len < p) → s.len < p
  go (inl here) later =
      let parts = and_parts (h.id == s.id && length d == s.len) (nat_lt (length d) p) here in
      omega (arith, ltb-true (length d) p parts.1, eqb-true (length d) s.len (and_parts (h.id == s.id) (length d == s.len) parts.0).1)
  go (inr rest) later = later rest
short_is_short p s (trailer h y ∷ xs) there = short_is_short p s xs there
short_is_short p s (notice h ∷ xs) there = short_is_short p s xs there

pub short_is_numbered : (p : ℕ) (s : Short) (ks : List StreamPacket) → ArePayloadsNumbered ks → has_short p s ks ≡ true → 1 ≤ s.id
short_is_numbered p s [] numbered there = absurd (false≢true there)
short_is_numbered p s (leader h i ∷ xs) numbered there = short_is_numbered p s xs numbered.1 there
short_is_numbered p s (payload h d ∷ xs) numbered there = go (or_cases (h.id == s.id && length d == s.len && nat_lt (length d) p) (has_short p s xs) there) (λ rest. short_is_numbered p s xs numbered.1 rest) where
  go : ((h.id == s.id && length d == s.len && nat_lt (length d) p) ≡ true) ⊎ (has_short p s xs ≡ true) → (has_short p s xs ≡ true → 1 ≤ s.id) → 1 ≤ s.id
  go (inl here) later =
      omega (arith, numbered.0, eqb-true h.id s.id (and_parts (h.id == s.id) (length d == s.len) (and_parts (h.id == s.id && length d == s.len) (nat_lt (length d) p) here).0).0)
  go (inr rest) later = later rest
short_is_numbered p s (trailer h y ∷ xs) numbered there = short_is_numbered p s xs numbered.1 there
short_is_numbered p s (notice h ∷ xs) numbered there = short_is_numbered p s xs numbered.1 there

-- the short payload with its id tells whether that payload is long enough
pub at_short : (p len : ℕ) (s : Short) (ks : List StreamPacket) → HasDistinctIds ks → has_short p s ks ≡ true → has_payload p len s.id ks ≡ is_long_enough p len s.id s.len
at_short p len s [] distinct there = absurd (false≢true there)
at_short p len s (leader h i ∷ xs) distinct there = at_short p len s xs distinct.1 there
at_short p len s (payload h d ∷ xs) distinct there = go (at_short p len s xs distinct.1) (or_cases (h.id == s.id && length d == s.len && nat_lt (length d) p) (has_short p s xs) there) where
  go : (has_short p s xs ≡ true → has_payload p len s.id xs ≡ is_long_enough p len s.id s.len)
      → ((h.id == s.id && length d == s.len && nat_lt (length d) p) ≡ true) ⊎ (has_short p s xs ≡ true)
      → (h.id == s.id && is_long_enough p len s.id (length d) || has_payload p len s.id xs) ≡ is_long_enough p len s.id s.len
  go later (inl here) =
      let both = and_parts (h.id == s.id) (length d == s.len) (and_parts (h.id == s.id && length d == s.len) (nat_lt (length d) p) here).0 in
      let alone : has_payload p len s.id xs ≡ false = has_payload-none p len s.id xs (subst (λ k. has_id k xs ≡ false) (eqb-true h.id s.id both.0) distinct.0) in
      let same : length d ≡ s.len = eqb-true (length d) s.len both.1 in
      ap (λ b. b && is_long_enough p len s.id (length d) || has_payload p len s.id xs) both.0
      ∙ ap (λ b. is_long_enough p len s.id (length d) || b) alone
      ∙ or_false (is_long_enough p len s.id (length d))
      ∙ ap (is_long_enough p len s.id) same
  go later (inr rest) =
      let other : (h.id == s.id) ≡ false = ne_eqb h.id s.id (λ same. absurd (false≢true (sym (subst (λ k. has_id k xs ≡ false) same distinct.0) ∙ short_id p s xs rest))) in
      ap (λ b. b && is_long_enough p len s.id (length d) || has_payload p len s.id xs) other ∙ later rest
at_short p len s (trailer h y ∷ xs) distinct there = at_short p len s xs distinct.1 there
at_short p len s (notice h ∷ xs) distinct there = at_short p len s xs distinct.1 there

-- a trailer has this id
abbrev pub IsTrailerWith : ℕ → StreamPacket → Type 0
IsTrailerWith m (leader h i) = Unit {0}
IsTrailerWith m (payload h d) = Unit {0}
IsTrailerWith m (trailer h y) = h.id ≡ m
IsTrailerWith m (notice h) = Unit {0}

no_trailers : (m : ℕ) (ks : List StreamPacket) → has_trailer ks ≡ false → AllByRecursion (IsTrailerWith m) ks
no_trailers m [] none = tt
no_trailers m (leader h i ∷ xs) none = (tt, no_trailers m xs none)
no_trailers m (payload h d ∷ xs) none = (tt, no_trailers m xs none)
no_trailers m (trailer h y ∷ xs) none = absurd (false≢true (sym none))
no_trailers m (notice h ∷ xs) none = (tt, no_trailers m xs none)

no_trailer_at : (k : ℕ) (ks : List StreamPacket) → has_trailer ks ≡ false → has_trailer_at k ks ≡ false
no_trailer_at k [] h = refl
no_trailer_at k (leader g i ∷ ks) h = no_trailer_at k ks h
no_trailer_at k (payload g d ∷ ks) h = no_trailer_at k ks h
no_trailer_at k (trailer g y ∷ ks) h = absurd (false≢true (sym h))
no_trailer_at k (notice g ∷ ks) h = no_trailer_at k ks h

-- where a trailer with this id is kept, there is no other
trailers_at : (m : ℕ) (ks : List StreamPacket) → HasOneTrailer ks → has_trailer_at m ks ≡ true → AllByRecursion (IsTrailerWith m) ks
trailers_at m [] one there = tt
trailers_at m (leader h i ∷ xs) one there = (tt, trailers_at m xs one.1 there)
trailers_at m (payload h d ∷ xs) one there = (tt, trailers_at m xs one.1 there)
trailers_at m (trailer h y ∷ xs) one there =
    let none : has_trailer xs ≡ false = one.0 in
    let here : (h.id == m) ≡ true = sym (or_false (h.id == m)) ∙ ap (λ b. (h.id == m) || b) (sym (no_trailer_at m xs none)) ∙ there in
    (eqb-true h.id m here, no_trailers m xs none)
trailers_at m (notice h ∷ xs) one there = (tt, trailers_at m xs one.1 there)

pub trailer_has_id : (m : ℕ) (ks : List StreamPacket) → has_trailer_at m ks ≡ true → has_id m ks ≡ true
trailer_has_id m [] there = absurd (false≢true there)
trailer_has_id m (leader h i ∷ xs) there = or_right (h.id == m) (has_id m xs) (trailer_has_id m xs there)
trailer_has_id m (payload h d ∷ xs) there = or_right (h.id == m) (has_id m xs) (trailer_has_id m xs there)
trailer_has_id m (trailer h y ∷ xs) there = go (or_cases (h.id == m) (has_trailer_at m xs) there) (λ rest. trailer_has_id m xs rest) where
  go : ((h.id == m) ≡ true) ⊎ (has_trailer_at m xs ≡ true) → (has_trailer_at m xs ≡ true → has_id m xs ≡ true) → ((h.id == m) || has_id m xs) ≡ true
  go (inl here) later = or_left (h.id == m) (has_id m xs) here
  go (inr rest) later = or_right (h.id == m) (has_id m xs) (later rest)
trailer_has_id m (notice h ∷ xs) there = or_right (h.id == m) (has_id m xs) (trailer_has_id m xs there)

-- a payload with the id k is as long as it has to be
abbrev pub IsLongAt : ℕ → ℕ → ℕ → StreamPacket → Type 0
IsLongAt p len k (leader h i) = Unit {0}
IsLongAt p len k (payload h d) = h.id ≡ k → is_long_enough p len k (length d) ≡ true
IsLongAt p len k (trailer h y) = Unit {0}
IsLongAt p len k (notice h) = Unit {0}

abbrev pub MayAll : ℕ → ℕ → List StreamPacket → Type 0
MayAll p b ks = AllByRecursion (λ x. may_keep p b x ≡ true) ks

-- the packet with the id k is a payload, and so payload k is there
long_at : (p b len k m : ℕ) (ks : List StreamPacket) → 1 ≤ k → k < m → MayAll p b ks → AreLeadersFirst ks → AllByRecursion (IsTrailerWith m) ks → AllByRecursion (IsLongAt p len k) ks → has_id k ks ≡ true → has_payload p len k ks ≡ true
long_at p b len k m [] one less may leaders trailers longs there = absurd (false≢true there)
long_at p b len k m (leader h i ∷ xs) one less may leaders trailers longs there =
    elim (or_cases (h.id == k) (has_id k xs) there) [
      | inl here ↦ absurd (omega (arith, eqb-true h.id k here, leaders.0))
      | inr rest ↦ long_at p b len k m xs one less may.1 leaders.1 trailers.1 longs.1 rest
    ]
long_at p b len k m (payload h d ∷ xs) one less may leaders trailers longs there =
    elim (or_cases (h.id == k) (has_id k xs) there) [
      | inl here ↦
          or_left (h.id == k && is_long_enough p len k (length d)) (has_payload p len k xs)
          (and_from (h.id == k) (is_long_enough p len k (length d)) here (longs.0 (eqb-true h.id k here)))
      | inr rest ↦
          or_right (h.id == k && is_long_enough p len k (length d)) (has_payload p len k xs)
          (long_at p b len k m xs one less may.1 leaders.1 trailers.1 longs.1 rest)
    ]
long_at p b len k m (trailer h y ∷ xs) one less may leaders trailers longs there =
    elim (or_cases (h.id == k) (has_id k xs) there) [
      | inl here ↦ absurd (omega (arith, eqb-true h.id k here, trailers.0))
      | inr rest ↦ long_at p b len k m xs one less may.1 leaders.1 trailers.1 longs.1 rest
    ]
long_at p b len k m (notice h ∷ xs) one less may leaders trailers longs there = absurd (false≢true (sym (may_keep_parts p b (notice h) may.0).no_notice))

long_if_full : (p b len k : ℕ) (h : Head) (d : List ℕ) → 1 ≤ p → may_keep p b (payload h d) ≡ true → p ≤ length d → is_long_enough p len k (length d) ≡ true
long_if_full p b len k h d some may full =
    let same : length d ≡ p = omega (arith, may_keep-payload p b h d may) in
    ap (is_long_enough p len k) same ∙ full_is_long p len k some

pub longs_none : (p b len k : ℕ) (ks : List StreamPacket) → 1 ≤ p → MayAll p b ks → AllByRecursion (IsFull p) ks → AllByRecursion (IsLongAt p len k) ks
longs_none p b len k [] some may full = tt
longs_none p b len k (leader h i ∷ xs) some may full = (tt, longs_none p b len k xs some may.1 full.1)
longs_none p b len k (payload h d ∷ xs) some may full = ((λ same. long_if_full p b len k h d some may.0 full.0), longs_none p b len k xs some may.1 full.1)
longs_none p b len k (trailer h y ∷ xs) some may full = (tt, longs_none p b len k xs some may.1 full.1)
longs_none p b len k (notice h ∷ xs) some may full = (tt, longs_none p b len k xs some may.1 full.1)

long_below : (p b len k low : ℕ) (h : Head) (d : List ℕ) → 1 ≤ p → k < low → may_keep p b (payload h d) ≡ true → IsShortFrom p low (payload h d) → h.id ≡ k → is_long_enough p len k (length d) ≡ true
long_below p b len k low h d some less may from same = go (cases_lt (length d) p) where
  go : (length d < p) ⊎ (p ≤ length d) → is_long_enough p len k (length d) ≡ true
  go (inl short) = let above : low ≤ h.id = from short in absurd (omega arith)
  go (inr full) = long_if_full p b len k h d some may full

pub longs_some : (p b len k low : ℕ) (ks : List StreamPacket) → 1 ≤ p → k < low → MayAll p b ks → AllByRecursion (IsShortFrom p low) ks → AllByRecursion (IsLongAt p len k) ks
longs_some p b len k low [] some less may from = tt
longs_some p b len k low (leader h i ∷ xs) some less may from = (tt, longs_some p b len k low xs some less may.1 from.1)
longs_some p b len k low (payload h d ∷ xs) some less may from = ((λ same. long_below p b len k low h d some less may.0 from.0 same), longs_some p b len k low xs some less may.1 from.1)
longs_some p b len k low (trailer h y ∷ xs) some less may from = (tt, longs_some p b len k low xs some less may.1 from.1)
longs_some p b len k low (notice h ∷ xs) some less may from = (tt, longs_some p b len k low xs some less may.1 from.1)

-- Kept packets of an image of len bytes, with its leader and its trailer.
pub record Ends (p b len : ℕ) (ks : List StreamPacket) (o : Option Short) : Type 0 where
  pub some : 1 ≤ p
  pub are_kept : IsKept p b ks
  pub numbered : ArePayloadsNumbered ks
  pub leaders : AreLeadersFirst ks
  pub shortest : IsShortest p ks o
  pub leader : has_id 0 ks ≡ true
  pub trailer : has_trailer_at (payload_count p len + 1) ks ≡ true

abbrev pub rest_of : ℕ → ℕ → ℕ
rest_of p len = len - payload_start p (payload_count p len)

-- payload k is there
payload_there : (p b len k : ℕ) (ks : List StreamPacket) (o : Option Short) → Ends p b len ks o → are_long (payload_count p len) (rest_of p len) o ≡ true → 1 ≤ k → k ≤ payload_count p len → has_id k ks ≡ true → has_payload p len k ks ≡ true
payload_there p b len k ks None e long one top there =
    long_at p b len k (payload_count p len + 1) ks one (omega arith) e.are_kept.of_block e.leaders (trailers_at (payload_count p len + 1) ks e.are_kept.one_trailer e.trailer)
    (longs_none p b len k ks e.some e.are_kept.of_block e.shortest) there
payload_there p b len k ks (Some s) e long one top there = go (or_cases (nat_lt (payload_count p len) s.id) (s.id == payload_count p len && nat_le (rest_of p len) s.len) long) (cases_eq k s.id) where
  before : k < s.id → has_payload p len k ks ≡ true
  before less =
      long_at p b len k (payload_count p len + 1) ks one (omega arith) e.are_kept.of_block e.leaders (trailers_at (payload_count p len + 1) ks e.are_kept.one_trailer e.trailer)
      (longs_some p b len k s.id ks e.some less e.are_kept.of_block e.shortest.lowest) there

  go : (nat_lt (payload_count p len) s.id ≡ true) ⊎ ((s.id == payload_count p len && nat_le (rest_of p len) s.len) ≡ true) → (k ≡ s.id) ⊎ (k ≡ s.id → ⊥) → has_payload p len k ks ≡ true
  go (inl past) same = before (omega (arith, ltb-true (payload_count p len) s.id past))
  go (inr last) (inl same) =
      let parts = and_parts (s.id == payload_count p len) (nat_le (rest_of p len) s.len) last in
      let at : s.id ≡ payload_count p len = eqb-true s.id (payload_count p len) parts.0 in
      ap (λ i. has_payload p len i ks) same ∙ at_short p len s ks e.are_kept.distinct e.shortest.there
      ∙ long_at_last p len s.id s.len (omega arith) ∙ ap (λ i. nat_le (len - payload_start p i) s.len) at ∙ parts.1
  go (inr last) (inr other) =
      let parts = and_parts (s.id == payload_count p len) (nat_le (rest_of p len) s.len) last in
      let at : s.id ≡ payload_count p len = eqb-true s.id (payload_count p len) parts.0 in
      before (below at)
    where
      below : s.id ≡ payload_count p len → k < s.id
      below at = go_below (cases_order k s.id) where
        go_below : (k ≡ s.id) ⊎ ((k < s.id) ⊎ (s.id < k)) → k < s.id
        go_below (inl same) = absurd (other same)
        go_below (inr (inl less)) = less
        go_below (inr (inr more)) = absurd (omega arith)

payloads_from : (p len n : ℕ) (ks : List StreamPacket) → ((k : ℕ) → 1 ≤ k → k ≤ n → has_payload p len k ks ≡ true) → has_payloads p len n ks ≡ true
payloads_from p len zero ks all = refl
payloads_from p len (suc n) ks all =
    and_from (has_payloads p len n ks) (has_payload p len (suc n) ks) (payloads_from p len n ks (λ k one top. all k one (omega arith))) (all (suc n) (omega arith) (omega arith))

payloads_miss : (p len n k : ℕ) (ks : List StreamPacket) → 1 ≤ k → k ≤ n → has_payload p len k ks ≡ false → has_payloads p len n ks ≡ false
payloads_miss p len zero k ks one top none = absurd (omega arith)
payloads_miss p len (suc n) k ks one top none =
    elim (cases_eq k (suc n)) [
      | inl same ↦ and_right (has_payloads p len n ks) (has_payload p len (suc n) ks) (subst (λ i. has_payload p len i ks ≡ false) same none)
      | inr other ↦ and_left (has_payloads p len n ks) (has_payload p len (suc n) ks) (payloads_miss p len n k ks one (at_most k n top other) none)
    ]
  where
    at_most : (k n : ℕ) → k ≤ suc n → (k ≡ suc n → ⊥) → k ≤ n
    at_most k n top other = elim (cases_lt n k) [ inl more ↦ absurd (other (omega arith)) | inr below ↦ below ]

-- a short payload that isn't the last spoils the image, and so does a last one that is too short
short_spoils : (p b len : ℕ) (ks : List StreamPacket) (o : Option Short) → Ends p b len ks o → are_long (payload_count p len) (rest_of p len) o ≡ false → has_payloads p len (payload_count p len) ks ≡ false
short_spoils p b len ks None e long = absurd (false≢true (sym long))
short_spoils p b len ks (Some s) e long =
    payloads_miss p len (payload_count p len) s.id ks (short_is_numbered p s ks e.numbered e.shortest.there) within
    (at_short p len s ks e.are_kept.distinct e.shortest.there ∙ too_short (cases_lt s.id (payload_count p len)))
  where
    parts : (nat_lt (payload_count p len) s.id ≡ false) × ((s.id == payload_count p len && nat_le (rest_of p len) s.len) ≡ false)
    parts = or_parts (nat_lt (payload_count p len) s.id) (s.id == payload_count p len && nat_le (rest_of p len) s.len) long

    within : s.id ≤ payload_count p len
    within = ltb-false (payload_count p len) s.id parts.0

    too_short : (s.id < payload_count p len) ⊎ (payload_count p len ≤ s.id) → is_long_enough p len s.id s.len ≡ false
    too_short (inl less) = long_before p len s.id s.len less ∙ ne_eqb s.len p (λ same. omega (arith, short_is_short p s ks e.shortest.there))
    too_short (inr more) =
        let at : s.id ≡ payload_count p len = omega (arith, within) in
        long_at_last p len s.id s.len more ∙ ap (λ i. nat_le (len - payload_start p i) s.len) at
        ∙ sym (ap (λ b. b && nat_le (rest_of p len) s.len) (eq-eqb s.id (payload_count p len) at)) ∙ parts.1

-- each id was kept
pub covered_is : (p b len : ℕ) (ks : List StreamPacket) (o : Option Short) → Ends p b len ks o → ((k : ℕ) → k ≤ payload_count p len + 1 → has_id k ks ≡ true) → are_long (payload_count p len) (rest_of p len) o ≡ has_payloads p len (payload_count p len) ks
covered_is p b len ks o e all = go (cases_Bool (are_long (payload_count p len) (rest_of p len) o)) where
  go : (are_long (payload_count p len) (rest_of p len) o ≡ true) ⊎ (are_long (payload_count p len) (rest_of p len) o ≡ false) → are_long (payload_count p len) (rest_of p len) o ≡ has_payloads p len (payload_count p len) ks
  go (inl long) = long ∙ sym (payloads_from p len (payload_count p len) ks (λ k one top. payload_there p b len k ks o e long one top (all k (omega arith))))
  go (inr short) = short ∙ sym (short_spoils p b len ks o e short)

-- some id was not
pub uncovered_is : (p b len k : ℕ) (ks : List StreamPacket) (o : Option Short) → Ends p b len ks o → k ≤ payload_count p len + 1 → has_id k ks ≡ false → has_payloads p len (payload_count p len) ks ≡ false
uncovered_is p b len k ks o e top none = go (cases_eq k 0) (cases_eq k (payload_count p len + 1)) where
  go : (k ≡ 0) ⊎ (k ≡ 0 → ⊥) → (k ≡ payload_count p len + 1) ⊎ (k ≡ payload_count p len + 1 → ⊥) → has_payloads p len (payload_count p len) ks ≡ false
  go (inl first) rest = absurd (false≢true (sym none ∙ ap (λ i. has_id i ks) first ∙ e.leader))
  go (inr later) (inl last) = absurd (false≢true (sym none ∙ ap (λ i. has_id i ks) last ∙ trailer_has_id (payload_count p len + 1) ks e.trailer))
  go (inr later) (inr before) =
      payloads_miss p len (payload_count p len) k ks (above later) (below before) (has_payload-none p len k ks none)
    where
      above : (k ≡ 0 → ⊥) → 1 ≤ k
      above later = elim (cases_lt 0 k) [ inl more ↦ more | inr none_left ↦ absurd (later (omega arith)) ]

      below : (k ≡ payload_count p len + 1 → ⊥) → k ≤ payload_count p len
      below before = elim (cases_lt (payload_count p len) k) [ inl more ↦ absurd (before (omega arith)) | inr within ↦ within ]

pub payloads_each : (p len n k : ℕ) (ks : List StreamPacket) → has_payloads p len n ks ≡ true → 1 ≤ k → k ≤ n → has_payload p len k ks ≡ true
payloads_each p len n k ks all one top = elim (cases_Bool (has_payload p len k ks)) [
  | inl there ↦ there
  | inr none ↦ absurd (false≢true (sym (payloads_miss p len n k ks one top none) ∙ all))
]

pub payload_has_id : (p len k : ℕ) (ks : List StreamPacket) → has_payload p len k ks ≡ true → has_id k ks ≡ true
payload_has_id p len k ks there = elim (cases_Bool (has_id k ks)) [
  | inl has ↦ has
  | inr none ↦ absurd (false≢true (sym (has_payload-none p len k ks none) ∙ there))
]

-- fewer packets than an image takes hold none
pub few_is : (p b len : ℕ) (ks : List StreamPacket) (o : Option Short) → Ends p b len ks o → length ks < payload_count p len + 2 → has_payloads p len (payload_count p len) ks ≡ false
few_is p b len ks o e few = go (cases_Bool (has_payloads p len (payload_count p len) ks)) where
  each : has_payloads p len (payload_count p len) ks ≡ true → (k : ℕ) → k < payload_count p len + 2 → (k ≡ 0) ⊎ (k ≡ 0 → ⊥) → (k ≡ payload_count p len + 1) ⊎ (k ≡ payload_count p len + 1 → ⊥) → has_id k ks ≡ true
  each all k top (inl first) rest = ap (λ i. has_id i ks) first ∙ e.leader
  each all k top (inr later) (inl last) = ap (λ i. has_id i ks) last ∙ trailer_has_id (payload_count p len + 1) ks e.trailer
  each all k top (inr later) (inr before) =
      payload_has_id p len k ks (payloads_each p len (payload_count p len) k ks all (above later) (below before))
    where
      above : (k ≡ 0 → ⊥) → 1 ≤ k
      above later = elim (cases_lt 0 k) [ inl more ↦ more | inr none_left ↦ absurd (later (omega arith)) ]

      below : (k ≡ payload_count p len + 1 → ⊥) → k ≤ payload_count p len
      below before = elim (cases_lt (payload_count p len) k) [ inl more ↦ absurd (before (omega arith)) | inr within ↦ within ]

  go : (has_payloads p len (payload_count p len) ks ≡ true) ⊎ (has_payloads p len (payload_count p len) ks ≡ false) → has_payloads p len (payload_count p len) ks ≡ false
  go (inr none) = none
  go (inl all) =
      absurd (omega (arith, as_many (payload_count p len + 2) ks (λ k top. each all k top (cases_eq k 0) (cases_eq k (payload_count p len + 1)))))
