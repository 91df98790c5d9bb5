-- What bitmap, trailer and shortest payload tell of an image's payloads.
use Rattle.std.proofs.Common.{◌≡◌, ◌⊎◌, inl, inr, ℕ, zero, suc, ◌-◌, ◌<◌, ◌≤◌, List, [], ◌∷◌, length, Bool, true, false, Option, Some, None, refl, sym, ◌∙◌, ap, subst, arith}
use Rattle.std.specs.Prelude.{◌==◌, ◌&&◌, ◌||◌, not, nat_lt, nat_le}
use Rattle.std.specs.List.{AllByRecursion}
use Rattle.std.proofs.lemmas.Bool.{cases_Bool, cases_eq, cases_lt, eq-eqb, ne_eqb, eqb-true, leb-true, lt-ltb, le-ltb, le-leb, lt-leb, and_parts, and_from, and_left, and_right, or_cases, or_from, or_left, or_right, not-true, not_from_true, false≢true}
use Rattle.stream_packets.specs.Packets.{StreamPacket, leader, payload, trailer, notice}
use Rattle.stream_packets.specs.FramePackets.{payload_count, payload_start}
use Rattle.block_image.specs.Kept.{has_id}
use Rattle.block_image.specs.KeptFacts.{HasDistinctIds, IsKept, ArePayloadsNumbered, AreLeadersFirst}
use Rattle.block_image.specs.Image.{is_long_enough, has_trailer_at}
use Rattle.block_image.proofs.IsKept.{may_keep_parts, may_keep-payload}
use Rattle.packet_bitmap.specs.Bits.{has}
use Rattle.missing_ranges.specs.Reasons.{has_payload_at, has_payloads_to, place_of, is_short_at, has_short_to}
use Rattle.missing_ranges.proofs.Payloads.{long_is, payload_at-none, short_at-none}
use Rattle.block_assembly.specs.declared.progress.Progress.{Progress}
use Rattle.block_assembly.specs.declared.progress.Ending.{Ending}
use Rattle.block_assembly.specs.declared.progress.Short.{Short}
use Rattle.block_assembly.specs.Assembly.{IsAssembly, is_trailer_id, is_trailer_within, HasClearFrom}
use Rattle.block_assembly.specs.Shortest.{has_short, IsShortest, are_long}
use Rattle.block_assembly.proofs.Covers.{IsLongAt, MayAll, longs_none, longs_some, short_id, short_is_short, short_is_numbered, trailer_has_id, rest_of, rest_fits}

-- ---- payloads that weren't kept

-- the trailer has no id that other packets have
trailer_alone : (k : ℕ) (xs : List StreamPacket) → has_id k xs ≡ false → has_trailer_at k xs ≡ false
trailer_alone k xs none = elim (cases_Bool (has_trailer_at k xs)) [
  | inl there ↦ absurd (false≢true (sym none ∙ trailer_has_id k xs there))
  | inr lacks ↦ lacks
]

-- a packet with this id from 1 on is a payload, or the trailer
payload_at_is : (p b k : ℕ) (ks : List StreamPacket) → 1 ≤ k → MayAll p b ks → HasDistinctIds ks → AreLeadersFirst ks → has_payload_at k ks ≡ (has_id k ks && not (has_trailer_at k ks))
payload_at_is p b k [] one may distinct first = refl
payload_at_is p b k (leader h i ∷ xs) one may distinct first =
    let other : (h.id == k) ≡ false = ne_eqb h.id k (λ same. omega (arith, first.0)) in
    payload_at_is p b k xs one may.1 distinct.1 first.1 ∙ ap (λ v. (v || has_id k xs) && not (has_trailer_at k xs)) (sym other)
payload_at_is p b k (payload h d ∷ xs) one may distinct first = go (cases_eq h.id k) (payload_at_is p b k xs one may.1 distinct.1 first.1) where
  go : (h.id ≡ k) ⊎ (h.id ≡ k → ⊥) → has_payload_at k xs ≡ (has_id k xs && not (has_trailer_at k xs)) → (h.id == k || has_payload_at k xs) ≡ ((h.id == k || has_id k xs) && not (has_trailer_at k xs))
  go (inl same) later =
      let alone : has_id k xs ≡ false = subst (λ (i : ℕ). has_id i xs ≡ false) same distinct.0 in
      rw (eq-eqb h.id k same, trailer_alone k xs alone) refl
  go (inr other) later = rw (ne_eqb h.id k other) later
payload_at_is p b k (trailer h y ∷ xs) one may distinct first = go (cases_eq h.id k) (payload_at_is p b k xs one may.1 distinct.1 first.1) where
  go : (h.id ≡ k) ⊎ (h.id ≡ k → ⊥) → has_payload_at k xs ≡ (has_id k xs && not (has_trailer_at k xs)) → has_payload_at k xs ≡ ((h.id == k || has_id k xs) && not (h.id == k || has_trailer_at k xs))
  go (inl same) later =
      let alone : has_id k xs ≡ false = subst (λ (i : ℕ). has_id i xs ≡ false) same distinct.0 in
      rw (eq-eqb h.id k same, payload_at-none k xs alone) refl
  go (inr other) later = rw (ne_eqb h.id k other) later
payload_at_is p b k (notice h ∷ xs) one may distinct first = absurd (false≢true (sym (may_keep_parts p b (notice h) may.0).no_notice))

kept_at : (a : Progress) (k : ℕ) (ks : List StreamPacket) → IsAssembly a ks → 1 ≤ k → has_payload_at k ks ≡ (has a.kept k && not (is_trailer_id a.trailer k))
kept_at a k ks s one =
    payload_at_is a.payload_size a.block k ks one s.are_kept.of_block s.are_kept.distinct s.leaders
    ∙ ap (λ v. v && not (has_trailer_at k ks)) (sym (s.ids k)) ∙ ap (λ v. has a.kept k && not v) (s.trailer k)

payloads_all : (n : ℕ) (ks : List StreamPacket) → ((k : ℕ) → 1 ≤ k → k ≤ n → has_payload_at k ks ≡ true) → has_payloads_to n ks ≡ true
payloads_all zero ks all = refl
payloads_all (suc n) ks all =
    and_from (has_payloads_to n ks) (has_payload_at (suc n) ks) (payloads_all n ks (λ k one top. all k one (omega arith))) (all (suc n) (omega arith) (omega arith))

payloads_lack : (n k : ℕ) (ks : List StreamPacket) → 1 ≤ k → k ≤ n → has_payload_at k ks ≡ false → has_payloads_to n ks ≡ false
payloads_lack zero k ks one top none = absurd (omega arith)
payloads_lack (suc n) k ks one top none = elim (cases_eq k (suc n)) [
  | inl same ↦ and_right (has_payloads_to n ks) (has_payload_at (suc n) ks) (subst (λ (i : ℕ). has_payload_at i ks ≡ false) same none)
  | inr other ↦ and_left (has_payloads_to n ks) (has_payload_at (suc n) ks) (payloads_lack n k ks one (below other) none)
] where
  below : (k ≡ suc n → ⊥) → k ≤ n
  below other = elim (cases_lt n k) [ inl more ↦ absurd (other (omega arith)) | inr within ↦ within ]

-- the trailer stands in a payload's place
within_id : (o : Option Ending) (n : ℕ) → is_trailer_within o n ≡ true → (k : ℕ) × (1 ≤ k) × (k ≤ n) × (is_trailer_id o k ≡ true)
within_id None n there = absurd (false≢true there)
within_id (Some e) n there =
    let parts = and_parts (nat_le 1 e.id) (nat_le e.id n) there in
    (e.id, leb-true 1 e.id parts.0, leb-true e.id n parts.1, eq-eqb e.id e.id refl)

without_id : (o : Option Ending) (n k : ℕ) → is_trailer_within o n ≡ false → 1 ≤ k → k ≤ n → is_trailer_id o k ≡ false
without_id None n k none one top = refl
without_id (Some e) n k none one top = ne_eqb e.id k (λ same. false≢true (sym none ∙ and_from (nat_le 1 e.id) (nat_le e.id n) (le-leb 1 e.id (omega arith)) (le-leb e.id n (omega arith))))

pub lacks_by_trailer : (a : Progress) (last : ℕ) (ks : List StreamPacket) → IsAssembly a ks → is_trailer_within a.trailer last ≡ true → has_payloads_to last ks ≡ false
lacks_by_trailer a last ks s there =
    let id = within_id a.trailer last there in
    payloads_lack last id.0 ks id.1 id.2 (kept_at a id.0 ks s id.1 ∙ and_right (has a.kept id.0) (not (is_trailer_id a.trailer id.0)) (not_from_true (is_trailer_id a.trailer id.0) id.3))

pub lacks_by_bitmap : (a : Progress) (last : ℕ) (ks : List StreamPacket) → IsAssembly a ks → HasClearFrom a.kept last → has_payloads_to last ks ≡ false
lacks_by_bitmap a last ks s clear =
    payloads_lack last clear.id ks clear.from_one clear.within (kept_at a clear.id ks s clear.from_one ∙ and_left (has a.kept clear.id) (not (is_trailer_id a.trailer clear.id)) clear.clear)

pub lacks_none : (a : Progress) (last : ℕ) (ks : List StreamPacket) → IsAssembly a ks → is_trailer_within a.trailer last ≡ false → ((k : ℕ) → 1 ≤ k → k ≤ last → has a.kept k ≡ true) → has_payloads_to last ks ≡ true
lacks_none a last ks s none all =
    payloads_all last ks (λ k one top.
    kept_at a k ks s one ∙ ap (λ v. v && not (is_trailer_id a.trailer k)) (all k one top) ∙ ap not (without_id a.trailer last k none one top))

-- ---- payloads that are short

-- what is long enough isn't short
not_short_at : (p b len k : ℕ) (ks : List StreamPacket) → 1 ≤ p → 1 ≤ k → k ≤ payload_count p len → MayAll p b ks → AllByRecursion (IsLongAt p len k) ks → is_short_at p len k ks ≡ false
not_short_at p b len k [] some one top may longs = refl
not_short_at p b len k (leader h i ∷ xs) some one top may longs = not_short_at p b len k xs some one top may.1 longs.1
not_short_at p b len k (payload h d ∷ xs) some one top may longs =
    or_from (h.id == k && nat_lt (length d) (place_of p len k)) (is_short_at p len k xs)
    (here (cases_eq h.id k)) (not_short_at p b len k xs some one top may.1 longs.1)
  where
    here : (h.id ≡ k) ⊎ (h.id ≡ k → ⊥) → (h.id == k && nat_lt (length d) (place_of p len k)) ≡ false
    here (inl same) =
        and_right (h.id == k) (nat_lt (length d) (place_of p len k))
        (not-true (nat_lt (length d) (place_of p len k)) (sym (long_is p len k (length d) some one top (may_keep-payload p b h d may.0)) ∙ longs.0 same))
    here (inr other) = and_left (h.id == k) (nat_lt (length d) (place_of p len k)) (ne_eqb h.id k other)
not_short_at p b len k (trailer h y ∷ xs) some one top may longs = not_short_at p b len k xs some one top may.1 longs.1
not_short_at p b len k (notice h ∷ xs) some one top may longs = not_short_at p b len k xs some one top may.1 longs.1

none_short : (p len n : ℕ) (ks : List StreamPacket) → ((k : ℕ) → 1 ≤ k → k ≤ n → is_short_at p len k ks ≡ false) → has_short_to p len n ks ≡ false
none_short p len zero ks none = refl
none_short p len (suc n) ks none =
    or_from (has_short_to p len n ks) (is_short_at p len (suc n) ks) (none_short p len n ks (λ k one top. none k one (omega arith))) (none (suc n) (omega arith) (omega arith))

some_short : (p len n k : ℕ) (ks : List StreamPacket) → 1 ≤ k → k ≤ n → is_short_at p len k ks ≡ true → has_short_to p len n ks ≡ true
some_short p len zero k ks one top there = absurd (omega arith)
some_short p len (suc n) k ks one top there = elim (cases_eq k (suc n)) [
  | inl same ↦ or_right (has_short_to p len n ks) (is_short_at p len (suc n) ks) (subst (λ (i : ℕ). is_short_at p len i ks ≡ true) same there)
  | inr other ↦ or_left (has_short_to p len n ks) (is_short_at p len (suc n) ks) (some_short p len n k ks one (below other) there)
] where
  below : (k ≡ suc n → ⊥) → k ≤ n
  below other = elim (cases_lt n k) [ inl more ↦ absurd (other (omega arith)) | inr within ↦ within ]

-- the short payload with its id tells whether that payload fills its place
at_short_place : (p len : ℕ) (s : Short) (ks : List StreamPacket) → HasDistinctIds ks → has_short p s ks ≡ true → is_short_at p len s.id ks ≡ nat_lt s.len (place_of p len s.id)
at_short_place p len s [] distinct there = absurd (false≢true there)
at_short_place p len s (leader h i ∷ xs) distinct there = at_short_place p len s xs distinct.1 there
at_short_place p len s (payload h d ∷ xs) distinct there = go (at_short_place p len s xs distinct.1) (or_cases (h.id == s.id && length d == s.len && nat_lt (length d) p) (has_short p s xs) there) where
  go : (has_short p s xs ≡ true → is_short_at p len s.id xs ≡ nat_lt s.len (place_of p len s.id))
      → ((h.id == s.id && length d == s.len && nat_lt (length d) p) ≡ true) ⊎ (has_short p s xs ≡ true)
      → (h.id == s.id && nat_lt (length d) (place_of p len s.id) || is_short_at p len s.id xs) ≡ nat_lt s.len (place_of p len s.id)
  go later (inl here) =
      let both = and_parts (h.id == s.id) (length d == s.len) (and_parts (h.id == s.id && length d == s.len) (nat_lt (length d) p) here).0 in
      let alone : is_short_at p len s.id xs ≡ false = short_at-none p len s.id xs (subst (λ (k : ℕ). has_id k xs ≡ false) (eqb-true h.id s.id both.0) distinct.0) in
      ap (λ v. v && nat_lt (length d) (place_of p len s.id) || is_short_at p len s.id xs) both.0
      ∙ ap (λ v. nat_lt (length d) (place_of p len s.id) || v) alone
      ∙ or_nothing (nat_lt (length d) (place_of p len s.id))
      ∙ ap (λ (n : ℕ). nat_lt n (place_of p len s.id)) (eqb-true (length d) s.len both.1)
    where
      or_nothing : (v : Bool) → (v || false) ≡ v
      or_nothing true = refl
      or_nothing false = refl
  go later (inr rest) =
      let other : (h.id == s.id) ≡ false = ne_eqb h.id s.id (λ same. false≢true (sym (subst (λ (k : ℕ). has_id k xs ≡ false) same distinct.0) ∙ short_id p s xs rest)) in
      ap (λ v. v && nat_lt (length d) (place_of p len s.id) || is_short_at p len s.id xs) other ∙ later rest
at_short_place p len s (trailer h y ∷ xs) distinct there = at_short_place p len s xs distinct.1 there
at_short_place p len s (notice h ∷ xs) distinct there = at_short_place p len s xs distinct.1 there

-- an early payload's place has p bytes, the last one's what remains
place_before : (p len k : ℕ) → 1 ≤ p → 1 ≤ k → k < payload_count p len → place_of p len k ≡ p
place_before p len k some one less = go (cases_lt (place_of p len k) p) where
  full : is_long_enough p len k (place_of p len k) ≡ true
  full = long_is p len k (place_of p len k) some one (omega arith) (omega arith) ∙ ap not (le-ltb (place_of p len k) (place_of p len k) (omega arith))

  exact : is_long_enough p len k (place_of p len k) ≡ (place_of p len k == p)
  exact = rw (lt-ltb k (payload_count p len) less) refl

  go : (place_of p len k < p) ⊎ (p ≤ place_of p len k) → place_of p len k ≡ p
  go (inl below) = eqb-true (place_of p len k) p (sym exact ∙ full)
  go (inr whole) = omega arith

place_last : (p len : ℕ) → 1 ≤ p → place_of p len (payload_count p len) ≡ rest_of p len
place_last p len some =
    let fits : len - payload_start p (payload_count p len) ≤ p = rest_fits p len (payload_count p len) some (omega arith) in
    omega arith

-- the lowest short payload decides
pub shortest_decides : (p b len : ℕ) (ks : List StreamPacket) (o : Option Short) → 1 ≤ p → IsKept p b ks → ArePayloadsNumbered ks → IsShortest p ks o
    → has_short_to p len (payload_count p len) ks ≡ not (are_long (payload_count p len) (rest_of p len) o)
shortest_decides p b len ks None some are numbered l =
    none_short p len (payload_count p len) ks (λ k one top. not_short_at p b len k ks some one top are.of_block (longs_none p b len k ks some are.of_block l))
shortest_decides p b len ks (Some s) some are numbered l = go (cases_lt (payload_count p len) s.id) where
  before : (k : ℕ) → 1 ≤ k → k ≤ payload_count p len → k < s.id → is_short_at p len k ks ≡ false
  before k one top less = not_short_at p b len k ks some one top are.of_block (longs_some p b len k s.id ks some less are.of_block l.lowest)

  here : is_short_at p len s.id ks ≡ nat_lt s.len (place_of p len s.id)
  here = at_short_place p len s ks are.distinct l.there

  from_one : 1 ≤ s.id
  from_one = short_is_numbered p s ks numbered l.there

  early : s.id < payload_count p len → has_short_to p len (payload_count p len) ks ≡ not (are_long (payload_count p len) (rest_of p len) (Some s))
  early less =
      some_short p len (payload_count p len) s.id ks from_one (omega arith)
      (here ∙ lt-ltb s.len (place_of p len s.id) (omega (arith, place_before p len s.id some from_one less, short_is_short p s ks l.there)))
      ∙ sym (rw (le-ltb (payload_count p len) s.id (omega arith), ne_eqb s.id (payload_count p len) (λ e. omega arith)) refl)

  at_last_short : s.id ≡ payload_count p len → s.len < rest_of p len → has_short_to p len (payload_count p len) ks ≡ not (are_long (payload_count p len) (rest_of p len) (Some s))
  at_last_short same less =
      let place : place_of p len s.id ≡ rest_of p len = ap (place_of p len) same ∙ place_last p len some in
      some_short p len (payload_count p len) s.id ks from_one (omega arith) (here ∙ ap (nat_lt s.len) place ∙ lt-ltb s.len (rest_of p len) less)
      ∙ sym (rw (le-ltb (payload_count p len) s.id (omega arith), eq-eqb s.id (payload_count p len) same, lt-leb (rest_of p len) s.len less) refl)

  at_last_full : s.id ≡ payload_count p len → rest_of p len ≤ s.len → has_short_to p len (payload_count p len) ks ≡ not (are_long (payload_count p len) (rest_of p len) (Some s))
  at_last_full same full =
      let place : place_of p len s.id ≡ rest_of p len = ap (place_of p len) same ∙ place_last p len some in
      let fills : is_short_at p len s.id ks ≡ false = here ∙ ap (nat_lt s.len) place ∙ le-ltb s.len (rest_of p len) full in
      none_short p len (payload_count p len) ks (λ k one top. elim (cases_eq k s.id) [
        | inl at ↦ subst (λ (i : ℕ). is_short_at p len i ks ≡ false) (sym at) fills
        | inr other ↦ before k one top (under k top other)
      ])
      ∙ sym (rw (le-ltb (payload_count p len) s.id (omega arith), eq-eqb s.id (payload_count p len) same, le-leb (rest_of p len) s.len full) refl)
    where
      under : (k : ℕ) → k ≤ payload_count p len → (k ≡ s.id → ⊥) → k < s.id
      under k top other = elim (cases_lt k s.id) [ inl less ↦ less | inr more ↦ absurd (other (omega arith)) ]

  at_last : s.id ≡ payload_count p len → has_short_to p len (payload_count p len) ks ≡ not (are_long (payload_count p len) (rest_of p len) (Some s))
  at_last same = elim (cases_lt s.len (rest_of p len)) [ inl less ↦ at_last_short same less | inr full ↦ at_last_full same full ]

  go : (payload_count p len < s.id) ⊎ (s.id ≤ payload_count p len) → has_short_to p len (payload_count p len) ks ≡ not (are_long (payload_count p len) (rest_of p len) (Some s))
  go (inl past) =
      none_short p len (payload_count p len) ks (λ k one top. before k one top (omega arith))
      ∙ sym (rw (lt-ltb (payload_count p len) s.id past) refl)
  go (inr within) = elim (cases_eq s.id (payload_count p len)) [ inl same ↦ at_last same | inr other ↦ early (below other) ] where
    below : (s.id ≡ payload_count p len → ⊥) → s.id < payload_count p len
    below other = elim (cases_lt s.id (payload_count p len)) [ inl less ↦ less | inr more ↦ absurd (other (omega arith)) ]

-- as the code asks it
pub short_is : (a : Progress) (len last rest : ℕ) (long : Bool) (ks : List StreamPacket) → IsAssembly a ks → last ≡ payload_count a.payload_size len → rest ≡ len - payload_start a.payload_size last
    → long ≡ are_long last rest a.shortest → not long ≡ has_short_to a.payload_size len last ks
short_is a len last rest long ks s e remains tells =
    let p : ℕ = a.payload_size in
    let left : rest ≡ rest_of p len = remains ∙ ap (λ (n : ℕ). len - payload_start p n) e in
    ap not (tells ∙ ap (λ (n : ℕ). are_long n rest a.shortest) e ∙ ap (λ (n : ℕ). are_long (payload_count p len) n a.shortest) left)
    ∙ sym (shortest_decides p a.block len ks a.shortest (omega (arith, s.payload_size.at_least)) s.are_kept s.numbered s.shortest)
    ∙ ap (λ (n : ℕ). has_short_to p len n ks) (sym e)
