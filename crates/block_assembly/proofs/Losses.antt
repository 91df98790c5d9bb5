-- Lost ranges, one after the other.
use Rattle.std.proofs.Common.{◌≡◌, ℕ, suc, ◌+◌, ◌-◌, ◌<◌, ◌≤◌, List, [], ◌∷◌, ◌++◌, length, take, set, replicate, Bool, Option, Some, None, refl, sym, ◌∙◌, ap, subst, arith}
use Rattle.std.proofs.lemmas.List.{length-append, append_assoc, append-nil, take_all, take-append-le, set_at}
use Rattle.gev_types.specs.declared.block_account.Lost.{Lost}
use Rattle.stream_packets.specs.Packets.{StreamPacket}
use Rattle.block_image.specs.Kept.{has_id}
use Rattle.missing_ranges.specs.Accounts.{first_eight, lost_of}
use Rattle.missing_ranges.specs.Missing.{top_of}
use Rattle.missing_ranges.specs.Ranges.{holes}
use Rattle.missing_ranges.specs.RangeLaws.{IsFirstHole}
use Rattle.missing_ranges.proofs.FirstLemmas.{holes_begin_with_first}
use Rattle.missing_ranges.proofs.HoleLemmas.{holes_ask_within}
use Rattle.packet_bitmap.specs.Bits.{has}
use Rattle.missing_ranges.specs.Lost.{ids_in, lost, lost_to}

abbrev of_parts : ℕ → ℕ → List (ℕ × ℕ) → Lost
of_parts i r f = record { ids = i; ranges = r; first = f }

made : (i j r q : ℕ) (f g : List (ℕ × ℕ)) → i ≡ j → r ≡ q → f ≡ g → of_parts i r f ≡ of_parts j q g
made i j r q f g a b c = cc

ids_in-push : (rs : List (ℕ × ℕ)) (r : ℕ × ℕ) → ids_in (rs ++ r ∷ []) ≡ ids_in rs + (r.1 + 1 - r.0)
ids_in-push [] r = let is : (r.1 + 1 - r.0) + 0 ≡ 0 + (r.1 + 1 - r.0) = omega arith in is
ids_in-push (x ∷ xs) r =
    let joined : (x.1 + 1 - x.0) + (ids_in xs + (r.1 + 1 - r.0)) ≡ ((x.1 + 1 - x.0) + ids_in xs) + (r.1 + 1 - r.0) = omega arith in
    ap (λ (n : ℕ). (x.1 + 1 - x.0) + n) (ids_in-push xs r) ∙ joined

-- One more of fewer than eight takes the place of the first empty one.
pub first_push : (rs : List (ℕ × ℕ)) (r : ℕ × ℕ) → length rs < 8 → first_eight (rs ++ r ∷ []) ≡ rs ++ r ∷ replicate (7 - length rs) (0, 0)
first_push rs r less =
    let n : length (rs ++ r ∷ []) ≡ length rs + 1 = length-append rs (r ∷ []) in
    let left : 8 - length (rs ++ r ∷ []) ≡ 7 - length rs = omega (arith, n) in
    ap (λ (l : List (ℕ × ℕ)). l ++ replicate (8 - length (rs ++ r ∷ [])) (0, 0)) (take_all 8 (rs ++ r ∷ []) (omega (arith, n)))
    ∙ ap (λ (m : ℕ). (rs ++ r ∷ []) ++ replicate m (0, 0)) left
    ∙ append_assoc rs (r ∷ []) (replicate (7 - length rs) (0, 0))

pub first_few : (rs : List (ℕ × ℕ)) → length rs < 8 → first_eight rs ≡ rs ++ (0, 0) ∷ replicate (7 - length rs) (0, 0)
first_few rs less =
    let left : 8 - length rs ≡ suc (7 - length rs) = omega arith in
    ap (λ (l : List (ℕ × ℕ)). l ++ replicate (8 - length rs) (0, 0)) (take_all 8 rs (omega arith))
    ∙ ap (λ (m : ℕ). rs ++ replicate m (0, 0)) left

-- Of eight or more the first eight stay.
pub first_full : (rs : List (ℕ × ℕ)) (r : ℕ × ℕ) → 8 ≤ length rs → first_eight (rs ++ r ∷ []) ≡ first_eight rs
first_full rs r more =
    let n : length (rs ++ r ∷ []) ≡ length rs + 1 = length-append rs (r ∷ []) in
    let none_left : 8 - length (rs ++ r ∷ []) ≡ 8 - length rs = omega (arith, n) in
    ap (λ (l : List (ℕ × ℕ)). l ++ replicate (8 - length (rs ++ r ∷ [])) (0, 0)) (take-append-le 8 rs (r ∷ []) more)
    ∙ ap (λ (m : ℕ). take 8 rs ++ replicate m (0, 0)) none_left

-- a range more, where fewer than eight were named
pub more_told : (l m : Lost) (rs : List (ℕ × ℕ)) (r : ℕ × ℕ) → l ≡ lost_of rs → m ≡ of_parts l.ids l.ranges (set l.first l.ranges r) → l.ranges < 8
    → of_parts (m.ids + (r.1 + 1 - r.0)) (m.ranges + 1) m.first ≡ lost_of (rs ++ r ∷ [])
more_told l m rs r is told less =
    let ids : m.ids ≡ ids_in rs = ap (λ (k : Lost). k.ids) told ∙ ap (λ (k : Lost). k.ids) is in
    let ranges : m.ranges ≡ length rs = ap (λ (k : Lost). k.ranges) told ∙ ap (λ (k : Lost). k.ranges) is in
    let few : length rs < 8 = omega (arith, ap (λ (k : Lost). k.ranges) is, less) in
    let first : m.first ≡ first_eight (rs ++ r ∷ []) =
    ap (λ (k : Lost). k.first) told ∙ ap (λ (k : Lost). set k.first k.ranges r) is ∙ ap (λ (f : List (ℕ × ℕ)). set f (length rs) r) (first_few rs few)
    ∙ set_at rs (0, 0) (replicate (7 - length rs) (0, 0)) r (length rs) refl ∙ sym (first_push rs r few) in
    made (m.ids + (r.1 + 1 - r.0)) (ids_in (rs ++ r ∷ [])) (m.ranges + 1) (length (rs ++ r ∷ [])) m.first (first_eight (rs ++ r ∷ []))
    (omega (arith, ids, ids_in-push rs r)) (omega (arith, ranges, length-append rs (r ∷ []))) first

-- and where eight were
pub full_told : (l m : Lost) (rs : List (ℕ × ℕ)) (r : ℕ × ℕ) → l ≡ lost_of rs → m ≡ l → 8 ≤ l.ranges
    → of_parts (m.ids + (r.1 + 1 - r.0)) (m.ranges + 1) m.first ≡ lost_of (rs ++ r ∷ [])
full_told l m rs r is told more =
    let same : m ≡ lost_of rs = told ∙ is in
    let ids : m.ids ≡ ids_in rs = ap (λ (k : Lost). k.ids) same in
    let ranges : m.ranges ≡ length rs = ap (λ (k : Lost). k.ranges) same in
    let many : 8 ≤ length rs = omega (arith, ap (λ (k : Lost). k.ranges) is, more) in
    let first : m.first ≡ first_eight (rs ++ r ∷ []) = ap (λ (k : Lost). k.first) same ∙ sym (first_full rs r many) in
    made (m.ids + (r.1 + 1 - r.0)) (ids_in (rs ++ r ∷ [])) (m.ranges + 1) (length (rs ++ r ∷ [])) m.first (first_eight (rs ++ r ∷ []))
    (omega (arith, ids, ids_in-push rs r)) (omega (arith, ranges, length-append rs (r ∷ []))) first

-- how far the walk has come: what was found, and the holes behind it, are all holes
pub record LosesTo (there : ℕ → Bool) (top from : ℕ) (l : Lost) : Type 0 where
  pub within : from ≤ top + 1
  pub ids : l.ids ≤ from
  pub ranges : l.ranges ≤ from
  pub found : List (ℕ × ℕ)
  pub is : l ≡ lost_of found
  pub rest : found ++ holes there from (top + 1 - from) ≡ holes there 0 (top + 1)

pub loses_none : (there : ℕ → Bool) (top : ℕ) (l : Lost) → l ≡ lost_of [] → LosesTo there top 0 l
loses_none there top l e =
    let all : top + 1 - 0 ≡ top + 1 = omega arith in
    subst (λ (k : Lost). LosesTo there top 0 k) (sym e)
    (record {
      within = omega arith;
      ids = omega arith;
      ranges = omega arith;
      found = [];
      is = refl;
      rest = ap (λ (n : ℕ). holes there 0 n) all;
    })

pub loses_one : (there : ℕ → Bool) (top from : ℕ) (l new : Lost) (r : ℕ × ℕ) → LosesTo there top from l → IsFirstHole there from (top + 1) (Some r) → ((rs : List (ℕ × ℕ)) → l ≡ lost_of rs → new ≡ lost_of (rs ++ r ∷ [])) → LosesTo there top (r.1 + 1) new
loses_one there top from l new r s h adds =
    let e : new ≡ lost_of (s.found ++ r ∷ []) = adds s.found s.is in
    let ids : l.ids ≡ ids_in s.found = ap (λ (k : Lost). k.ids) s.is in
    let ranges : l.ranges ≡ length s.found = ap (λ (k : Lost). k.ranges) s.is in
    let new_ids : new.ids ≡ ids_in (s.found ++ r ∷ []) = ap (λ (k : Lost). k.ids) e in
    let new_ranges : new.ranges ≡ length (s.found ++ r ∷ []) = ap (λ (k : Lost). k.ranges) e in
    record {
      within = omega (arith, h.hole.ends);
      ids = omega (arith, s.ids, ids, new_ids, ids_in-push s.found r, h.hole.begins, h.hole.rises);
      ranges = omega (arith, s.ranges, ranges, new_ranges, length-append s.found (r ∷ []), h.hole.begins, h.hole.rises);
      found = s.found ++ r ∷ [];
      is = e;
      rest = append_assoc s.found (r ∷ []) (holes there (r.1 + 1) (top + 1 - (r.1 + 1)))
          ∙ ap (λ (hs : List (ℕ × ℕ)). s.found ++ hs) (sym (holes_begin_with_first there from (top + 1) (Some r) h)) ∙ s.rest;
    }

pub loses_all : (there : ℕ → Bool) (top from : ℕ) (l : Lost) → LosesTo there top from l → IsFirstHole there from (top + 1) None → l ≡ lost_of (holes there 0 (top + 1))
loses_all there top from l s none =
    s.is ∙ ap lost_of (sym (append-nil s.found) ∙ ap (λ (hs : List (ℕ × ℕ)). s.found ++ hs) (sym (holes_begin_with_first there from (top + 1) None none)) ∙ s.rest)

pub loses_end : (there : ℕ → Bool) (top from : ℕ) (l : Lost) → LosesTo there top from l → top < from → l ≡ lost_of (holes there 0 (top + 1))
loses_end there top from l s past = loses_all there top from l s (λ k low high. absurd (omega arith))

-- a bitmap's holes are the ids that weren't kept
pub lost_known : (p top : ℕ) (bits : List Bool) (ks : List StreamPacket) (l : Lost) → Some top ≡ top_of p ks → ((k : ℕ) → has bits k ≡ has_id k ks) → l ≡ lost_of (holes (has bits) 0 (top + 1)) → l ≡ lost_of (lost p ks)
lost_known p top bits ks l known ids e =
    e ∙ ap lost_of (holes_ask_within (has bits) (λ k. has_id k ks) 0 (top + 1) (λ k low high. ids k)) ∙ ap (λ (o : Option ℕ). lost_of (lost_to ks o)) known

pub lost_unknown : (p : ℕ) (ks : List StreamPacket) (l : Lost) → None ≡ top_of p ks → l ≡ lost_of [] → l ≡ lost_of (lost p ks)
lost_unknown p ks l unknown e = e ∙ ap (λ (o : Option ℕ). lost_of (lost_to ks o)) unknown
