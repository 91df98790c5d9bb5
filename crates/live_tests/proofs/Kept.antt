-- What the reader does before the end leaves the cells for it.
use Rattle.std.proofs.Common.{◌≡◌, ℕ, zero, suc, ◌<◌, Bool, true, false, List, [], ◌∷◌, length, Option, Some, None, refl, ap, sym, ◌∙◌, subst, inl, inr, arith}
use Rattle.std.specs.Prelude.{slice_get, slice_set, nat_lt, MatchBool, IsSome}
use Rattle.gev_links.specs.Links.{Answer}
use Rattle.gev_lanes.specs.declared.parts.ReaderLane.{ReaderLane}
use Rattle.gev_lanes.specs.Sides.{AreKept, KeptAt}
use Rattle.gev_lanes.specs.Messages.{Message, told}
use Rattle.gev_lanes.specs.Acts.{Tries, TriesTo, Hears, Ticks, DoesAt}
use Rattle.lane_reader.specs.LanesTurns.{part_of, Each, Asks, AsksEach}

-- ---- one lane

tries_same : (m : Message) (done : Bool) (s t : ReaderLane) → Tries m done s t → t.kept ≡ s.kept
tries_same m true s t tries = ap (λ (x : ReaderLane). x.kept) tries.is
tries_same m false s t tries = ap (λ (x : ReaderLane). x.kept) tries.is

hears_same : (part : Option (List ℕ)) (moment : ℕ) (s t : ReaderLane) → Hears part moment s t → t.kept ≡ s.kept
hears_same None moment s t same = ap (λ (x : ReaderLane). x.kept) same
hears_same (Some bytes) moment s t tries = tries_same _ tries.brought s t tries.tries

ticks_same : (moment : ℕ) (s t : ReaderLane) → Ticks moment s t → t.kept ≡ s.kept
ticks_same moment s t ticks = go (nat_lt s.last moment) ticks
  where
    go : (b : Bool) → MatchBool b (TriesTo (record { moment = moment; says = told }) s t) (t ≡ s) → t.kept ≡ s.kept
    go true tries = tries_same _ tries.brought s t tries.tries
    go false same = ap (λ (x : ReaderLane). x.kept) same

asks_same : (requests : List (List ℕ)) (s t : ReaderLane) → Asks requests s t → t.kept ≡ s.kept
asks_same requests s t (inl asks) = ap (λ (x : ReaderLane). x.kept) asks.is
asks_same requests s t (inr asks) = ap (λ (x : ReaderLane). x.kept) asks.is

-- ---- at one of the lanes

some_same : {A : Type 0} (x y : A) → Some x ≡ Some y → x ≡ y
some_same x y e = cc

set_keeps : (k : ℕ) (ss : List ReaderLane) (s t : ReaderLane) → slice_get ss k ≡ Some s → t.kept ≡ s.kept → AreKept ss → AreKept (slice_set ss k t)
set_keeps k [] s t at same kept = tt
set_keeps zero (x ∷ ss) s t at same kept =
    (subst (λ y. IsSome y) (ap (λ (y : ReaderLane). y.kept) (some_same x s at) ∙ sym same) kept.0, kept.1)
set_keeps (suc k) (x ∷ ss) s t at same kept = (kept.0, set_keeps k ss s t at same kept.1)

at_keeps : (Does : ReaderLane → ReaderLane → Type 0) (k : ℕ) (ss ts : List ReaderLane) → ((s t : ReaderLane) → Does s t → t.kept ≡ s.kept)
    → DoesAt Does k ss ts → AreKept ss → AreKept ts
at_keeps Does k ss ts same does kept =
    subst AreKept (sym does.is) (set_keeps k ss does.side does.after does.at (same does.side does.after does.does) kept)

pub bring_keeps : (m : Message) (done : Bool) (k : ℕ) (ss ts : List ReaderLane) → DoesAt (Tries m done) k ss ts → AreKept ss → AreKept ts
bring_keeps m done k ss ts does kept = at_keeps (Tries m done) k ss ts (tries_same m done) does kept

pub tick_keeps : (moment k : ℕ) (ss ts : List ReaderLane) → DoesAt (Ticks moment) k ss ts → AreKept ss → AreKept ts
tick_keeps moment k ss ts does kept = at_keeps (Ticks moment) k ss ts (ticks_same moment) does kept

pub kept_at : (k : ℕ) (ss : List ReaderLane) → AreKept ss → k < length ss → KeptAt k ss
kept_at k [] kept few = absurd (omega (arith, few))
kept_at zero (s ∷ ss) kept few = record { side = s; at = refl; kept = kept.0 }
kept_at (suc k) (s ∷ ss) kept few =
    let rest = kept_at k ss kept.1 (omega (arith, few)) in
    record { side = rest.side; at = rest.at; kept = rest.kept }

-- ---- at each lane

each_keeps : (Does : ℕ → ReaderLane → ReaderLane → Type 0) (k : ℕ) (ss ts : List ReaderLane) → ((j : ℕ) (s t : ReaderLane) → Does j s t → t.kept ≡ s.kept)
    → Each Does k ss ts → AreKept ss → AreKept ts
each_keeps Does k [] [] same each kept = tt
each_keeps Does k [] (t ∷ ts) same each kept = absurd each
each_keeps Does k (s ∷ ss) [] same each kept = absurd each
each_keeps Does k (s ∷ ss) (t ∷ ts) same each kept =
    (subst (λ x. IsSome x) (sym (same k s t each.0)) kept.0, each_keeps Does (suc k) ss ts same each.1 kept.1)

pub hears_keep : (n moment : ℕ) (answer : Answer) (ss ts : List ReaderLane) → Each (λ k. Hears (part_of n k answer) moment) 0 ss ts → AreKept ss → AreKept ts
hears_keep n moment answer ss ts each kept =
    each_keeps (λ k. Hears (part_of n k answer) moment) 0 ss ts (λ j. hears_same (part_of n j answer) moment) each kept

pub ticks_keep : (moment : ℕ) (ss ts : List ReaderLane) → Each (λ k. Ticks moment) 0 ss ts → AreKept ss → AreKept ts
ticks_keep moment ss ts each kept = each_keeps (λ k. Ticks moment) 0 ss ts (λ j. ticks_same moment) each kept

pub asks_keep : (rss : List (List (List ℕ))) (ss ts : List ReaderLane) → AsksEach rss ss ts → AreKept ss → AreKept ts
asks_keep [] [] [] each kept = tt
asks_keep [] [] (t ∷ ts) each kept = absurd each
asks_keep [] (s ∷ ss) ts each kept = absurd each
asks_keep (rs ∷ rss) [] ts each kept = absurd each
asks_keep (rs ∷ rss) (s ∷ ss) [] each kept = absurd each
asks_keep (rs ∷ rss) (s ∷ ss) (t ∷ ts) each kept =
    (subst (λ x. IsSome x) (sym (asks_same rs s t each.0)) kept.0, asks_keep rss ss ts each.1 kept.1)
