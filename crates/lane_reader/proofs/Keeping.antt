-- Turns keep the cells for the end.
use Rattle.std.proofs.Common.{◌≡◌, ℕ, suc, Bool, true, false, List, [], ◌∷◌, Option, Some, None, ap, sym, subst, inl, inr}
use Rattle.std.specs.Prelude.{nat_lt, MatchBool, IsSome}
use Rattle.gev_lanes.specs.declared.parts.ReaderLane.{ReaderLane}
use Rattle.gev_lanes.specs.Sides.{AreKept}
use Rattle.gev_lanes.specs.Messages.{Message, told}
use Rattle.gev_lanes.specs.Acts.{Tries, TriesTo, Hears, Ticks}
use Rattle.lane_reader.specs.LanesTurns.{ReaderTurn, part_of, Each, Asks, AsksEach, TakesLanesTurn, TakesLanesTurns}

tries_same : (m : Message) (done : Bool) (s t : ReaderLane) → Tries m done s t → t.kept ≡ s.kept
tries_same m true s t tries = ap (λ (x : ReaderLane). x.kept) tries.is
tries_same m false s t tries = ap (λ (x : ReaderLane). x.kept) tries.is

hears_same : (part : Option (List ℕ)) (moment : ℕ) (s t : ReaderLane) → Hears part moment s t → t.kept ≡ s.kept
hears_same None moment s t same = ap (λ (x : ReaderLane). x.kept) same
hears_same (Some bytes) moment s t tries = tries_same _ tries.brought s t tries.tries

ticks_same : (moment : ℕ) (s t : ReaderLane) → Ticks moment s t → t.kept ≡ s.kept
ticks_same moment s t ticks = go (nat_lt s.last moment) ticks
  where
    go : (b : Bool) → MatchBool b (TriesTo (record { moment = moment; says = told }) s t) (t ≡ s) → t.kept ≡ s.kept
    go true tries = tries_same _ tries.brought s t tries.tries
    go false same = ap (λ (x : ReaderLane). x.kept) same

asks_same : (requests : List (List ℕ)) (s t : ReaderLane) → Asks requests s t → t.kept ≡ s.kept
asks_same requests s t (inl asks) = ap (λ (x : ReaderLane). x.kept) asks.is
asks_same requests s t (inr asks) = ap (λ (x : ReaderLane). x.kept) asks.is

each_keeps : (Does : ℕ → ReaderLane → ReaderLane → Type 0) (k : ℕ) (ss ts : List ReaderLane) → ((j : ℕ) (s t : ReaderLane) → Does j s t → t.kept ≡ s.kept)
    → Each Does k ss ts → AreKept ss → AreKept ts
each_keeps Does k [] [] same each kept = tt
each_keeps Does k [] (t ∷ ts) same each kept = absurd each
each_keeps Does k (s ∷ ss) [] same each kept = absurd each
each_keeps Does k (s ∷ ss) (t ∷ ts) same each kept =
    (subst (λ x. IsSome x) (sym (same k s t each.0)) kept.0, each_keeps Does (suc k) ss ts same each.1 kept.1)

asks_keep : (rss : List (List (List ℕ))) (ss ts : List ReaderLane) → AsksEach rss ss ts → AreKept ss → AreKept ts
asks_keep [] [] [] each kept = tt
asks_keep [] [] (t ∷ ts) each kept = absurd each
asks_keep [] (s ∷ ss) ts each kept = absurd each
asks_keep (rs ∷ rss) [] ts each kept = absurd each
asks_keep (rs ∷ rss) (s ∷ ss) [] each kept = absurd each
asks_keep (rs ∷ rss) (s ∷ ss) (t ∷ ts) each kept =
    (subst (λ x. IsSome x) (sym (asks_same rs s t each.0)) kept.0, asks_keep rss ss ts each.1 kept.1)

turn_keeps : (n : ℕ) (t : ReaderTurn) (ss us : List ReaderLane) → TakesLanesTurn n t ss us → AreKept ss → AreKept us
turn_keeps n t ss us turn kept =
    asks_keep t.asked turn.told us turn.asks
    (each_keeps (λ k. Ticks t.moment) 0 turn.hearing turn.told (λ j. ticks_same t.moment) turn.ticks
    (each_keeps (λ k. Hears (part_of n k t.answer) t.moment) 0 ss turn.hearing (λ j. hears_same (part_of n j t.answer) t.moment) turn.hears kept))

pub turns_keep : (n : ℕ) (ts : List ReaderTurn) (ss us : List ReaderLane) → TakesLanesTurns n ts ss us → AreKept ss → AreKept us
turns_keep n [] ss us same kept = subst AreKept (sym same) kept
turns_keep n (t ∷ ts) ss us turns kept = turns_keep n ts turns.0 us turns.2 (turn_keeps n t ss turns.0 turns.1 kept)
