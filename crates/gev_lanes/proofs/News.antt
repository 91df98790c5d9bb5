-- Lanes by their numbers.
use Rattle.std.proofs.Common.{◌≡◌, ℕ, zero, suc, ◌+◌, ◌<◌, List, [], ◌∷◌, ◌++◌, length, get_or, Some, refl, ap, sym, subst, append_assoc, length-append, arith}
use Rattle.std.specs.Prelude.{slice_get, slice_set}
use Rattle.gev_lanes.specs.declared.parts.LaneQueues.{LaneQueues}
use Rattle.gev_lanes.specs.declared.parts.ReaderLane.{ReaderLane}
use Rattle.gev_lanes.specs.Sides.{LaneEnd, IsReaderOf, AreReadersOf, IsLaneAt, AreLanesOf, HasRoom, HaveRoom, IsNew, AreNew, Met, MetAt}

-- ---- members

pub get_at : {A : Type 0} (xs : List A) (k : ℕ) (x d : A) → slice_get xs k ≡ Some x → get_or xs k d ≡ x
get_at [] k x d e = absurd (cc)
get_at (y ∷ xs) zero x d e = let same : y ≡ x = cc in same
get_at (y ∷ xs) (suc k) x d e = get_at xs k x d e

pub get_below : {A : Type 0} (xs : List A) (k : ℕ) (x : A) → slice_get xs k ≡ Some x → k < length xs
get_below [] k x e = absurd (cc)
get_below (y ∷ xs) zero x e = omega arith
get_below (y ∷ xs) (suc k) x e = omega (arith, get_below xs k x e)

pub get_set : {A : Type 0} (xs : List A) (k : ℕ) (x : A) → k < length xs → slice_get (slice_set xs k x) k ≡ Some x
get_set [] k x few = absurd (omega arith)
get_set (y ∷ xs) zero x few = refl
get_set (y ∷ xs) (suc k) x few = get_set xs k x (omega (arith, few))

-- ---- the reader's ends

pub readers_length : (qs : List LaneQueues) (ss : List ReaderLane) → AreReadersOf qs ss → length ss ≡ length qs
readers_length [] [] all = refl
readers_length [] (s ∷ ss) all = absurd all
readers_length (q ∷ qs) [] all = absurd all
readers_length (q ∷ qs) (s ∷ ss) all = ap suc (readers_length qs ss all.1)

pub reader_or : (qs : List LaneQueues) (ss : List ReaderLane) (k : ℕ) (q : LaneQueues) (s : ReaderLane) → AreReadersOf qs ss → k < length qs
    → IsReaderOf (get_or qs k q) (get_or ss k s)
reader_or [] ss k q s all few = absurd (omega arith)
reader_or (x ∷ qs) [] k q s all few = absurd all
reader_or (x ∷ qs) (y ∷ ss) zero q s all few = all.0
reader_or (x ∷ qs) (y ∷ ss) (suc k) q s all few = reader_or qs ss k q s all.1 (omega (arith, few))

pub lane_met : (ss : List ReaderLane) (number k : ℕ) (side : ReaderLane) (e : LaneEnd) → k ≡ e.number → k < length ss → Met side e.hands
    → MetAt (slice_set ss k side) e
lane_met ss number k side e is few met = record {
  side = side;
  at = subst (λ n. slice_get (slice_set ss k side) n ≡ Some side) is (get_set ss k side few);
  met = met;
}

-- ---- one lane more

pub new_more : (number n : ℕ) (qs : List LaneQueues) (ss : List ReaderLane) (es : List LaneEnd) (q : LaneQueues) (s : ReaderLane) (e : LaneEnd)
    → AreNew number qs ss es → IsNew q s e n → number + length qs ≡ n → AreNew number (qs ++ q ∷ []) (ss ++ s ∷ []) (es ++ e ∷ [])
new_more number n [] [] [] q s e all new is = (subst (IsNew q s e) (sym (here number n is)) new, tt)
  where
    here : (a b : ℕ) → a + 0 ≡ b → a ≡ b
    here a b same = omega (arith, same)
new_more number n [] [] (y ∷ es) q s e all new is = absurd all
new_more number n [] (x ∷ ss) es q s e all new is = absurd all
new_more number n (w ∷ qs) [] es q s e all new is = absurd all
new_more number n (w ∷ qs) (x ∷ ss) [] q s e all new is = absurd all
new_more number n (w ∷ qs) (x ∷ ss) (y ∷ es) q s e all new is = (all.0, new_more (suc number) n qs ss es q s e all.1 new (next number (length qs) n is))
  where
    next : (a b c : ℕ) → a + suc b ≡ c → suc a + b ≡ c
    next a b c same = omega (arith, same)

pub news_are : (qs rs : List LaneQueues) (ss ts : List ReaderLane) (es fs : List LaneEnd) → rs ≡ qs → ts ≡ ss → fs ≡ es → AreNew 0 qs ss es → AreNew 0 rs ts fs
news_are qs rs ss ts es fs queues sides ends new =
    subst (λ l. AreNew 0 l ts fs) (sym queues) (subst (λ l. AreNew 0 qs l fs) (sym sides) (subst (λ l. AreNew 0 qs ss l) (sym ends) new))

-- ---- whose new ends are

pub new_readers : (number : ℕ) (qs : List LaneQueues) (ss : List ReaderLane) (es : List LaneEnd) → AreNew number qs ss es → AreReadersOf qs ss
new_readers number [] [] [] all = tt
new_readers number [] [] (y ∷ es) all = absurd all
new_readers number [] (x ∷ ss) es all = absurd all
new_readers number (w ∷ qs) [] es all = absurd all
new_readers number (w ∷ qs) (x ∷ ss) [] all = absurd all
new_readers number (w ∷ qs) (x ∷ ss) (y ∷ es) all = (all.0.reader, new_readers (suc number) qs ss es all.1)

here_at : (before qs : List LaneQueues) (q : LaneQueues) → slice_get (before ++ q ∷ qs) (length before) ≡ Some q
here_at [] qs q = refl
here_at (x ∷ before) qs q = here_at before qs q

lanes_from : (before qs : List LaneQueues) (ss : List ReaderLane) (es : List LaneEnd) → AreNew (length before) qs ss es → AreLanesOf (before ++ qs) es
lanes_from before [] [] [] all = tt
lanes_from before [] [] (y ∷ es) all = absurd all
lanes_from before [] (x ∷ ss) es all = absurd all
lanes_from before (w ∷ qs) [] es all = absurd all
lanes_from before (w ∷ qs) (x ∷ ss) [] all = absurd all
lanes_from before (w ∷ qs) (x ∷ ss) (y ∷ es) all = (
  record {
    queues = w;
    at = subst (λ n. slice_get (before ++ w ∷ qs) n ≡ Some w) (sym all.0.numbered) (here_at before qs w);
    lane_of = all.0.lane_of;
  },
  subst (λ l. AreLanesOf l es) (append_assoc before (w ∷ []) qs)
      (lanes_from (before ++ w ∷ []) qs ss es (subst (λ n. AreNew n qs ss es) (longer before w) all.1)),
)
  where
    longer : (xs : List LaneQueues) (x : LaneQueues) → suc (length xs) ≡ length (xs ++ x ∷ [])
    longer xs x = omega (arith, length-append xs (x ∷ []))

pub new_lanes : (qs : List LaneQueues) (ss : List ReaderLane) (es : List LaneEnd) → AreNew 0 qs ss es → AreLanesOf qs es
new_lanes qs ss es all = lanes_from [] qs ss es all

-- the last of these, and the others
pub lanes_last : (qs : List LaneQueues) (es : List LaneEnd) (e : LaneEnd) → AreLanesOf qs (es ++ e ∷ []) → AreLanesOf qs es × IsLaneAt qs e
lanes_last qs [] e all = (tt, all.0)
lanes_last qs (y ∷ es) e all = let rest = lanes_last qs es e all.1 in ((all.0, rest.0), rest.1)

-- ---- their room

pub new_room : (number : ℕ) (qs : List LaneQueues) (ss : List ReaderLane) (es : List LaneEnd) → AreNew number qs ss es → HaveRoom qs
new_room number [] [] [] all = tt
new_room number [] [] (y ∷ es) all = absurd all
new_room number [] (x ∷ ss) es all = absurd all
new_room number (w ∷ qs) [] es all = absurd all
new_room number (w ∷ qs) (x ∷ ss) [] all = absurd all
new_room number (w ∷ qs) (x ∷ ss) (y ∷ es) all = (all.0.room, new_room (suc number) qs ss es all.1)

pub room_at : (qs : List LaneQueues) (k : ℕ) (q : LaneQueues) → HaveRoom qs → slice_get qs k ≡ Some q → HasRoom q
room_at [] k q all at = absurd (cc)
room_at (w ∷ qs) zero q all at = let same : w ≡ q = cc in subst HasRoom same all.0
room_at (w ∷ qs) (suc k) q all at = room_at qs k q all.1 at
