-- Loops over the lanes: what the first i lanes became, and the others stay.
use Rattle.std.proofs.Common.{◌≡◌, ℕ, zero, suc, ◌+◌, ◌<◌, List, [], ◌∷◌, ◌++◌, length, Some, refl, ap, sym, ◌∙◌, subst, inl, inr, append_assoc, arith}
use Rattle.std.specs.Prelude.{slice_get, slice_set}
use Rattle.std.proofs.lemmas.List.{append-nil}
use Rattle.gev_lanes.specs.LineEnds.{TakerEnd, took, missed, WasEmpty}
use Rattle.gev_lanes.specs.declared.parts.ReaderLane.{ReaderLane}
use Rattle.gev_lanes.specs.Sides.{AreKept, KeptAt}
use Rattle.gev_lanes.specs.Acts.{DoesAt, AsksOne, AsksNone, with_asked}
use Rattle.lane_reader.specs.LanesTurns.{Each, Asks, AsksEach, joined}

some_same : {A : Type 0} (x y : A) → Some x ≡ Some y → x ≡ y
some_same x y e = cc

none_there : (ts : List ReaderLane) (k : ℕ) (s : ReaderLane) → ts ≡ [] → slice_get ts k ≡ Some s → ⊥
none_there [] k s none at = cc
none_there (t ∷ ts) k s none at = cc

-- ---- one relation for all lanes

abbrev pub EachTo : (ℕ → ReaderLane → ReaderLane → Type 0) → ℕ → ℕ → List ReaderLane → List ReaderLane → Type 0
EachTo Does zero k ss ts = ts ≡ ss
EachTo Does (suc i) k [] ts = ⊥
EachTo Does (suc i) k (s ∷ ss) [] = ⊥
EachTo Does (suc i) k (s ∷ ss) (t ∷ ts) = Does k s t × EachTo Does i (suc k) ss ts

each_next : (Does : ℕ → ReaderLane → ReaderLane → Type 0) (i k n : ℕ) (ss ts us : List ReaderLane) → n ≡ k + i → EachTo Does i k ss ts → DoesAt (Does n) i ts us
    → EachTo Does (suc i) k ss us
each_next Does zero k n [] ts us is to one = absurd (none_there ts 0 one.side to one.at)
each_next Does zero k n (s ∷ ss) [] us is to one = absurd (none_there [] 0 one.side refl one.at)
each_next Does zero k n (s ∷ ss) (t ∷ ts) us is to one = subst (EachTo Does 1 k (s ∷ ss)) (sym one.is) (
  subst (λ m. Does m s one.after) (here n k is) (subst (λ x. Does n x one.after) (sym (some_same t one.side one.at) ∙ head_same) one.does),
  tail_same,
)
  where
    here : (a b : ℕ) → a ≡ b + 0 → a ≡ b
    here a b e = omega (arith, e)

    head_same : t ≡ s
    head_same = cc

    tail_same : ts ≡ ss
    tail_same = cc
each_next Does (suc i) k n [] ts us is to one = absurd to
each_next Does (suc i) k n (s ∷ ss) [] us is to one = absurd to
each_next Does (suc i) k n (s ∷ ss) (t ∷ ts) us is to one = subst (EachTo Does (suc (suc i)) k (s ∷ ss)) (sym one.is) (
  to.0,
  each_next Does i (suc k) n ss ts (slice_set ts i one.after) (next n k i is) to.1
      (record { side = one.side; at = one.at; after = one.after; does = one.does; is = refl }),
)
  where
    next : (a b c : ℕ) → a ≡ b + suc c → a ≡ suc b + c
    next a b c e = omega (arith, e)

pub each_all : (Does : ℕ → ReaderLane → ReaderLane → Type 0) (i k : ℕ) (ss ts : List ReaderLane) → i ≡ length ss → EachTo Does i k ss ts → Each Does k ss ts
each_all Does zero k [] [] all to = tt
each_all Does zero k [] (t ∷ ts) all to = absurd (none to)
  where
    none : t ∷ ts ≡ [] → ⊥
    none e = cc
each_all Does zero k (s ∷ ss) ts all to = absurd (omega (arith, all))
each_all Does (suc i) k [] ts all to = absurd to
each_all Does (suc i) k (s ∷ ss) [] all to = absurd to
each_all Does (suc i) k (s ∷ ss) (t ∷ ts) all to = (to.0, each_all Does i (suc k) ss ts (omega (arith, all)) to.1)

-- ---- the cells for the end

-- those of the lanes to come are kept still
pub kept_next : (Does : ℕ → ReaderLane → ReaderLane → Type 0) (i k : ℕ) (ss ts : List ReaderLane) → EachTo Does i k ss ts → AreKept ss → i < length ss → KeptAt i ts
kept_next Does i k [] ts to kept few = absurd (omega (arith, few))
kept_next Does zero k (s ∷ ss) ts to kept few =
    subst (KeptAt 0) (sym to) (record { side = s; at = refl; kept = kept.0 })
kept_next Does (suc i) k (s ∷ ss) [] to kept few = absurd to
kept_next Does (suc i) k (s ∷ ss) (t ∷ ts) to kept few =
    let rest = kept_next Does i (suc k) ss ts to.1 kept.1 (omega (arith, few)) in
    record { side = rest.side; at = rest.at; kept = rest.kept }

-- ---- one lane alone

pub each_same : (Does : ℕ → ReaderLane → ReaderLane → Type 0) (k : ℕ) (ss : List ReaderLane) → ((m : ℕ) (s : ReaderLane) → Does m s s) → Each Does k ss ss
each_same Does k [] same = tt
each_same Does k (s ∷ ss) same = (same k s, each_same Does (suc k) ss same)

-- something at lane n, and nothing at the lanes from m on
same_from : (Does : ℕ → ReaderLane → ReaderLane → Type 0) (n m : ℕ) (ss : List ReaderLane) → n < m → ((j : ℕ) (s : ReaderLane) → (j ≡ n → ⊥) → Does j s s)
    → Each Does m ss ss
same_from Does n m [] above same = tt
same_from Does n m (s ∷ ss) above same = (same m s (λ e. omega (arith, e, above)), same_from Does n (suc m) ss (omega (arith, above)) same)

pub each_at : (Does : ℕ → ReaderLane → ReaderLane → Type 0) (i k n : ℕ) (ss ts : List ReaderLane) → n ≡ k + i → DoesAt (Does n) i ss ts
    → ((j : ℕ) (s : ReaderLane) → (j ≡ n → ⊥) → Does j s s) → Each Does k ss ts
each_at Does i k n [] ts is one same = absurd (none_there [] i one.side refl one.at)
each_at Does zero k n (s ∷ ss) ts is one same = subst (Each Does k (s ∷ ss)) (sym one.is) (
  subst (λ m. Does m s one.after) (here n k is) (subst (λ x. Does n x one.after) (sym (some_same s one.side one.at)) one.does),
  same_from Does n (suc k) ss (omega (arith, is)) same,
)
  where
    here : (a b : ℕ) → a ≡ b + 0 → a ≡ b
    here a b e = omega (arith, e)
each_at Does (suc i) k n (s ∷ ss) ts is one same = subst (Each Does k (s ∷ ss)) (sym one.is) (
  same k s (λ e. omega (arith, e, is)),
  each_at Does i (suc k) n ss (slice_set ss i one.after) (next n k i is)
      (record { side = one.side; at = one.at; after = one.after; does = one.does; is = refl }) same,
)
  where
    next : (a b c : ℕ) → a ≡ b + suc c → a ≡ suc b + c
    next a b c e = omega (arith, e)

-- ---- requests of one lane

-- These requests were taken.
pub record AskedSome (requests : List (List ℕ)) (s t : ReaderLane) : Type 0 where
  pub is : t ≡ with_asked s (took s.requests requests)

took_none : {A : Type 0} (e : TakerEnd A) → took e [] ≡ e
took_none e = ap (λ l. record { line = e.line; least = e.least; taken = l; misses = e.misses }) (append-nil e.taken)

took_more : {A : Type 0} (e : TakerEnd A) (xs ys : List A) → took (took e xs) ys ≡ took e (xs ++ ys)
took_more e xs ys = ap (λ l. record { line = e.line; least = e.least; taken = l; misses = e.misses }) (append_assoc e.taken xs ys)

set_same : (ss : List ReaderLane) (k : ℕ) (s : ReaderLane) → slice_get ss k ≡ Some s → slice_set ss k s ≡ ss
set_same [] k s at = refl
set_same (x ∷ ss) zero s at = ap (λ y. y ∷ ss) (sym (some_same x s at))
set_same (x ∷ ss) (suc k) s at = ap (λ l. x ∷ l) (set_same ss k s at)

get_some : (ss : List ReaderLane) (k : ℕ) → k < length ss → (s : ReaderLane) × (slice_get ss k ≡ Some s)
get_some [] k few = absurd (omega arith)
get_some (x ∷ ss) zero few = (x, refl)
get_some (x ∷ ss) (suc k) few = get_some ss k (omega (arith, few))

get_set : (ss : List ReaderLane) (k : ℕ) (s t : ReaderLane) → slice_get ss k ≡ Some s → slice_get (slice_set ss k t) k ≡ Some t
get_set [] k s t at = absurd (cc)
get_set (x ∷ ss) zero s t at = refl
get_set (x ∷ ss) (suc k) s t at = get_set ss k s t at

set_set : (ss : List ReaderLane) (k : ℕ) (s t : ReaderLane) → slice_set (slice_set ss k s) k t ≡ slice_set ss k t
set_set [] k s t = refl
set_set (x ∷ ss) zero s t = refl
set_set (x ∷ ss) (suc k) s t = ap (λ l. x ∷ l) (set_set ss k s t)

pub asks_begin : (ss : List ReaderLane) (k : ℕ) → k < length ss → DoesAt (AskedSome []) k ss ss
unfolding get_some
asks_begin ss k few = record {
  side = (get_some ss k few).0;
  at = (get_some ss k few).1;
  after = (get_some ss k few).0;
  does = record { is = ap (with_asked (get_some ss k few).0) (sym (took_none (get_some ss k few).0.requests)) };
  is = sym (set_same ss k (get_some ss k few).0 (get_some ss k few).1);
}

-- two things at the same lane
at_twice : (Does Then Both : ReaderLane → ReaderLane → Type 0) (k : ℕ) (ss ts us : List ReaderLane) → DoesAt Does k ss ts → DoesAt Then k ts us
    → ((s t u : ReaderLane) → Does s t → Then t u → Both s u) → DoesAt Both k ss us
at_twice Does Then Both k ss ts us one two both = record {
  side = one.side;
  at = one.at;
  after = two.after;
  does = both one.side one.after two.after one.does (subst (λ x. Then x two.after) middle two.does);
  is = two.is ∙ (ap (λ l. slice_set l k two.after) one.is ∙ set_set ss k one.after two.after);
}
  where
    middle : two.side ≡ one.after
    middle = some_same two.side one.after (sym two.at ∙ (ap (λ l. slice_get l k) one.is ∙ get_set ss k one.side one.after one.at))

pub asks_more : (requests : List (List ℕ)) (request : List ℕ) (k : ℕ) (ss ts us : List ReaderLane) → DoesAt (AskedSome requests) k ss ts → DoesAt (AsksOne request) k ts us
    → DoesAt (AskedSome (requests ++ request ∷ [])) k ss us
asks_more requests request k ss ts us one two =
    at_twice (AskedSome requests) (AsksOne request) (AskedSome (requests ++ request ∷ [])) k ss ts us one two
    (λ s t u first second. record {
      is = second ∙ (ap (λ x. with_asked x (took x.requests (request ∷ []))) first.is ∙ ap (with_asked s) (took_more s.requests requests (request ∷ [])));
    })

pub asks_none : (requests : List (List ℕ)) (k : ℕ) (ss ts us : List ReaderLane) → DoesAt (AskedSome requests) k ss ts → length requests < 64
    → DoesAt AsksNone k ts us → DoesAt (Asks requests) k ss us
asks_none requests k ss ts us one few two =
    at_twice (AskedSome requests) AsksNone (Asks requests) k ss ts us one two
    (λ s t u first second. inr (record {
      few = few;
      is = second.is ∙ ap (λ x. with_asked x (missed x.requests)) first.is;
      empty = subst WasEmpty (ap (λ x. x.requests) first.is) second.empty;
    }))

pub asks_many : (requests : List (List ℕ)) (k : ℕ) (ss ts : List ReaderLane) → DoesAt (AskedSome requests) k ss ts → length requests ≡ 64 → DoesAt (Asks requests) k ss ts
asks_many requests k ss ts one many = record {
  side = one.side;
  at = one.at;
  after = one.after;
  does = inl (record { many = many; is = one.does.is });
  is = one.is;
}

-- ---- requests of all lanes

abbrev pub AskedTo : ℕ → List (List (List ℕ)) → List ReaderLane → List ReaderLane → Type 0
AskedTo zero rss ss ts = (rss ≡ []) × (ts ≡ ss)
AskedTo (suc i) (rs ∷ rss) (s ∷ ss) (t ∷ ts) = Asks rs s t × AskedTo i rss ss ts
AskedTo (suc i) rss ss ts = ⊥

asked_next : (i : ℕ) (rss : List (List (List ℕ))) (rs : List (List ℕ)) (ss ts us : List ReaderLane) → AskedTo i rss ss ts → DoesAt (Asks rs) i ts us
    → AskedTo (suc i) (rss ++ rs ∷ []) ss us
asked_next zero (x ∷ rss) rs ss ts us to one = absurd (none to.0)
  where
    none : x ∷ rss ≡ [] → ⊥
    none e = cc
asked_next zero [] rs [] ts us to one = absurd (none_there ts 0 one.side to.1 one.at)
asked_next zero [] rs (s ∷ ss) [] us to one = absurd (none to.1)
  where
    none : [] ≡ s ∷ ss → ⊥
    none e = cc
asked_next zero [] rs (s ∷ ss) (t ∷ ts) us to one =
    subst (AskedTo 1 (rs ∷ []) (s ∷ ss)) (sym one.is) (subst (λ x. Asks rs x one.after) (sym (some_same t one.side one.at) ∙ head_same to.1) one.does, (refl, tail_same to.1))
  where
    head_same : t ∷ ts ≡ s ∷ ss → t ≡ s
    head_same e = cc

    tail_same : t ∷ ts ≡ s ∷ ss → ts ≡ ss
    tail_same e = cc
asked_next (suc i) [] rs ss ts us to one = absurd to
asked_next (suc i) (x ∷ rss) rs [] ts us to one = absurd to
asked_next (suc i) (x ∷ rss) rs (s ∷ ss) [] us to one = absurd to
asked_next (suc i) (x ∷ rss) rs (s ∷ ss) (t ∷ ts) us to one = subst (AskedTo (suc (suc i)) (x ∷ rss ++ rs ∷ []) (s ∷ ss)) (sym one.is) (
  to.0,
  asked_next i rss rs ss ts (slice_set ts i one.after) to.1 (record { side = one.side; at = one.at; after = one.after; does = one.does; is = refl }),
)

pub asked_all : (i : ℕ) (rss : List (List (List ℕ))) (ss ts : List ReaderLane) → i ≡ length ss → AskedTo i rss ss ts → AsksEach rss ss ts
asked_all zero (x ∷ rss) ss ts all to = absurd (none to.0)
  where
    none : x ∷ rss ≡ [] → ⊥
    none e = cc
asked_all zero [] [] [] all to = tt
asked_all zero [] [] (t ∷ ts) all to = absurd (none to.1)
  where
    none : t ∷ ts ≡ [] → ⊥
    none e = cc
asked_all zero [] (s ∷ ss) ts all to = absurd (omega (arith, all))
asked_all (suc i) [] ss ts all to = absurd to
asked_all (suc i) (x ∷ rss) [] ts all to = absurd to
asked_all (suc i) (x ∷ rss) (s ∷ ss) [] all to = absurd to
asked_all (suc i) (x ∷ rss) (s ∷ ss) (t ∷ ts) all to = (to.0, asked_all i rss ss ts (omega (arith, all)) to.1)

pub joined-push : (rss : List (List (List ℕ))) (rs : List (List ℕ)) → joined (rss ++ rs ∷ []) ≡ joined rss ++ rs
joined-push [] rs = append-nil rs
joined-push (x ∷ rss) rs = ap (λ l. x ++ l) (joined-push rss rs) ∙ sym (append_assoc x (joined rss) rs)

-- ---- the loops' own counts

one_more : (i : ℕ) → suc i ≡ i + 1
one_more i = omega arith

pub each_step : (Does : ℕ → ReaderLane → ReaderLane → Type 0) (i : ℕ) (ss ts us : List ReaderLane) → EachTo Does i 0 ss ts → DoesAt (Does i) i ts us
    → EachTo Does (i + 1) 0 ss us
each_step Does i ss ts us to one = subst (λ n. EachTo Does n 0 ss us) (one_more i) (each_next Does i 0 i ss ts us (omega arith) to one)

pub asked_step : (i : ℕ) (rss : List (List (List ℕ))) (rs : List (List ℕ)) (ss ts us : List ReaderLane) → AskedTo i rss ss ts → DoesAt (Asks rs) i ts us
    → AskedTo (i + 1) (rss ++ rs ∷ []) ss us
asked_step i rss rs ss ts us to one = subst (λ n. AskedTo n (rss ++ rs ∷ []) ss us) (one_more i) (asked_next i rss rs ss ts us to one)
