-- What a tape keeps as its link tells one more.
use Rattle.std.proofs.Common.{◌≡◌, ℕ, zero, suc, ◌+◌, ◌<◌, ◌≤◌, nat_lt, Bool, true, false, List, [], ◌∷◌, ◌++◌, length, map, take, Option, Some, None, if◌then◌else◌, refl, sym, ap, subst, ◌∙◌, arith, length-append}
use Rattle.std.specs.List.{AllByRecursion}
use Rattle.std.proofs.lemmas.Bool.{ltb-true, ltb-false}
use Rattle.std.proofs.lemmas.List.{take-append-le, length-take}
use Rattle.gev_types.specs.declared.peer.Peer.{Peer}
use Rattle.gev_links.specs.Links.{Answer, came}
use Rattle.gev_links.specs.Moments.{Tells}
use Rattle.gev_record.specs.Marks.{IsReceived}
use Rattle.gev_record.specs.declared.kept.Kept.{Kept}
use Rattle.gev_record.specs.declared.kept.Kept.TheVariants.{Nothing, Came}
use Rattle.gev_record.specs.Taped.{datagram_of, front_of, KeepsFront, kept_on, shown, Fits}

map-append : {A B : Type 0} (f : A → B) (xs ys : List A) → map f (xs ++ ys) ≡ map f xs ++ map f ys
map-append f [] ys = refl
map-append f (x ∷ xs) ys = ap (λ l. f x ∷ l) (map-append f xs ys)

-- one more answer behind fewer than the tape keeps, and behind as many
front_more : (turns : ℕ) (answers : List Answer) (a : Answer) → length (front_of turns answers) < turns → front_of turns (answers ++ a ∷ []) ≡ front_of turns answers ++ datagram_of a ∷ []
front_more zero answers a few = absurd (omega arith)
front_more (suc n) [] a few = ap (λ l. datagram_of a ∷ l) (none_left n) where
  none_left : (n : ℕ) → map datagram_of (take n []) ≡ []
  none_left zero = refl
  none_left (suc n) = refl
front_more (suc n) (x ∷ answers) a few = ap (λ l. datagram_of x ∷ l) (front_more n answers a (omega (arith, few)))

front_full : (turns : ℕ) (answers : List Answer) (a : Answer) → turns ≤ length (front_of turns answers) → front_of turns (answers ++ a ∷ []) ≡ front_of turns answers
front_full zero [] a full = refl
front_full zero (x ∷ answers) a full = refl
front_full (suc n) [] a full = absurd (omega arith)
front_full (suc n) (x ∷ answers) a full = ap (λ l. datagram_of x ∷ l) (front_full n answers a (omega (arith, full)))

-- ---- one more receive

length-map : {A B : Type 0} (f : A → B) (xs : List A) → length (map f xs) ≡ length xs
length-map f [] = refl
length-map f (x ∷ xs) = ap suc (length-map f xs)

record TapeKeeps (turns : ℕ) (told : Option (List Answer)) (kept : List Kept) : Type 0 where
  few : length kept ≤ turns
  fit : AllByRecursion Fits kept
  front : KeepsFront turns told (map shown kept)

all_snoc : (ks : List Kept) (k : Kept) → AllByRecursion Fits ks → Fits k → AllByRecursion Fits (ks ++ k ∷ [])
all_snoc [] k all fits = (fits, tt)
all_snoc (x ∷ ks) k all fits = (all.0, all_snoc ks k all.1 fits)

keeps_room : (turns : ℕ) (told told_after : Option (List Answer)) (a : Answer) (ks : List Kept) (k : Kept) → length ks < turns → KeepsFront turns told (map shown ks) → Tells told told_after a
    → shown k ≡ datagram_of a → KeepsFront turns told_after (map shown (ks ++ k ∷ []))
keeps_room turns told None a ks k few front tells same = tt
keeps_room turns None (Some new) a ks k few front tells same = absurd tells
keeps_room turns (Some old) (Some new) a ks k few front tells same =
    let counted : length (front_of turns old) ≡ length ks = sym (ap length front) ∙ length-map shown ks in
    map-append shown ks (k ∷ [])
    ∙ (ap (λ l. l ++ shown k ∷ []) front
    ∙ (ap (λ d. front_of turns old ++ d ∷ []) same
    ∙ (sym (front_more turns old a (omega (arith, few, counted))) ∙ ap (front_of turns) (sym tells))))

keeps_full : (turns : ℕ) (told told_after : Option (List Answer)) (a : Answer) (ks : List Kept) → turns ≤ length ks → KeepsFront turns told (map shown ks) → Tells told told_after a
    → KeepsFront turns told_after (map shown ks)
keeps_full turns told None a ks full front tells = tt
keeps_full turns None (Some new) a ks full front tells = absurd tells
keeps_full turns (Some old) (Some new) a ks full front tells =
    let counted : length (front_of turns old) ≡ length ks = sym (ap length front) ∙ length-map shown ks in
    front ∙ (sym (front_full turns old a (omega (arith, full, counted))) ∙ ap (front_of turns) (sym tells))

pub keeps_on : (turns cap cap_after : ℕ) (told told_after : Option (List Answer)) (a : Answer) (ks after : List Kept) (k : Kept)
    → (turns ≤ cap) × (length ks ≤ turns) × AllByRecursion Fits ks × KeepsFront turns told (map shown ks)
    → cap ≤ cap_after → after ≡ kept_on turns ks k → Tells told told_after a → shown k ≡ datagram_of a → Fits k
    → (turns ≤ cap_after) × (length after ≤ turns) × AllByRecursion Fits after × KeepsFront turns told_after (map shown after)
keeps_on turns cap cap_after told told_after a ks after k (room, few, fit, front) more is tells same fits =
    let all = go (nat_lt (length ks) turns) refl in (
      omega (arith, room, more),
      subst (λ l. length l ≤ turns) (sym is) all.few,
      subst (λ l. AllByRecursion Fits l) (sym is) all.fit,
      subst (λ l. KeepsFront turns told_after (map shown l)) (sym is) all.front,
    )
  where
    go : (v : Bool) → nat_lt (length ks) turns ≡ v → TapeKeeps turns told_after (if v then ks ++ k ∷ [] else ks)
    go true e =
        let less : length ks < turns = ltb-true (length ks) turns e in
        record {
          few = (let sum : length (ks ++ k ∷ []) ≡ length ks + 1 = length-append ks (k ∷ []) in omega (arith, sum, less));
          fit = all_snoc ks k fit fits;
          front = keeps_room turns told told_after a ks k less front tells same;
        }
    go false e = record {
      few = few;
      fit = fit;
      front = keeps_full turns told told_after a ks (ltb-false (length ks) turns e) front tells;
    }

-- a datagram in the front of a slice
pub front_told : (was told told_after : Option (List Answer)) (n : ℕ) (front rest : List ℕ) (peer : Peer) → told ≡ was → n ≤ length front → Tells told told_after (came (take n front) peer)
    → Tells was told_after (came (take n (front ++ rest)) peer)
front_told was told told_after n front rest peer same few tells =
    subst (λ w. Tells w told_after (came (take n (front ++ rest)) peer)) same
    (subst (λ l. Tells told told_after (came l peer)) (sym (take-append-le n front rest few)) tells)

-- what fits was received so
pub all_received : (ks : List Kept) → AllByRecursion Fits ks → AllByRecursion IsReceived (map shown ks)
all_received [] all = tt
all_received (Nothing ∷ ks) all = (tt, all_received ks all.1)
all_received (Came bytes len ∷ ks) all = ((all.0.1, (let few = length-take len bytes in let short = all.0.0 in omega (arith, few, short))), all_received ks all.1)
