-- The laws of kept packets.
use Rattle.std.proofs.Common.{◌≡◌, ◌≢◌, ◌⊎◌, inl, inr, subst, ℕ, zero, suc, ◌<◌, List, [], ◌∷◌, ◌++◌, length, get_or, map, Bool, true, false, refl, ap, sym, ◌∙◌, arith, append_assoc}
use Rattle.std.specs.Prelude.{◌&&◌, ◌||◌, ◌==◌, not, if◌then◌else◌}
use Rattle.std.specs.List.{AllByRecursion, AllPairs}
use Rattle.std.proofs.lemmas.List.{append-nil, map-append}
use Rattle.std.proofs.lemmas.List.Elements.{All-from_recursion}
use Rattle.std.proofs.lemmas.Bool.{or_parts, or_left, or_right, eqb-true, eqb-false, eq-eqb, and_cases, and_parts, and_from, not_from_false, cases_Bool}
use Rattle.stream_packets.specs.declared.fields.LeaderInfo.{LeaderInfo}
use Rattle.stream_packets.specs.Packets.{StreamPacket, leader, payload, trailer, notice, head_of, is_trailer, is_notice}
use Rattle.block_image.specs.Kept.{kept, kept_after, keep, takes, fits, has_id, has_trailer}
use Rattle.block_image.specs.KeptFacts.{may_keep, HasDistinctIds, HasOneTrailer}
use Rattle.block_image.specs.KeptLaws.{IsSublist, is_empty, with_head, without_head, with_info, MayBeKept, KeepsNoIdTwice, KeepsOneTrailer, KeepsInOrder, KeepsTheFirst, KeepsWhatFits, MissesNothing, IgnoresLeaderInfo}
use Rattle.block_image.proofs.KeptLemmas.{kept-append, keep-taken, keep-left, has_id-push, has_trailer-push}
use Rattle.block_image.proofs.IsKept.{keep_by, IsKept-kept, may_keep_parts}
use Rattle.block_image.proofs.Members.{Has, has_from_Contains}

all_at : {X : Type 0} (P : X → Type 0) (xs : List X) → AllByRecursion P xs → (k : ℕ) (d : X) → k < length xs → P (get_or xs k d)
all_at P xs all = All-from_recursion P xs all

pairs_cons : {X : Type 0} (R : X → X → Type 0) (x : X) (xs : List X) → AllByRecursion (R x) xs → AllPairs R xs → (i j : ℕ) (d : X) → i < j → j < length (x ∷ xs) → R (get_or (x ∷ xs) i d) (get_or (x ∷ xs) j d)
pairs_cons R x xs all pairs zero zero d less inside = absurd (omega arith)
pairs_cons R x xs all pairs zero (suc j) d less inside = all_at (R x) xs all j d (omega arith)
pairs_cons R x xs all pairs (suc i) zero d less inside = absurd (omega arith)
pairs_cons R x xs all pairs (suc i) (suc j) d less inside = pairs i j d (omega arith) (omega arith)

-- no id twice

other_ids : (k : ℕ) (xs : List StreamPacket) → has_id k xs ≡ false → AllByRecursion (λ y. k ≢ (head_of y).id) xs
other_ids k [] none = tt
other_ids k (x ∷ xs) none =
    let parts = or_parts ((head_of x).id == k) (has_id k xs) none in
    (λ e. eqb-false (head_of x).id k parts.0 (sym e), other_ids k xs parts.1)

pub pairs_from_distinct : (ks : List StreamPacket) → HasDistinctIds ks → AllPairs (λ x y. (head_of x).id ≢ (head_of y).id) ks
pairs_from_distinct [] distinct = λ i j d less inside. absurd (omega arith)
pairs_from_distinct (x ∷ xs) distinct =
    pairs_cons (λ x y. (head_of x).id ≢ (head_of y).id) x xs (other_ids (head_of x).id xs distinct.0) (pairs_from_distinct xs distinct.1)

pub keeps_no_id_twice : KeepsNoIdTwice
keeps_no_id_twice p b xs = pairs_from_distinct (kept p b xs) (IsKept-kept p b xs).distinct

-- one trailer

no_trailers : (xs : List StreamPacket) → has_trailer xs ≡ false → AllByRecursion (λ y. is_trailer y ≡ false) xs
no_trailers [] none = tt
no_trailers (x ∷ xs) none = let parts = or_parts (is_trailer x) (has_trailer xs) none in (parts.0, no_trailers xs parts.1)

all_weaker : {X : Type 0} (P Q : X → Type 0) (xs : List X) → ((x : X) → P x → Q x) → AllByRecursion P xs → AllByRecursion Q xs
all_weaker P Q [] f all = tt
all_weaker P Q (x ∷ xs) f all = (f x all.0, all_weaker P Q xs f all.1)

all_of : {X : Type 0} (P : X → Type 0) (xs : List X) → ((x : X) → P x) → AllByRecursion P xs
all_of P [] f = tt
all_of P (x ∷ xs) f = (f x, all_of P xs f)

later_trailers : (x : StreamPacket) (xs : List StreamPacket) → (is_trailer x && has_trailer xs) ≡ false → AllByRecursion (λ y. is_trailer x ≡ true → is_trailer y ≡ false) xs
later_trailers x xs none = go (and_cases (is_trailer x) (has_trailer xs) none) where
  go : (is_trailer x ≡ false) ⊎ (has_trailer xs ≡ false) → AllByRecursion (λ y. is_trailer x ≡ true → is_trailer y ≡ false) xs
  go (inl other) = all_of (λ y. is_trailer x ≡ true → is_trailer y ≡ false) xs (λ y is. cc (is, other))
  go (inr later) = all_weaker (λ y. is_trailer y ≡ false) (λ y. is_trailer x ≡ true → is_trailer y ≡ false) xs (λ y is _. is) (no_trailers xs later)

pub pairs_from_one_trailer : (ks : List StreamPacket) → HasOneTrailer ks → AllPairs (λ x y. is_trailer x ≡ true → is_trailer y ≡ false) ks
pairs_from_one_trailer [] one = λ i j d less inside. absurd (omega arith)
pairs_from_one_trailer (x ∷ xs) one =
    pairs_cons (λ x y. is_trailer x ≡ true → is_trailer y ≡ false) x xs (later_trailers x xs one.0) (pairs_from_one_trailer xs one.1)

pub keeps_one_trailer : KeepsOneTrailer
keeps_one_trailer p b xs = pairs_from_one_trailer (kept p b xs) (IsKept-kept p b xs).one_trailer

-- in order

IsSublist-itself : (xs : List StreamPacket) → IsSublist xs xs
IsSublist-itself [] = is_empty
IsSublist-itself (x ∷ xs) = with_head (IsSublist-itself xs)

IsSublist-insert : (ks bs xs : List StreamPacket) (x : StreamPacket) → IsSublist ks (bs ++ xs) → IsSublist ks (bs ++ x ∷ xs)
IsSublist-insert ks [] xs x s = without_head s
IsSublist-insert (k ∷ ks) (b ∷ bs) xs x (with_head s) = with_head (IsSublist-insert ks bs xs x s)
IsSublist-insert ks (b ∷ bs) xs x (without_head s) = without_head (IsSublist-insert ks bs xs x s)

pub IsSublist-kept_after : (p b : ℕ) (before xs : List StreamPacket) → IsSublist (kept_after p b before xs) (before ++ xs)
IsSublist-kept_after p b before [] = rw (append-nil before) (IsSublist-itself before)
IsSublist-kept_after p b before (x ∷ xs) = go (IsSublist-kept_after p b (keep p b before x) xs) (cases_Bool (takes p b before x)) where
  go : IsSublist (kept_after p b (keep p b before x) xs) (keep p b before x ++ xs) → (takes p b before x ≡ true) ⊎ (takes p b before x ≡ false) → IsSublist (kept_after p b (keep p b before x) xs) (before ++ x ∷ xs)
  go s (inl taken) =
      let same : keep p b before x ++ xs ≡ before ++ x ∷ xs = ap (λ ks. ks ++ xs) (keep-taken p b before x taken) ∙ append_assoc before (x ∷ []) xs in
      subst (λ ys. IsSublist (kept_after p b (keep p b before x) xs) ys) same s
  go s (inr left) =
      let same : keep p b before x ++ xs ≡ before ++ xs = ap (λ ks. ks ++ xs) (keep-left p b before x left) in
      IsSublist-insert (kept_after p b (keep p b before x) xs) before xs x (subst (λ ys. IsSublist (kept_after p b (keep p b before x) xs) ys) same s)

pub keeps_in_order : KeepsInOrder
keeps_in_order p b xs = IsSublist-kept_after p b [] xs

-- the first

front_kept : (p b : ℕ) (before ys : List StreamPacket) → (later : List StreamPacket) × (kept_after p b before ys ≡ before ++ later)
front_kept p b before [] = ([], sym (append-nil before))
front_kept p b before (y ∷ ys) = go (front_kept p b (keep p b before y) ys) (cases_Bool (takes p b before y)) where
  go : (later : List StreamPacket) × (kept_after p b (keep p b before y) ys ≡ keep p b before y ++ later) → (takes p b before y ≡ true) ⊎ (takes p b before y ≡ false) → (later : List StreamPacket) × (kept_after p b (keep p b before y) ys ≡ before ++ later)
  go rest (inl taken) =
      (y ∷ rest.0, rest.1 ∙ ap (λ ks. ks ++ rest.0) (keep-taken p b before y taken) ∙ append_assoc before (y ∷ []) rest.0)
  go rest (inr left) = (rest.0, rest.1 ∙ ap (λ ks. ks ++ rest.0) (keep-left p b before y left))

pub keeps_the_first : KeepsTheFirst
keeps_the_first p b xs ys =
    let rest = front_kept p b (kept p b xs) ys in
    (rest.0, kept-append p b xs ys ∙ rest.1)

-- what fits

pub MayBeKept-from_test : (p b : ℕ) (x : StreamPacket) → may_keep p b x ≡ true → MayBeKept p b x
MayBeKept-from_test p b x may =
    let m = may_keep_parts p b x may in
    record {
      of_block = eqb-true (head_of x).block b m.block;
      no_notice = m.no_notice;
      fits = (and_parts ((head_of x).block == b && not (is_notice x)) (fits p x) may).1;
    }

pub may_keep_from_MayBeKept : (p b : ℕ) (x : StreamPacket) → MayBeKept p b x → may_keep p b x ≡ true
may_keep_from_MayBeKept p b x m =
    and_from ((head_of x).block == b && not (is_notice x)) (fits p x)
    (and_from ((head_of x).block == b) (not (is_notice x)) (eq-eqb (head_of x).block b m.of_block) (not_from_false (is_notice x) m.no_notice))
    m.fits

pub keeps_what_fits : KeepsWhatFits
keeps_what_fits p b xs =
    All-from_recursion (MayBeKept p b) (kept p b xs)
    (all_weaker (λ x. may_keep p b x ≡ true) (MayBeKept p b) (kept p b xs) (MayBeKept-from_test p b) (IsKept-kept p b xs).of_block)

-- nothing is missed

-- the packet is kept, or another with its id, or another trailer
abbrev pub IsAnswered : List StreamPacket → StreamPacket → Type 0
IsAnswered ks x = (has_id (head_of x).id ks ≡ true) ⊎ ((is_trailer x ≡ true) × (has_trailer ks ≡ true))

IsAnswered-push : (ks : List StreamPacket) (x y : StreamPacket) → IsAnswered ks x → IsAnswered (ks ++ y ∷ []) x
IsAnswered-push ks x y (inl by_id) = inl (has_id-push (head_of x).id ks y ∙ or_left (has_id (head_of x).id ks) ((head_of y).id == (head_of x).id) by_id)
IsAnswered-push ks x y (inr by_kind) = inr (by_kind.0, has_trailer-push ks y ∙ or_left (has_trailer ks) (is_trailer y) by_kind.1)

IsAnswered-kept_after : (p b : ℕ) (ks xs : List StreamPacket) (x : StreamPacket) → IsAnswered ks x → IsAnswered (kept_after p b ks xs) x
IsAnswered-kept_after p b ks [] x is = is
IsAnswered-kept_after p b ks (y ∷ ys) x is =
    IsAnswered-kept_after p b (keep p b ks y) ys x (keep_by p b (λ ls. IsAnswered ls x) ks y is (λ _. IsAnswered-push ks x y is))

-- a test that fails though its first part holds
left_by : (m i t r : Bool) → m ≡ true → (m && not i && not (t && r)) ≡ false → (i ≡ true) ⊎ ((t ≡ true) × (r ≡ true))
left_by true true t r may left = inl refl
left_by true false true true may left = inr (refl, refl)
left_by true false true false may left = cc
left_by true false false r may left = cc
left_by false i t r may left = cc

IsAnswered-keep : (p b : ℕ) (ks : List StreamPacket) (x : StreamPacket) → may_keep p b x ≡ true → IsAnswered (keep p b ks x) x
IsAnswered-keep p b ks x may = go (cases_Bool (takes p b ks x)) where
  go : (takes p b ks x ≡ true) ⊎ (takes p b ks x ≡ false) → IsAnswered (keep p b ks x) x
  go (inl taken) =
      let new : has_id (head_of x).id (ks ++ x ∷ []) ≡ true =
      has_id-push (head_of x).id ks x ∙ or_right (has_id (head_of x).id ks) ((head_of x).id == (head_of x).id) (eq-eqb (head_of x).id (head_of x).id refl) in
      inl (ap (has_id (head_of x).id) (keep-taken p b ks x taken) ∙ new)
  go (inr left) =
      subst (λ ls. IsAnswered ls x) (sym (keep-left p b ks x left))
      (left_by (may_keep p b x) (has_id (head_of x).id ks) (is_trailer x) (has_trailer ks) may left)

pub IsAnswered-has : (p b : ℕ) (ks xs : List StreamPacket) (x : StreamPacket) → Has xs x → may_keep p b x ≡ true → IsAnswered (kept_after p b ks xs) x
IsAnswered-has p b ks [] x has may = absurd has
IsAnswered-has p b ks (y ∷ ys) x (inl e) may =
    subst (λ z. IsAnswered (kept_after p b (keep p b ks z) ys) x) (sym e) (IsAnswered-kept_after p b (keep p b ks x) ys x (IsAnswered-keep p b ks x may))
IsAnswered-has p b ks (y ∷ ys) x (inr has) may = IsAnswered-has p b (keep p b ks y) ys x has may

pub misses_nothing : MissesNothing
misses_nothing p b xs x came may =
    IsAnswered-has p b [] xs x (has_from_Contains xs x came) (may_keep_from_MayBeKept p b x may)

-- leaders' words

has_id-with_info : (f : LeaderInfo → LeaderInfo) (k : ℕ) (ks : List StreamPacket) → has_id k (map (with_info f) ks) ≡ has_id k ks
has_id-with_info f k [] = refl
has_id-with_info f k (leader h i ∷ xs) = ap (λ c. h.id == k || c) (has_id-with_info f k xs)
has_id-with_info f k (payload h d ∷ xs) = ap (λ c. h.id == k || c) (has_id-with_info f k xs)
has_id-with_info f k (trailer h y ∷ xs) = ap (λ c. h.id == k || c) (has_id-with_info f k xs)
has_id-with_info f k (notice h ∷ xs) = ap (λ c. h.id == k || c) (has_id-with_info f k xs)

has_trailer-with_info : (f : LeaderInfo → LeaderInfo) (ks : List StreamPacket) → has_trailer (map (with_info f) ks) ≡ has_trailer ks
has_trailer-with_info f [] = refl
has_trailer-with_info f (leader h i ∷ xs) = has_trailer-with_info f xs
has_trailer-with_info f (payload h d ∷ xs) = has_trailer-with_info f xs
has_trailer-with_info f (trailer h y ∷ xs) = refl
has_trailer-with_info f (notice h ∷ xs) = has_trailer-with_info f xs

takes-with_info : (f : LeaderInfo → LeaderInfo) (p b : ℕ) (ks : List StreamPacket) (x : StreamPacket) → takes p b (map (with_info f) ks) (with_info f x) ≡ takes p b ks x
takes-with_info f p b ks (leader h i) = ap (λ c. may_keep p b (leader h i) && not c && true) (has_id-with_info f h.id ks)
takes-with_info f p b ks (payload h d) = ap (λ c. may_keep p b (payload h d) && not c && true) (has_id-with_info f h.id ks)
takes-with_info f p b ks (trailer h y) =
    ap (λ c. may_keep p b (trailer h y) && not c && not (has_trailer (map (with_info f) ks))) (has_id-with_info f h.id ks)
    ∙ ap (λ c. may_keep p b (trailer h y) && not (has_id h.id ks) && not c) (has_trailer-with_info f ks)
takes-with_info f p b ks (notice h) = ap (λ c. may_keep p b (notice h) && not c && true) (has_id-with_info f h.id ks)

keep-with_info : (f : LeaderInfo → LeaderInfo) (p b : ℕ) (ks : List StreamPacket) (x : StreamPacket) → keep p b (map (with_info f) ks) (with_info f x) ≡ map (with_info f) (keep p b ks x)
keep-with_info f p b ks x =
    ap (λ c. if c then map (with_info f) ks ++ with_info f x ∷ [] else map (with_info f) ks) (takes-with_info f p b ks x) ∙ go (takes p b ks x) where
      go : (c : Bool) → (if c then map (with_info f) ks ++ with_info f x ∷ [] else map (with_info f) ks) ≡ map (with_info f) (if c then ks ++ x ∷ [] else ks)
      go true = sym (map-append (with_info f) ks (x ∷ []))
      go false = refl

kept_after-with_info : (f : LeaderInfo → LeaderInfo) (p b : ℕ) (ks xs : List StreamPacket) → kept_after p b (map (with_info f) ks) (map (with_info f) xs) ≡ map (with_info f) (kept_after p b ks xs)
kept_after-with_info f p b ks [] = refl
kept_after-with_info f p b ks (x ∷ xs) =
    ap (λ ls. kept_after p b ls (map (with_info f) xs)) (keep-with_info f p b ks x) ∙ kept_after-with_info f p b (keep p b ks x) xs

pub ignores_leader_info : IgnoresLeaderInfo
ignores_leader_info f p b xs = kept_after-with_info f p b [] xs
