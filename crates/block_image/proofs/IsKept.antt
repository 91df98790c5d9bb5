-- What holds of each list of kept packets, through one more packet.
use Rattle.std.proofs.Common.{◌≡◌, ◌⊎◌, inl, inr, subst, ℕ, ◌≤◌, List, [], ◌∷◌, ◌++◌, length, Bool, true, false, refl, sym, ◌∙◌}
use Rattle.std.specs.Prelude.{◌&&◌, ◌||◌, ◌==◌, not, nat_le}
use Rattle.std.specs.List.{AllByRecursion}
use Rattle.std.proofs.lemmas.Bool.{and_parts, and_from, or_parts, or_from, leb-true, eqb-false, ne_eqb, not-true, not_from_false, cases_Bool}
use Rattle.stream_packets.specs.declared.fields.Head.{Head}
use Rattle.stream_packets.specs.Packets.{StreamPacket, payload, head_of, is_trailer, is_notice}
use Rattle.block_image.specs.Kept.{kept, kept_after, keep, takes, fits, is_good_status, fits_payload, has_id, has_trailer}
use Rattle.block_image.specs.KeptFacts.{HasDistinctIds, HasOneTrailer, may_keep, IsKept}
use Rattle.block_image.proofs.KeptLemmas.{has_id-push, has_trailer-push, keep-taken, keep-left}

pub AllByRecursion-push : {X : Type 0} (P : X → Type 0) (xs : List X) (x : X) → AllByRecursion P xs → P x → AllByRecursion P (xs ++ x ∷ [])
AllByRecursion-push P [] x all new = (new, tt)
AllByRecursion-push P (y ∷ ys) x all new = (all.0, AllByRecursion-push P ys x all.1 new)

-- what `takes` tests, part by part
pub record Takes (p b : ℕ) (ks : List StreamPacket) (x : StreamPacket) : Type 0 where
  pub may : may_keep p b x ≡ true
  pub new_id : has_id (head_of x).id ks ≡ false
  pub one_trailer : (is_trailer x && has_trailer ks) ≡ false

pub takes_parts : (p b : ℕ) (ks : List StreamPacket) (x : StreamPacket) → takes p b ks x ≡ true → Takes p b ks x
takes_parts p b ks x taken =
    let first = and_parts (may_keep p b x && not (has_id (head_of x).id ks)) (not (is_trailer x && has_trailer ks)) taken in
    let rest = and_parts (may_keep p b x) (not (has_id (head_of x).id ks)) first.0 in
    record {
      may = rest.0;
      new_id = not-true (has_id (head_of x).id ks) rest.1;
      one_trailer = not-true (is_trailer x && has_trailer ks) first.1;
    }

pub takes_from : (p b : ℕ) (ks : List StreamPacket) (x : StreamPacket) → Takes p b ks x → takes p b ks x ≡ true
takes_from p b ks x t =
    and_from (may_keep p b x && not (has_id (head_of x).id ks)) (not (is_trailer x && has_trailer ks))
    (and_from (may_keep p b x) (not (has_id (head_of x).id ks)) t.may (not_from_false (has_id (head_of x).id ks) t.new_id))
    (not_from_false (is_trailer x && has_trailer ks) t.one_trailer)

-- a packet that may be kept is of the block, has a good status, and its id and payload fit
pub record MayKeep (p b : ℕ) (x : StreamPacket) : Type 0 where
  pub block : ((head_of x).block == b) ≡ true
  pub no_notice : is_notice x ≡ false
  pub status : is_good_status (head_of x).status ≡ true
  pub id : nat_le (head_of x).id 131073 ≡ true
  pub payload : fits_payload p x ≡ true

pub may_keep_parts : (p b : ℕ) (x : StreamPacket) → may_keep p b x ≡ true → MayKeep p b x
may_keep_parts p b x may =
    let first = and_parts ((head_of x).block == b && not (is_notice x)) (fits p x) may in
    let kind = and_parts ((head_of x).block == b) (not (is_notice x)) first.0 in
    let fit = and_parts (is_good_status (head_of x).status && nat_le (head_of x).id 131073) (fits_payload p x) first.1 in
    let head = and_parts (is_good_status (head_of x).status) (nat_le (head_of x).id 131073) fit.0 in
    record {
      block = kind.0;
      no_notice = not-true (is_notice x) kind.1;
      status = head.0;
      id = head.1;
      payload = fit.1;
    }

pub may_keep_from : (p b : ℕ) (x : StreamPacket) → MayKeep p b x → may_keep p b x ≡ true
may_keep_from p b x m =
    and_from ((head_of x).block == b && not (is_notice x)) (fits p x)
    (and_from ((head_of x).block == b) (not (is_notice x)) m.block (not_from_false (is_notice x) m.no_notice))
    (and_from (is_good_status (head_of x).status && nat_le (head_of x).id 131073) (fits_payload p x)
    (and_from (is_good_status (head_of x).status) (nat_le (head_of x).id 131073) m.status m.id) m.payload)

-- a payload that may be kept has at most p bytes
pub may_keep-payload : (p b : ℕ) (h : Head) (d : List ℕ) → may_keep p b (payload h d) ≡ true → length d ≤ p
may_keep-payload p b h d may = leb-true (length d) p (may_keep_parts p b (payload h d) may).payload

eqb-false_swap : (a b : ℕ) → (a == b) ≡ false → (b == a) ≡ false
eqb-false_swap a b h = ne_eqb b a (λ e. eqb-false a b h (sym e))

pub HasDistinctIds-push : (ks : List StreamPacket) (x : StreamPacket) → HasDistinctIds ks → has_id (head_of x).id ks ≡ false → HasDistinctIds (ks ++ x ∷ [])
HasDistinctIds-push [] x apart new = (refl, tt)
HasDistinctIds-push (y ∷ ys) x apart new =
    let parts = or_parts ((head_of y).id == (head_of x).id) (has_id (head_of x).id ys) new in (
      has_id-push (head_of y).id ys x
          ∙ or_from (has_id (head_of y).id ys) ((head_of x).id == (head_of y).id) apart.0 (eqb-false_swap (head_of y).id (head_of x).id parts.0),
      HasDistinctIds-push ys x apart.1 parts.1,
    )

no_second : (ty hy tx : Bool) → (ty && hy) ≡ false → (tx && (ty || hy)) ≡ false → (ty && (hy || tx)) ≡ false
no_second false hy tx old new = refl
no_second true false false old new = refl
no_second true false true old new = cc
no_second true true tx old new = cc

no_later : (ty hy tx : Bool) → (tx && (ty || hy)) ≡ false → (tx && hy) ≡ false
no_later ty hy false new = refl
no_later true hy true new = cc
no_later false hy true new = new

pub HasOneTrailer-push : (ks : List StreamPacket) (x : StreamPacket) → HasOneTrailer ks → (is_trailer x && has_trailer ks) ≡ false → HasOneTrailer (ks ++ x ∷ [])
HasOneTrailer-push [] x one new = (new, tt)
HasOneTrailer-push (y ∷ ys) x one new = (
  rw (has_trailer-push ys x) (no_second (is_trailer y) (has_trailer ys) (is_trailer x) one.0 new),
  HasOneTrailer-push ys x one.1 (no_later (is_trailer y) (has_trailer ys) (is_trailer x) new),
)

pub IsKept-nil : (p b : ℕ) → IsKept p b []
IsKept-nil p b = record { distinct = tt; one_trailer = tt; of_block = tt }

pub IsKept-push : (p b : ℕ) (ks : List StreamPacket) (x : StreamPacket) → IsKept p b ks → takes p b ks x ≡ true → IsKept p b (ks ++ x ∷ [])
IsKept-push p b ks x is taken =
    let t = takes_parts p b ks x taken in
    record {
      distinct = HasDistinctIds-push ks x is.distinct t.new_id;
      one_trailer = HasOneTrailer-push ks x is.one_trailer t.one_trailer;
      of_block = AllByRecursion-push (λ y. may_keep p b y ≡ true) ks x is.of_block t.may;
    }

-- what holds of a list of kept packets, and through each that is taken, holds of what is kept in the end
pub keep_by : (p b : ℕ) (P : List StreamPacket → Type 0) (ks : List StreamPacket) (x : StreamPacket) → P ks → (takes p b ks x ≡ true → P (ks ++ x ∷ [])) → P (keep p b ks x)
keep_by p b P ks x old new = go (cases_Bool (takes p b ks x)) where
  go : (takes p b ks x ≡ true) ⊎ (takes p b ks x ≡ false) → P (keep p b ks x)
  go (inl taken) = subst P (sym (keep-taken p b ks x taken)) (new taken)
  go (inr left) = subst P (sym (keep-left p b ks x left)) old

pub IsKept-keep : (p b : ℕ) (ks : List StreamPacket) (x : StreamPacket) → IsKept p b ks → IsKept p b (keep p b ks x)
IsKept-keep p b ks x is = keep_by p b (IsKept p b) ks x is (IsKept-push p b ks x is)

pub IsKept-kept_after : (p b : ℕ) (ks xs : List StreamPacket) → IsKept p b ks → IsKept p b (kept_after p b ks xs)
IsKept-kept_after p b ks [] is = is
IsKept-kept_after p b ks (x ∷ xs) is = IsKept-kept_after p b (keep p b ks x) xs (IsKept-keep p b ks x is)

pub IsKept-kept : (p b : ℕ) (xs : List StreamPacket) → IsKept p b (kept p b xs)
IsKept-kept p b xs = IsKept-kept_after p b [] xs (IsKept-nil p b)

-- what holds of each packet that came holds of each kept one
pub kept_after-all : (p b : ℕ) (P : StreamPacket → Type 0) (ks xs : List StreamPacket) → AllByRecursion P ks → AllByRecursion P xs → AllByRecursion P (kept_after p b ks xs)
kept_after-all p b P ks [] old all = old
kept_after-all p b P ks (x ∷ xs) old all =
    kept_after-all p b P (keep p b ks x) xs (keep_by p b (AllByRecursion P) ks x old (λ _. AllByRecursion-push P ks x old all.0)) all.1

pub kept-all : (p b : ℕ) (P : StreamPacket → Type 0) (xs : List StreamPacket) → AllByRecursion P xs → AllByRecursion P (kept p b xs)
kept-all p b P xs all = kept_after-all p b P [] xs tt all
