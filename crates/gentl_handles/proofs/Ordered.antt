-- The order of the handles is kept by each call.
use Rattle.std.proofs.Common.{◌≡◌, ◌≢◌, ℕ, ◌+◌, ◌<◌, ◌≤◌, Bool, true, false, inl, inr, List, [], ◌∷◌, ◌++◌, length, Option, Some, None, Ok, Err, refl, ap, sym, ◌∙◌, subst, arith, append_assoc}
use Rattle.std.specs.Prelude.{◌==◌, ◌||◌, IsSome, is_some, nat_lt, unwrap_or, option_and_then, Result, if◌then◌else◌}
use Rattle.std.proofs.lemmas.List.{append-nil}
use Rattle.std.proofs.lemmas.Bool.{eq-eqb, eqb-true, ne_eqb}
use Rattle.gentl_types.specs.declared.errors.GcError.{GcError}
use Rattle.gentl_types.specs.declared.errors.GcError.TheVariants.{InvalidIndex, ResourceExhausted}
use Rattle.slab.specs.Slab.{Slab, get}
use Rattle.gentl_handles.specs.declared.level.Level.{Level}
use Rattle.gentl_handles.specs.declared.opened.Opened.{Opened}
use Rattle.gentl_handles.specs.Handles.{Handles, found, child_of}
use Rattle.gentl_handles.specs.Opening.{child_level, level_below, most_index, next_opened, opening_at, opening_of, opening}
use Rattle.gentl_handles.specs.Closing.{Sorted, falls, sort_out, sorted_by, none_sorted}
use Rattle.gentl_handles.specs.Calls.{AreOrdered, IsBehind}
use Rattle.gentl_handles.specs.Storing.{nothing_opened, opened_at, opened_by, IsIn, AreStored}

pub low_ordered : (low : ℕ) (os : List Opened) (openings : ℕ) → AreOrdered low os openings → low ≤ openings
low_ordered low [] openings h = h
low_ordered low (o ∷ os) openings h = omega (arith, h.0, low_ordered o.serial os openings h.2)

lower_ordered : (low n : ℕ) (os : List Opened) (openings : ℕ) → n ≤ low → AreOrdered low os openings → AreOrdered n os openings
lower_ordered low n [] openings le h = omega (arith, le, h)
lower_ordered low n (o ∷ os) openings le h = (omega (arith, le, h.0), h.1, h.2)

pub ordered_more : (low : ℕ) (os : List Opened) (openings : ℕ) (o : Opened) → AreOrdered low os openings → openings < o.serial
    → IsBehind o.parent o.serial → AreOrdered low (os ++ o ∷ []) o.serial
ordered_more low [] openings o h more behind =
    let above : low < o.serial = omega (arith, h, more) in
    let same : o.serial ≤ o.serial = omega arith in
    (above, behind, same)
ordered_more low (x ∷ os) openings o h more behind = (h.0, h.1, ordered_more x.serial os openings o h.2 more behind)

-- the ones that stay, from the front
unfoldable pub keeps : ℕ → List ℕ → List Opened → List Opened
keeps serial closed [] = []
keeps serial closed (o ∷ os) = if falls serial closed o then keeps serial (closed ++ o.serial ∷ []) os else o ∷ keeps serial closed os

pub sort_keeps : (serial : ℕ) (s : Sorted) (os : List Opened) → (sort_out serial s os).kept ≡ s.kept ++ keeps serial s.closed os
unfolding keeps
sort_keeps serial s [] = sym (append-nil s.kept)
sort_keeps serial s (o ∷ os) =
    go (falls serial s.closed o) (sort_keeps serial (record s { closed = s.closed ++ o.serial ∷ [] }) os) (sort_keeps serial (record s { kept = s.kept ++ o ∷ [] }) os)
  where
    go : (t : Bool)
        → (sort_out serial (record s { closed = s.closed ++ o.serial ∷ [] }) os).kept ≡ s.kept ++ keeps serial (s.closed ++ o.serial ∷ []) os
        → (sort_out serial (record s { kept = s.kept ++ o ∷ [] }) os).kept ≡ (s.kept ++ o ∷ []) ++ keeps serial s.closed os
        → (sort_out serial (if t then record s { closed = s.closed ++ o.serial ∷ [] } else record s { kept = s.kept ++ o ∷ [] }) os).kept
        ≡ s.kept ++ (if t then keeps serial (s.closed ++ o.serial ∷ []) os else o ∷ keeps serial s.closed os)
    go true closed stays = closed
    go false closed stays = stays ∙ append_assoc s.kept (o ∷ []) (keeps serial s.closed os)

ordered_keeps : (serial : ℕ) (closed : List ℕ) (low : ℕ) (os : List Opened) (openings : ℕ) → AreOrdered low os openings
    → AreOrdered low (keeps serial closed os) openings
unfolding keeps
ordered_keeps serial closed low [] openings h = h
ordered_keeps serial closed low (o ∷ os) openings h =
    go (falls serial closed o)
    (ordered_keeps serial (closed ++ o.serial ∷ []) low os openings (lower_ordered o.serial low os openings (omega (arith, h.0)) h.2))
    (ordered_keeps serial closed o.serial os openings h.2)
  where
    go : (t : Bool) → AreOrdered low (keeps serial (closed ++ o.serial ∷ []) os) openings → AreOrdered o.serial (keeps serial closed os) openings
        → AreOrdered low (if t then keeps serial (closed ++ o.serial ∷ []) os else o ∷ keeps serial closed os) openings
    go true a b = a
    go false a b = (h.0, h.1, b)

-- what stays after a closing is ordered
pub ordered_sorted : (serial : ℕ) (os : List Opened) (openings : ℕ) → AreOrdered 0 os openings → AreOrdered 0 (sorted_by serial os).kept openings
ordered_sorted serial os openings h =
    subst (λ l. AreOrdered 0 l openings) (sym (sort_keeps serial none_sorted os)) (ordered_keeps serial [] 0 os openings h)

found_head : (n m : ℕ) (o : Opened) (r : Option Opened) → n ≡ m → (if n == m then Some o else r) ≡ Some o
found_head n m o r e = ap (λ t. if t then Some o else r) (eq-eqb n m e)

found_behind : (n m : ℕ) (o : Opened) (r : Option Opened) → n < m → (if n == m then Some o else r) ≡ r
found_behind n m o r lt = ap (λ t. if t then Some o else r) (ne_eqb n m (λ e. omega (arith, lt, e)))

-- a handle that is among the ordered ones is found by its serial
pub record IsFound (s : Slab Opened) (order : List ℕ) (low key : ℕ) : Type 0 where
  pub finds : found (opened_at s key).serial (opened_by s order) ≡ Some (opened_at s key)
  pub above : low < (opened_at s key).serial

found_by : (s : Slab Opened) (order : List ℕ) (low openings key : ℕ) → AreOrdered low (opened_by s order) openings → IsIn key order → IsFound s order low key
found_by s [] low openings key h here = absurd here
found_by s (k ∷ ks) low openings key h (inl e) = record {
  finds =
      found_head (opened_at s k).serial (opened_at s key).serial (opened_at s k) (found (opened_at s key).serial (opened_by s ks)) (ap (λ n. (opened_at s n).serial) e)
      ∙ ap (λ n. Some (opened_at s n)) e;
  above = subst (λ n. low < (opened_at s n).serial) e h.0;
}
found_by s (k ∷ ks) low openings key h (inr there) =
    let rest = found_by s ks (opened_at s k).serial openings key h.2 there in
    record {
      finds = found_behind (opened_at s k).serial (opened_at s key).serial (opened_at s k) (found (opened_at s key).serial (opened_by s ks)) rest.above ∙ rest.finds;
      above = omega (arith, h.0, rest.above);
    }

-- the handle under this key is the open one with its serial
pub found_under : (s : Slab Opened) (order : List ℕ) (openings key serial : ℕ) (o : Opened) → AreStored s order → AreOrdered 0 (opened_by s order) openings
    → get s key ≡ Some o → o.serial ≡ serial → found serial (opened_by s order) ≡ Some o
found_under s order openings key serial o stored ordered under e =
    let at : opened_at s key ≡ o = ap (λ x. unwrap_or x nothing_opened) under in
    let same : (opened_at s key).serial ≡ serial = ap (λ x. x.serial) at ∙ e in
    ap (λ n. found n (opened_by s order)) (sym same)
    ∙ (found_by s order 0 openings key ordered (stored.all key (ap is_some under))).finds ∙ ap (λ x. Some x) at

-- no open handle has a serial above the number of openings
found_low : (low : ℕ) (p : ℕ) (os : List Opened) (openings : ℕ) → AreOrdered low os openings → IsSome (found p os) → p ≤ openings
found_low low p [] openings h some = absurd (cc)
found_low low p (o ∷ os) openings h some = go (o.serial == p) refl (found_low o.serial p os openings h.2) some where
  go : (t : Bool) → (o.serial == p) ≡ t → (IsSome (found p os) → p ≤ openings) → IsSome (if t then Some o else found p os) → p ≤ openings
  go true e rest s = omega (arith, eqb-true o.serial p e, low_ordered o.serial os openings h.2)
  go false e rest s = rest s

behind_openings : (parent : Option ℕ) (handles : List Opened) (openings : ℕ) (level : Level) → AreOrdered 0 handles openings
    → child_level parent handles ≡ Some level → IsBehind parent (openings + 1)
behind_openings None handles openings level h e = tt
behind_openings (Some p) handles openings level h e = go (found p handles) refl e where
  go : (x : Option Opened) → found p handles ≡ x → option_and_then (λ o. level_below o.level) x ≡ Some level → p < openings + 1
  go None f g = absurd (cc)
  go (Some o) f g = omega (arith, found_low 0 p handles openings h (ap is_some f))

-- what is known of a handle that opens
pub record IsNext (hs : Handles) (parent : Option ℕ) (o : Opened) : Type 0 where
  pub serial : o.serial ≡ hs.openings + 1
  pub parent_is : o.parent ≡ parent
  pub few : length hs.handles ≢ 64

serial_in : Result Opened GcError → ℕ
serial_in (Ok o) = o.serial
serial_in (Err e) = 0

parent_in : Result Opened GcError → Option ℕ
parent_in (Ok o) = o.parent
parent_in (Err e) = None

next_facts : (hs : Handles) (parent : Option ℕ) (index : ℕ) (level : Level) (o : Opened) → next_opened hs parent index level ≡ Ok o → IsNext hs parent o
unfolding serial_in parent_in
next_facts hs parent index level o h = go (length hs.handles == 64) (hs.openings == 18446744073709551615) refl h where
  go : (a b : Bool) → (length hs.handles == 64) ≡ a → (if a || b then Err ResourceExhausted else Ok (record { serial = hs.openings + 1; level = level; parent = parent; index = index })) ≡ Ok o → IsNext hs parent o
  go true b e f = absurd (cc)
  go false true e f = absurd (cc)
  go false false e f =
      record {
        serial = sym (ap (λ r. serial_in r) f);
        parent_is = sym (ap (λ r. parent_in r) f);
        few = λ g. let both : true ≡ false = sym (eq-eqb (length hs.handles) 64 g) ∙ e in absurd (cc);
      }

pub opening_facts : (hs : Handles) (parent : Option ℕ) (index : ℕ) (level : Option Level) (o : Opened) → opening_of hs parent index level ≡ Ok o → IsNext hs parent o
opening_facts hs parent index None o h = absurd (cc)
opening_facts hs parent index (Some level) o h = go (nat_lt (most_index level) index) (child_of parent index hs.handles) h where
  go : (t : Bool) (x : Option Opened) → (if t then Err (InvalidIndex index) else opening_at hs parent index level x) ≡ Ok o → IsNext hs parent o
  go true x f = absurd (cc)
  go false None f = next_facts hs parent index level o f
  go false (Some c) f = absurd (cc)

pub record IsNextBehind (hs : Handles) (o : Opened) : Type 0 where
  pub serial : o.serial ≡ hs.openings + 1
  pub behind : IsBehind o.parent o.serial
  pub few : length hs.handles ≢ 64

pub next_behind : (hs : Handles) (parent : Option ℕ) (index : ℕ) (o : Opened) → AreOrdered 0 hs.handles hs.openings
    → opening hs parent index ≡ Ok o → IsNextBehind hs o
next_behind hs parent index o ordered h = go (child_level parent hs.handles) refl h where
  go : (x : Option Level) → child_level parent hs.handles ≡ x → opening_of hs parent index x ≡ Ok o → IsNextBehind hs o
  go None e f = absurd (cc)
  go (Some level) e f =
      let next = opening_facts hs parent index (Some level) o f in
      record {
        serial = next.serial;
        behind =
            subst (λ n. IsBehind o.parent n) (sym next.serial)
            (subst (λ q. IsBehind q (hs.openings + 1)) (sym next.parent_is) (behind_openings parent hs.handles hs.openings level ordered e));
        few = next.few;
      }
