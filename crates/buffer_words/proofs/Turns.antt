-- Slots that are turned.
use Rattle.std.proofs.Common.{◌≡◌, ◌≢◌, ◌⊎◌, ℕ, ◌+◌, ◌<◌, ◌≤◌, ◌==◌, cond, List, [], ◌∷◌, ◌++◌, length, get_or, Some, None, refl, sym, ap, subst, ◌∙◌, inl, inr, arith, eq-eqb, ne_eqb}
use Rattle.std.proofs.lemmas.Bool.{cases_eq, cond-true, cond-false}
use Rattle.atomic_table.specs.Table.{turned, rest}
use Rattle.std.specs.Prelude.{remove}
use Rattle.board_machine.specs.Places.{same, times}
use Rattle.board_machine.proofs.Places.{same_self, same_other, times-append}
use Rattle.buffer_words.specs.Rule.{Slot, Slots}
use Rattle.buffer_words.specs.Passes.{slot_places, slot_of, IsSingle}

pub places-push : (c : Slots) (x : ℕ × Slot) → slot_places (c ++ x ∷ []) ≡ slot_places c ++ x.0 ∷ []
places-push [] x = refl
places-push (y ∷ c) x = ap (λ l. y.0 ∷ l) (places-push c x)

pub times_turned : (i : ℕ) (c : Slots) → times i (slot_places (turned c)) ≡ times i (slot_places c)
times_turned i [] = refl
times_turned i (x ∷ c) = ap (λ l. times i l) (places-push c x) ∙ omega (arith, times-append i (slot_places c) (x.0 ∷ []))

-- a slot that is asked for, where it stands first, and where it doesn't
pub slot_here : (i : ℕ) (x : Slot) (c : Slots) → slot_of i ((i, x) ∷ c) ≡ Some x
slot_here i x c = cond-true (i == i) (Some x) (slot_of i c) (eq-eqb i i refl)

pub slot_else : (i j : ℕ) (x : Slot) (c : Slots) → i ≢ j → slot_of i ((j, x) ∷ c) ≡ slot_of i c
slot_else i j x c ne = cond-false (j == i) (Some x) (slot_of i c) (ne_eqb j i (λ e. ne (sym e)))

pub slot_none : (i : ℕ) (c : Slots) → times i (slot_places c) ≡ 0 → slot_of i c ≡ None
slot_none i [] none = refl
slot_none i (x ∷ c) none = go (cases_eq i x.0) (slot_none i c)
  where
    go : (i ≡ x.0) ⊎ (i ≢ x.0) → (times i (slot_places c) ≡ 0 → slot_of i c ≡ None) → slot_of i (x ∷ c) ≡ None
    go (inl e) later = let one : same i x.0 ≡ 1 = ap (λ m. same i m) (sym e) ∙ same_self i in absurd (omega arith)
    go (inr ne) later = slot_else i x.0 x.1 c ne ∙ later (omega (arith, none))

pub slot_some : (i : ℕ) (c : Slots) → slot_of i c ≢ None → 1 ≤ times i (slot_places c)
slot_some i c some = go (cases_eq (times i (slot_places c)) 0)
  where
    go : (times i (slot_places c) ≡ 0) ⊎ (times i (slot_places c) ≢ 0) → 1 ≤ times i (slot_places c)
    go (inl e) = absurd (some (slot_none i c e))
    go (inr ne) = omega arith

slot_push : (i : ℕ) (c : Slots) (x : ℕ × Slot) → times i (slot_places (x ∷ c)) ≤ 1 → slot_of i (c ++ x ∷ []) ≡ slot_of i (x ∷ c)
slot_push i [] x single = refl
slot_push i (y ∷ c) x single = go (cases_eq i y.0) (cases_eq i x.0) (slot_push i c x)
  where
    go : (i ≡ y.0) ⊎ (i ≢ y.0) → (i ≡ x.0) ⊎ (i ≢ x.0) → (times i (slot_places (x ∷ c)) ≤ 1 → slot_of i (c ++ x ∷ []) ≡ slot_of i (x ∷ c))
        → slot_of i (y ∷ c ++ x ∷ []) ≡ slot_of i (x ∷ y ∷ c)
    go (inl e) (inl q) later =
        let one : same i y.0 ≡ 1 = ap (λ m. same i m) (sym e) ∙ same_self i in
        let two : same i x.0 ≡ 1 = ap (λ m. same i m) (sym q) ∙ same_self i in absurd (omega arith)
    go (inl e) (inr n) later =
        cond-true (y.0 == i) (Some y.1) (slot_of i (c ++ x ∷ [])) (eq-eqb y.0 i (sym e))
        ∙ (sym (cond-true (y.0 == i) (Some y.1) (slot_of i c) (eq-eqb y.0 i (sym e))) ∙ sym (slot_else i x.0 x.1 (y ∷ c) n))
    go (inr n) q later =
        slot_else i y.0 y.1 (c ++ x ∷ []) n ∙ (later (omega arith) ∙ over q)
      where
        over : (i ≡ x.0) ⊎ (i ≢ x.0) → slot_of i (x ∷ c) ≡ slot_of i (x ∷ y ∷ c)
        over (inl e) = cond-true (x.0 == i) (Some x.1) (slot_of i c) (eq-eqb x.0 i (sym e)) ∙ sym (cond-true (x.0 == i) (Some x.1) (slot_of i (y ∷ c)) (eq-eqb x.0 i (sym e)))
        over (inr m) = slot_else i x.0 x.1 c m ∙ (sym (slot_else i y.0 y.1 c n) ∙ sym (slot_else i x.0 x.1 (y ∷ c) m))

pub slot_turned : (i : ℕ) (c : Slots) → IsSingle c → slot_of i (turned c) ≡ slot_of i c
slot_turned i [] single = refl
slot_turned i (x ∷ c) single = slot_push i c x (single i)

pub single_turned : (c : Slots) → IsSingle c → IsSingle (turned c)
single_turned c single i = omega (arith, times_turned i c, single i)

-- how many places stand before the first i
abbrev pub ahead_of : ℕ → List ℕ → ℕ
ahead_of i [] = 0
ahead_of i (j ∷ js) = cond (j == i) 0 (ahead_of i js + 1)

ahead-push : (i j : ℕ) (js : List ℕ) → 1 ≤ times i js → ahead_of i (js ++ j ∷ []) ≡ ahead_of i js
ahead-push i j [] some = absurd (omega arith)
ahead-push i j (k ∷ js) some = go (cases_eq i k) (ahead-push i j js)
  where
    go : (i ≡ k) ⊎ (i ≢ k) → (1 ≤ times i js → ahead_of i (js ++ j ∷ []) ≡ ahead_of i js) → ahead_of i (k ∷ js ++ j ∷ []) ≡ ahead_of i (k ∷ js)
    go (inl e) later = cond-true (k == i) 0 (ahead_of i (js ++ j ∷ []) + 1) (eq-eqb k i (sym e)) ∙ sym (cond-true (k == i) 0 (ahead_of i js + 1) (eq-eqb k i (sym e)))
    go (inr n) later =
        let more : 1 ≤ times i js = omega (arith, same_other i k n) in
        cond-false (k == i) 0 (ahead_of i (js ++ j ∷ []) + 1) (ne_eqb k i (λ e. n (sym e)))
        ∙ (ap (λ m. m + 1) (later more) ∙ sym (cond-false (k == i) 0 (ahead_of i js + 1) (ne_eqb k i (λ e. n (sym e)))))

-- a turn brings the place nearer
pub ahead_falls : (i j : ℕ) (js : List ℕ) → i ≢ j → 1 ≤ times i (j ∷ js) → ahead_of i (js ++ j ∷ []) < ahead_of i (j ∷ js)
ahead_falls i j js ne some =
    let inside : 1 ≤ times i js = omega (arith, same_other i j ne) in
    let here : ahead_of i (j ∷ js) ≡ ahead_of i js + 1 = cond-false (j == i) 0 (ahead_of i js + 1) (ne_eqb j i (λ e. ne (sym e))) in
    omega (arith, ahead-push i j js inside)

-- where the first place is this one, its slot is in front
pub front_of : (i : ℕ) (c : Slots) → get_or (slot_places c) 0 0 ≡ i → 1 ≤ length (slot_places c) → (x : Slot) × (c ≡ (i, x) ∷ rest c)
front_of i [] e h = absurd (omega arith)
front_of i (x ∷ c) e h = (x.1, ap (λ n. (n, x.1) ∷ c) e)

-- one turn, of the list of places too
pub turned_places : (c : Slots) (first : ℕ) (after : List ℕ) → slot_places c ≡ first ∷ after → slot_places (turned c) ≡ after ++ first ∷ []
turned_places [] first after e = absurd (cc)
turned_places (x ∷ c) first after e = let head : x.0 ≡ first = cc in let body : slot_places c ≡ after = cc in
    places-push c x ∙ (ap (λ l. l ++ x.0 ∷ []) body ∙ ap (λ n. after ++ n ∷ []) head)

-- slots on their way to have a place in front, and the list of their places
pub record Turning (place : ℕ) (old new : Slots) (held : List ℕ) : Type 0 where
  pub order : held ≡ slot_places new
  pub single : IsSingle new
  pub has : 1 ≤ times place (slot_places new)
  pub counts : (i : ℕ) → times i (slot_places new) ≡ times i (slot_places old)
  pub slots : (i : ℕ) → slot_of i new ≡ slot_of i old

some_places : (i : ℕ) (xs : List ℕ) → 1 ≤ times i xs → 1 ≤ length xs
some_places i [] some = absurd (omega arith)
some_places i (x ∷ xs) some = omega arith

pub turning_turn : (place : ℕ) (old new : Slots) (was is : List ℕ) (first : ℕ) → Turning place old new was → first ≡ get_or was 0 first → is ≡ remove was 0 ++ first ∷ [] → Turning place old (turned new) is
turning_turn place old new [] is first turning e q = absurd (omega (arith, turning.has, ap (λ l. times place l) turning.order))
turning_turn place old new (x ∷ xs) is first turning e q = record {
  order = q ∙ (ap (λ n. xs ++ n ∷ []) e ∙ sym (turned_places new x xs (sym turning.order)));
  single = single_turned new turning.single;
  has = omega (arith, times_turned place new, turning.has);
  counts = λ i. times_turned i new ∙ turning.counts i;
  slots = λ i. slot_turned i new turning.single ∙ turning.slots i;
}

pub turning_nearer : (place : ℕ) (old new : Slots) (was is : List ℕ) (first : ℕ) → Turning place old new was → first ≡ get_or was 0 first → is ≡ remove was 0 ++ first ∷ [] → get_or was 0 0 ≢ place
    → ahead_of place is < ahead_of place was
turning_nearer place old new [] is first turning e q ne = absurd (omega (arith, turning.has, ap (λ l. times place l) turning.order))
turning_nearer place old new (x ∷ xs) is first turning e q ne =
    let same_list : is ≡ xs ++ x ∷ [] = q ∙ ap (λ n. xs ++ n ∷ []) e in
    let some : 1 ≤ times place (x ∷ xs) = omega (arith, turning.has, ap (λ l. times place l) turning.order) in
    subst (λ l. ahead_of place l < ahead_of place (x ∷ xs)) (sym same_list) (ahead_falls place x xs (λ r. ne (sym r)) some)

pub turning_front : (place : ℕ) (old new : Slots) (was : List ℕ) → Turning place old new was → get_or was 0 0 ≡ place → (x : Slot) × (new ≡ (place, x) ∷ rest new)
turning_front place old new was turning e =
    front_of place new (ap (λ l. get_or l 0 0) (sym turning.order) ∙ e) (some_places place (slot_places new) turning.has)
