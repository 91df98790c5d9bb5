-- What a slab and the keys in it hold with one more handle, and with one less.
use Rattle.std.proofs.Common.{◌≡◌, ◌≢◌, ℕ, zero, suc, ◌+◌, ◌<◌, true, false, inl, inr, List, [], ◌∷◌, ◌++◌, length, get_or, Option, Some, None, refl, ap, sym, ◌∙◌, subst, arith, length-append}
use Rattle.std.specs.Prelude.{IsSome, OnSome, is_some, unwrap_or, remove}
use native.Mathlib.Decide.{ℕ_discrete}
use Rattle.slab.specs.Slab.{Slab, get, slab_len, Updates}
use Rattle.gentl_handles.specs.declared.opened.Opened.{Opened}
use Rattle.gentl_handles.specs.Storing.{nothing_opened, opened_at, opened_by, IsIn, IsNotIn, AreKeys, AreStored}

-- two keys of which one holds something and one nothing
differs : (s : Slab Opened) (k key : ℕ) → IsSome (get s k) → get s key ≡ None → k ≢ key
differs s k key some none e =
    let both : true ≡ false = sym some ∙ ap (λ n. is_some (get s n)) e ∙ ap is_some none in
    absurd (cc)

not_in_more : (k key : ℕ) (ks : List ℕ) → IsNotIn k ks → key ≢ k → IsNotIn k (ks ++ key ∷ [])
not_in_more k key [] n ne = (ne, tt)
not_in_more k key (x ∷ xs) n ne = (n.0, not_in_more k key xs n.1 ne)

in_last : (key : ℕ) (ks : List ℕ) → IsIn key (ks ++ key ∷ [])
in_last key [] = inl refl
in_last key (k ∷ ks) = inr (in_last key ks)

in_first : (k key : ℕ) (ks : List ℕ) → IsIn k ks → IsIn k (ks ++ key ∷ [])
in_first k key [] h = absurd h
in_first k key (x ∷ xs) (inl e) = inl e
in_first k key (x ∷ xs) (inr h) = inr (in_first k key xs h)

module _ (s new : Slab Opened) (key : ℕ) where
  pub opened_more : (order : List ℕ) (o : Opened) → AreKeys s order → get s key ≡ None → Updates s new key (Some o)
      → opened_by new (order ++ key ∷ []) ≡ opened_by s order ++ o ∷ []
  opened_more [] o keys none u = ap (λ x. unwrap_or x nothing_opened ∷ []) u.changed
  opened_more (k ∷ ks) o keys none u =
      ap (λ x. unwrap_or x nothing_opened ∷ opened_by new (ks ++ key ∷ [])) (u.others k (differs s k key keys.0 none))
      ∙ ap (λ l. opened_at s k ∷ l) (opened_more ks o keys.2 none u)

  keys_more : (order : List ℕ) (o : Opened) → AreKeys s order → get s key ≡ None → Updates s new key (Some o) → AreKeys new (order ++ key ∷ [])
  keys_more [] o keys none u = (ap is_some u.changed, tt, tt)
  keys_more (k ∷ ks) o keys none u =
      let ne : k ≢ key = differs s k key keys.0 none in
      (ap is_some (u.others k ne) ∙ keys.0, not_in_more k key ks keys.1 (λ e. ne (sym e)), keys_more ks o keys.2 none u)

  pub stored_more : (order : List ℕ) (o : Opened) → AreStored s order → get s key ≡ None → Updates s new key (Some o)
      → slab_len new ≡ slab_len s + 1 → new.capacity ≡ s.capacity → length order ≢ 64 → AreStored new (order ++ key ∷ [])
  stored_more order o stored none u len capacity more = record {
    keys = keys_more order o stored.keys none u;
    all = λ k h. go k (ℕ_discrete k key) h;
    counted = omega (arith, len, stored.counted, length-append order (key ∷ []));
    few = omega (arith, stored.few, more, length-append order (key ∷ []));
    room = omega (arith, stored.room, capacity);
  } where
    go : (k : ℕ) → Dec (k ≡ key) → IsSome (get new k) → IsIn k (order ++ key ∷ [])
    go k (yes e) h = subst (λ n. IsIn n (order ++ key ∷ [])) (sym e) (in_last key order)
    go k (no ne) h = in_first k key order (stored.all k (ap is_some (sym (u.others k ne)) ∙ h))

  opened_stay : (ks : List ℕ) → IsNotIn key ks → Updates s new key None → opened_by new ks ≡ opened_by s ks
  opened_stay [] n u = refl
  opened_stay (k ∷ ks) n u =
      ap (λ x. unwrap_or x nothing_opened ∷ opened_by new ks) (u.others k n.0) ∙ ap (λ l. opened_at s k ∷ l) (opened_stay ks n.1 u)

  keys_stay : (ks : List ℕ) → IsNotIn key ks → AreKeys s ks → Updates s new key None → AreKeys new ks
  keys_stay [] n keys u = tt
  keys_stay (k ∷ ks) n keys u = (ap is_some (u.others k n.0) ∙ keys.0, keys.1, keys_stay ks n.1 keys.2 u)

pub on_some : {P : Type 0} (o : Option Opened) → OnSome o P → IsSome o → P
on_some None h some = absurd (cc)
on_some (Some o) h some = h

-- what lies under the key at a place, in the order of the keys
pub opened_in : (s : Slab Opened) (order : List ℕ) (place : ℕ) (o : Opened) → place < length order → o ≡ opened_at s (get_or order place 0)
    → o ≡ get_or (opened_by s order) place o
opened_in s [] place o within e = absurd (omega arith)
opened_in s (k ∷ ks) zero o within e = e
opened_in s (k ∷ ks) (suc j) o within e = opened_in s ks j o (omega arith) e

-- a key behind another one is a different one
not_at : (k key : ℕ) (ks : List ℕ) (place : ℕ) → IsNotIn k ks → place < length ks → key ≡ get_or ks place key → k ≢ key
not_at k key [] place n within e f = absurd (omega arith)
not_at k key (x ∷ xs) zero n within e f = n.0 (sym (f ∙ e))
not_at k key (x ∷ xs) (suc j) n within e f = not_at k key xs j n.1 (omega arith) e f

not_in_less : (k : ℕ) (ks : List ℕ) (place : ℕ) → IsNotIn k ks → IsNotIn k (remove ks place)
not_in_less k [] zero n = tt
not_in_less k [] (suc j) n = tt
not_in_less k (x ∷ xs) zero n = n.1
not_in_less k (x ∷ xs) (suc j) n = (n.0, not_in_less k xs j n.1)

in_less : (k key : ℕ) (ks : List ℕ) (place : ℕ) → IsIn k ks → k ≢ key → key ≡ get_or ks place key → IsIn k (remove ks place)
in_less k key [] place h ne e = absurd h
in_less k key (x ∷ xs) zero (inl f) ne e = absurd (ne (sym f ∙ sym e))
in_less k key (x ∷ xs) zero (inr h) ne e = h
in_less k key (x ∷ xs) (suc j) (inl f) ne e = inl f
in_less k key (x ∷ xs) (suc j) (inr h) ne e = inr (in_less k key xs j h ne e)

pub some_at : (s : Slab Opened) (key : ℕ) (order : List ℕ) (place : ℕ) → AreKeys s order → place < length order → key ≡ get_or order place key
    → IsSome (get s key)
some_at s key [] place keys within e = absurd (omega arith)
some_at s key (k ∷ ks) zero keys within e = ap (λ n. is_some (get s n)) e ∙ keys.0
some_at s key (k ∷ ks) (suc j) keys within e = some_at s key ks j keys.2 (omega arith) e

module _ (s new : Slab Opened) (key : ℕ) where
  pub opened_less : (order : List ℕ) (place : ℕ) → AreKeys s order → place < length order → key ≡ get_or order place key
      → Updates s new key None → opened_by new (remove order place) ≡ remove (opened_by s order) place
  opened_less [] place keys within e u = absurd (omega arith)
  opened_less (k ∷ ks) zero keys within e u = opened_stay s new key ks (subst (λ n. IsNotIn n ks) (sym e) keys.1) u
  opened_less (k ∷ ks) (suc j) keys within e u =
      ap (λ x. unwrap_or x nothing_opened ∷ opened_by new (remove ks j)) (u.others k (not_at k key ks j keys.1 (omega arith) e))
      ∙ ap (λ l. opened_at s k ∷ l) (opened_less ks j keys.2 (omega arith) e u)

  keys_less : (order : List ℕ) (place : ℕ) → AreKeys s order → place < length order → key ≡ get_or order place key
      → Updates s new key None → AreKeys new (remove order place)
  keys_less [] place keys within e u = absurd (omega arith)
  keys_less (k ∷ ks) zero keys within e u = keys_stay s new key ks (subst (λ n. IsNotIn n ks) (sym e) keys.1) keys.2 u
  keys_less (k ∷ ks) (suc j) keys within e u =
      (ap is_some (u.others k (not_at k key ks j keys.1 (omega arith) e)) ∙ keys.0, not_in_less k ks j keys.1, keys_less ks j keys.2 (omega arith) e u)

  pub stored_less : (order : List ℕ) (place : ℕ) → AreStored s order → place < length order → key ≡ get_or order place key
      → Updates s new key None → slab_len new + 1 ≡ slab_len s → new.capacity ≡ s.capacity → length (remove order place) + 1 ≡ length order
      → AreStored new (remove order place)
  stored_less order place stored within e u len capacity fewer = record {
    keys = keys_less order place stored.keys within e u;
    all = λ k h. go k (ℕ_discrete k key) h;
    counted = omega (arith, len, stored.counted, fewer);
    few = omega (arith, stored.few, fewer);
    room = omega (arith, stored.room, capacity);
  } where
    go : (k : ℕ) → Dec (k ≡ key) → IsSome (get new k) → IsIn k (remove order place)
    go k (yes f) h =
        let both : true ≡ false = sym h ∙ ap (λ n. is_some (get new n)) f ∙ ap is_some u.changed in
        absurd (cc)
    go k (no ne) h = in_less k key order place (stored.all k (ap is_some (sym (u.others k ne)) ∙ h)) ne e
