-- Handles that are named by their serials.
use Rattle.std.proofs.Common.{◌≡◌, ◌≢◌, ◌⊎◌, ℕ, if◌then◌else◌, List, [], ◌∷◌, option_map, option_and_then, Option, Some, None, Err, refl, sym, ap, ◌∙◌, inl, inr}
use Rattle.std.proofs.lemmas.Bool.{cases_eq, eq-eqb, ne_eqb}
use Rattle.gentl_types.specs.declared.errors.GcError.TheVariants.{InvalidHandle}
use Rattle.gentl_types.specs.declared.errors.Shown.TheVariants.{NoHandle}
use Rattle.gentl_handles.specs.declared.opened.Opened.{Opened}
use Rattle.gentl_handles.specs.Handles.{Handles, found}
use Rattle.gentl_handles.specs.Opening.{opening, opening_of, level_below}
use Rattle.gentl_handles.specs.Closing.{closing, closing_of, sorted_by}

-- what is found has the serial that was looked for
pub found_serial : (n m : ℕ) (os : List Opened) → Some m ≡ option_map (λ o. o.serial) (found n os) → m ≡ n
found_serial n m [] e = absurd cc
found_serial n m (o ∷ os) e = go (cases_eq o.serial n) (found_serial n m os)
  where
    go : (o.serial ≡ n) ⊎ (o.serial ≢ n) → (Some m ≡ option_map (λ x. x.serial) (found n os) → m ≡ n) → m ≡ n
    go (inl same) further =
        let first : Some m ≡ Some o.serial = e ∙ ap (λ b. option_map (λ x. x.serial) (if b then Some o else found n os)) (eq-eqb o.serial n same) in
        let equal : m ≡ o.serial = cc in
        equal ∙ same
    go (inr other) further = further (e ∙ ap (λ b. option_map (λ x. x.serial) (if b then Some o else found n os)) (ne_eqb o.serial n other))

pub found_none : (x : Option Opened) → None ≡ option_map (λ o. o.serial) x → x ≡ None
found_none None e = refl
found_none (Some o) e = absurd cc

pub no_parent : (hs : Handles) (n index : ℕ) → found n hs.handles ≡ None → opening hs (Some n) index ≡ Err (InvalidHandle (NoHandle n))
no_parent hs n index e = ap (λ x. opening_of hs (Some n) index (option_and_then (λ o. level_below o.level) x)) e

pub no_handle : (hs : Handles) (n : ℕ) → found n hs.handles ≡ None → closing hs n ≡ Err (InvalidHandle (NoHandle n))
no_handle hs n e = ap (λ x. closing_of x n (sorted_by n hs.handles)) e

pub named_parent : (parent : Option ℕ) (n m : ℕ) (hs : Handles) → parent ≡ Some n → Some m ≡ option_map (λ o. o.serial) (found n hs.handles) → Some m ≡ parent
named_parent parent n m hs is e = ap some (found_serial n m hs.handles e) ∙ sym is
  where
    some : ℕ → Option ℕ
    some k = Some k
