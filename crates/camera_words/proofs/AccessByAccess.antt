-- The words of `register`, one after the other.
use Rattle.std.proofs.Common.{◌≡◌, ℕ, ◌+◌, nat_lt, List, [], ◌∷◌, ◌++◌, length, map, Option, Some, None, Err, sym, ap, ◌∙◌, arith, length-append}
use Rattle.std.proofs.lemmas.Bool.{cond_both}
use Rattle.camera_words.specs.declared.access.Access.{Access}
use Rattle.camera_words.specs.Words.{Said}
use Rattle.camera_words.specs.Accesses.{MOST_ACCESSES, with_access, go_on, access_in, accesses_from, place_of}

-- ---- the place

abbrev place_in : Option (List Access) → ℕ
place_in None = 0
place_in (Some accesses) = place_of accesses

no_more : (t : List Access) → None ≡ Some t → ⊥
no_more t e = cc

place_said : (s t : List Access) (said : Option Access) → with_access s said ≡ Some t → place_of t ≡ place_of s + 1
place_said s t None is = absurd (no_more t is)
place_said s t (Some access) is =
    cond_both (nat_lt (length s) MOST_ACCESSES) (Some (s ++ access ∷ [])) None (λ r. r ≡ Some t → place_of t ≡ place_of s + 1)
    (λ fits e. omega (arith, ap place_in e, length-append s (access ∷ [])))
    (λ full e. absurd (no_more t e))
    is

-- ---- a word

module _ {W : Type 0} (f : W → List ℕ) where
  pub stops_at : (s t : List Access) (rest more : List W) (word : W) (all : Said (List Access)) (place : ℕ) → rest ≡ word ∷ more → place ≡ place_of t → t ≡ s
      → with_access s (access_in (f word)) ≡ None → accesses_from (place_of s) s (map f rest) ≡ all → Err place ≡ all
  stops_at s t rest more word all place is at same none_said whole =
      ap (λ p. Err p) (at ∙ ap place_of same)
      ∙ (sym (ap (λ o. go_on (place_of s) o (λ t. accesses_from (place_of s + 1) t (map f more))) none_said)
      ∙ (ap (λ l. accesses_from (place_of s) s (map f l)) (sym is) ∙ whole))

  pub goes_on : (s t : List Access) (rest more : List W) (word : W) (all : Said (List Access)) → rest ≡ word ∷ more → with_access s (access_in (f word)) ≡ Some t
      → accesses_from (place_of s) s (map f rest) ≡ all → accesses_from (place_of t) t (map f more) ≡ all
  goes_on s t rest more word all is said whole =
      ap (λ p. accesses_from p t (map f more)) (place_said s t (access_in (f word)) said)
      ∙ (sym (ap (λ o. go_on (place_of s) o (λ t. accesses_from (place_of s + 1) t (map f more))) said)
      ∙ (ap (λ l. accesses_from (place_of s) s (map f l)) (sym is) ∙ whole))
