-- What ports gave and got back, one after the other, and the count of faults.
use Rattle.std.proofs.Common.{◌≡◌, ℕ, ◌+◌, ◌≤◌, ◌<◌, zero, suc, List, [], ◌∷◌, ◌++◌, Option, Some, None, refl, ap, sym, ◌∙◌, subst, append_assoc, arith, length-append, inl, inr, ◌⊎◌}
use Rattle.std.proofs.lemmas.List.{append-nil}
use Rattle.std.proofs.lemmas.Bool.{cases_lt}
use Rattle.gev_links.specs.Faults.{Rose}
use Rattle.gev_links.specs.Given.{ToldOfThree, Raises}
use Rattle.gev_links.specs.Links.{Address, Answer}
use Rattle.gev_links.specs.PortsState.{IsNew}
use Rattle.gev_receive.specs.Bound.{AllTold, FailsToBind, stream_failed, RaisesByTwo}

none_told : {A : Type 0} (old : Option (List A)) → AllTold old old []
none_told None = refl
none_told (Some old) = λ few. ap (λ l. Some l) (sym (append-nil old))

told_then : {A : Type 0} (old mid new : Option (List A)) (x : A) (xs : List A) → ToldOfThree old mid x → AllTold mid new xs → AllTold old new (x ∷ xs)
told_then None mid new x xs first second = subst (λ m. AllTold m new xs) first second
told_then (Some old) mid new x xs first second =
    λ few.
    let is : mid ≡ Some (old ++ x ∷ []) = first (omega (arith, few)) in
    let rest : AllTold (Some (old ++ x ∷ [])) new xs = subst (λ m. AllTold m new xs) is second in
    rest (omega (arith, few, length-append old (x ∷ []))) ∙ ap (λ l. Some l) (append_assoc old (x ∷ []) xs)

pub two_told : {A : Type 0} (o p q : Option (List A)) (x y : A) → ToldOfThree o p x → ToldOfThree p q y → AllTold o q (x ∷ y ∷ [])
two_told o p q x y first second = told_then o p q x (y ∷ []) first (told_then p q q y [] second (none_told q))

pub three_told : {A : Type 0} (o p q r : Option (List A)) (x y z : A) → ToldOfThree o p x → ToldOfThree p q y → ToldOfThree q r z → AllTold o r (x ∷ y ∷ z ∷ [])
three_told o p q r x y z first second third = told_then o p r x (y ∷ z ∷ []) first (two_told p q r y z second third)

-- the control link comes back, behind two binds of which the second failed
pub stream_unbound : {L : Type 0} (received : L → Option (List Answer)) (sent : L → Option (List (Address × List ℕ))) (faults : L → ℕ)
    (bound bound_mid bound_after : Option (List Address)) (links links_mid links_then links_after : Option (List L)) (address : Address) (link : L)
    → ToldOfThree bound bound_mid address → bound_after ≡ bound_mid → IsNew (received link) (sent link) (faults link)
    → links_mid ≡ links → links_then ≡ links_mid → ToldOfThree links_then links_after link → FailsToBind received sent faults bound bound_after links links_after
stream_unbound received sent faults bound bound_mid bound_after links links_mid links_then links_after address link told same new first then back =
    stream_failed address link (subst (λ b. ToldOfThree bound b address) (sym same) told) new (subst (λ l. ToldOfThree l links_after link) (then ∙ first) back)

-- ---- the count of faults

rose_later : (a b c : ℕ) → Rose a b → a ≤ b → b ≤ c → Rose a c
rose_later a b c rose up on = go (cases_lt a c)
  where
    go : (a < c) ⊎ (c ≤ a) → Rose a c
    go (inl below) = inl below
    go (inr past) = at_end rose
      where
        at_end : Rose a b → Rose a c
        at_end (inl less) = absurd (omega (arith, less, past, on))
        at_end (inr is) = inr (omega (arith, is, past, on, up))

later_rose : (a b c : ℕ) → a ≤ b → Rose b c → Rose a c
later_rose a b c up (inl less) = inl (omega (arith, up, less))
later_rose a b c up (inr is) = inr is

raised : (n a b : ℕ) → Raises n a b → 1 ≤ n → Rose a b
raised zero a b raises some = absurd (omega (arith, some))
raised (suc n) a b raises some = raises

pub unraised : (n a b : ℕ) → Raises n a b → n ≡ 0 → b ≡ a
unraised n a b raises none = subst (λ (k : ℕ). Raises k a b) none raises

one_of : (x y : ℕ) → 1 ≤ x + y → (1 ≤ x) ⊎ (1 ≤ y)
one_of zero y some = inr (omega (arith, some))
one_of (suc x) y some = inl (omega arith)

pub raises_two : (x y a b c : ℕ) → Raises x a b → a ≤ b → Raises y b c → b ≤ c → RaisesByTwo x y a c
raises_two x y a b c first up second on = record {
  stays = λ none. unraised y b c second (omega (arith, none)) ∙ unraised x a b first (omega (arith, none));
  rises = λ some. go (one_of x y some);
}
  where
    go : (1 ≤ x) ⊎ (1 ≤ y) → Rose a c
    go (inl one) = rose_later a b c (raised x a b first one) up on
    go (inr one) = later_rose a b c up (raised y b c second one)
