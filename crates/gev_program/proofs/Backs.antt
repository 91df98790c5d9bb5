-- What comes back, one after the other, and the count of faults.
use Rattle.std.proofs.Common.{◌≡◌, ℕ, ◌+◌, ◌≤◌, ◌<◌, zero, suc, List, [], ◌∷◌, ◌++◌, Option, Some, None, refl, ap, sym, ◌∙◌, subst, append_assoc, arith, length-append, inl, inr, ◌⊎◌}
use Rattle.std.proofs.lemmas.List.{append-nil}
use Rattle.std.proofs.lemmas.Bool.{cases_lt}
use Rattle.gev_links.specs.Faults.{Rose}
use Rattle.gev_links.specs.Given.{one_more, ToldOfThree, Raises}
use Rattle.gev_links.specs.Links.{Address, Answer}
use Rattle.gev_links.specs.PortsState.{IsNew}
use Rattle.gev_program.specs.Bound.{AllToldOfThree, GivesBack, RaisesBy}

pub none_back : {A : Type 0} (old : Option (List A)) → AllToldOfThree old old []
none_back None = refl
none_back (Some old) = λ few. ap (λ l. Some l) (sym (append-nil old))

pub back_then : {A : Type 0} (old mid new : Option (List A)) (x : A) (xs : List A) → ToldOfThree old mid x → AllToldOfThree mid new xs → AllToldOfThree old new (x ∷ xs)
back_then None mid new x xs first second = subst (λ m. AllToldOfThree m new xs) first second
back_then (Some old) mid new x xs first second =
    λ few.
    let is : mid ≡ Some (old ++ x ∷ []) = first (omega (arith, few)) in
    let rest : AllToldOfThree (Some (old ++ x ∷ [])) new xs = subst (λ m. AllToldOfThree m new xs) is second in
    rest (omega (arith, few, length-append old (x ∷ []))) ∙ ap (λ l. Some l) (append_assoc old (x ∷ []) xs)

pub two_back : {A : Type 0} (o p q : Option (List A)) (x y : A) → ToldOfThree o p x → ToldOfThree p q y → AllToldOfThree o q (x ∷ y ∷ [])
two_back o p q x y first second = back_then o p q x (y ∷ []) first (back_then p q q y [] second (none_back q))

pub three_back : {A : Type 0} (o p q r : Option (List A)) (x y z : A) → ToldOfThree o p x → ToldOfThree p q y → ToldOfThree q r z → AllToldOfThree o r (x ∷ y ∷ z ∷ [])
three_back o p q r x y z first second third = back_then o p r x (y ∷ z ∷ []) first (two_back p q r y z second third)

pub unbound_first : {L : Type 0} (received : L → Option (List Answer)) (sent : L → Option (List (Address × List ℕ))) (faults : L → ℕ) (before binds : ℕ) (old new : Option (List L)) (a : L)
    → IsNew (received a) (sent a) (faults a) → binds ≡ one_more (one_more before) → ToldOfThree old new a → GivesBack received sent faults before binds old new
unbound_first received sent faults before binds old new a unused called back = record {
  came = a ∷ [];
  few = omega arith;
  called = omega (arith, called);
  unused = (unused, tt);
  back = back_then old new new a [] back (none_back new);
}

-- ---- the count of faults

rose_later : (a b c : ℕ) → Rose a b → a ≤ b → b ≤ c → Rose a c
rose_later a b c rose up on = go (cases_lt a c)
  where
    go : (a < c) ⊎ (c ≤ a) → Rose a c
    go (inl below) = inl below
    go (inr past) = at_end rose
      where
        at_end : Rose a b → Rose a c
        at_end (inl less) = absurd (omega (arith, less, past, on))
        at_end (inr is) = inr (omega (arith, is, past, on, up))

later_rose : (a b c : ℕ) → a ≤ b → Rose b c → Rose a c
later_rose a b c up (inl less) = inl (omega (arith, up, less))
later_rose a b c up (inr is) = inr is

raised : (n a b : ℕ) → Raises n a b → 1 ≤ n → Rose a b
raised zero a b raises some = absurd (omega (arith, some))
raised (suc n) a b raises some = raises

unraised : (n a b : ℕ) → Raises n a b → n ≡ 0 → b ≡ a
unraised n a b raises none = subst (λ (k : ℕ). Raises k a b) none raises

one_of : (x y z : ℕ) → 1 ≤ x + y + z → (1 ≤ x) ⊎ ((1 ≤ y) ⊎ (1 ≤ z))
one_of zero zero z some = inr (inr (omega (arith, some)))
one_of zero (suc y) z some = inr (inl (omega arith))
one_of (suc x) y z some = inl (omega arith)

pub raises_all : (x y z a b c d : ℕ) → Raises x a b → a ≤ b → Raises y b c → b ≤ c → Raises z c d → c ≤ d → RaisesBy x y z a d
raises_all x y z a b c d first up second on third last = record {
  stays = λ none.
      unraised z c d third (omega (arith, none))
      ∙ (unraised y b c second (omega (arith, none)) ∙ unraised x a b first (omega (arith, none)));
  rises = λ some. go (one_of x y z some);
}
  where
    go : (1 ≤ x) ⊎ ((1 ≤ y) ⊎ (1 ≤ z)) → Rose a d
    go (inl one) = rose_later a b d (raised x a b first one) up (omega (arith, on, last))
    go (inr (inl one)) = rose_later a c d (later_rose a b c up (raised y b c second one)) (omega (arith, up, on)) last
    go (inr (inr one)) = later_rose a c d (omega (arith, up, on)) (raised z c d third one)
