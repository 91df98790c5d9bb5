-- Members of a list, by recursion.
use Rattle.std.proofs.Common.{◌≡◌, ◌⊎◌, inl, inr, subst, ℕ, zero, suc, ◌<◌, List, [], ◌∷◌, ◌++◌, length, get_or, refl, sym, arith}
use Rattle.std.specs.List.{AllByRecursion, Any, Contains}

-- P holds of some element
abbrev pub SomeByRecursion : {X : Type 0} → (X → Type 0) → List X → Type 0
SomeByRecursion P [] = ⊥
SomeByRecursion P (x ∷ xs) = P x ⊎ SomeByRecursion P xs

-- x is an element
abbrev pub Has : {X : Type 0} → List X → X → Type 0
Has xs x = SomeByRecursion (λ y. y ≡ x) xs

some_at : {X : Type 0} (P : X → Type 0) (xs : List X) (x : X) (k : ℕ) → k < length xs → get_or xs k x ≡ x → P x → SomeByRecursion P xs
some_at P [] x k inside e holds = absurd (omega arith)
some_at P (y ∷ ys) x zero inside e holds = inl (subst P (sym e) holds)
some_at P (y ∷ ys) x (suc k) inside e holds = inr (some_at P ys x k (omega arith) e holds)

pub some_from_Any : {X : Type 0} (P : X → Type 0) (xs : List X) → Any P xs → SomeByRecursion P xs
some_from_Any P xs a = some_at P xs a.1 a.0 a.2 a.3 a.4

pub Any-from_some : {X : Type 0} (P : X → Type 0) (xs : List X) → SomeByRecursion P xs → Any P xs
Any-from_some P [] s = absurd s
Any-from_some P (y ∷ ys) (inl holds) = (0, y, omega arith, refl, holds)
Any-from_some P (y ∷ ys) (inr s) = let a = Any-from_some P ys s in (suc a.0, a.1, omega (arith, a.2), a.3, a.4)

pub has_from_Contains : {X : Type 0} (xs : List X) (x : X) → Contains xs x → Has xs x
has_from_Contains xs x c = some_at (λ y. y ≡ x) xs x c.0 c.1 c.2 refl

pub Contains-from_has : {X : Type 0} (xs : List X) (x : X) → Has xs x → Contains xs x
Contains-from_has [] x h = absurd h
Contains-from_has (y ∷ ys) x (inl e) = (0, omega arith, e)
Contains-from_has (y ∷ ys) x (inr h) = let c = Contains-from_has ys x h in (suc c.0, omega (arith, c.1), c.2)

-- what holds of all elements holds of a member
pub all-has : {X : Type 0} (P : X → Type 0) (xs : List X) (x : X) → AllByRecursion P xs → Has xs x → P x
all-has P [] x all h = absurd h
all-has P (y ∷ ys) x all (inl e) = subst P e all.0
all-has P (y ∷ ys) x all (inr h) = all-has P ys x all.1 h

-- from each element to a fact of it, beside another
pub all_with : {X : Type 0} (P Q R : X → Type 0) (xs : List X) → ((x : X) → P x → Q x → R x) → AllByRecursion P xs → AllByRecursion Q xs → AllByRecursion R xs
all_with P Q R [] f ps qs = tt
all_with P Q R (x ∷ xs) f ps qs = (f x ps.0 qs.0, all_with P Q R xs f ps.1 qs.1)

-- a member at which P holds
pub record Member {X : Type 0} (P : X → Type 0) (xs : List X) : Type 0 where
  pub item : X
  pub inside : Has xs item
  pub holds : P item

pub member_from_some : {X : Type 0} (P : X → Type 0) (xs : List X) → SomeByRecursion P xs → Member P xs
member_from_some P [] s = absurd s
member_from_some P (y ∷ ys) (inl holds) = record { item = y; inside = inl refl; holds = holds }
member_from_some P (y ∷ ys) (inr s) = let m = member_from_some P ys s in record { item = m.item; inside = inr m.inside; holds = m.holds }

pub some_from_has : {X : Type 0} (P : X → Type 0) (xs : List X) (x : X) → Has xs x → P x → SomeByRecursion P xs
some_from_has P [] x h holds = absurd h
some_from_has P (y ∷ ys) x (inl e) holds = inl (subst P (sym e) holds)
some_from_has P (y ∷ ys) x (inr h) holds = inr (some_from_has P ys x h holds)

pub some-append_left : {X : Type 0} (P : X → Type 0) (xs ys : List X) → SomeByRecursion P xs → SomeByRecursion P (xs ++ ys)
some-append_left P [] ys s = absurd s
some-append_left P (x ∷ xs) ys (inl holds) = inl holds
some-append_left P (x ∷ xs) ys (inr s) = inr (some-append_left P xs ys s)

pub some-append_right : {X : Type 0} (P : X → Type 0) (xs ys : List X) → SomeByRecursion P ys → SomeByRecursion P (xs ++ ys)
some-append_right P [] ys s = s
some-append_right P (x ∷ xs) ys s = inr (some-append_right P xs ys s)

pub some-append_cases : {X : Type 0} (P : X → Type 0) (xs ys : List X) → SomeByRecursion P (xs ++ ys) → SomeByRecursion P xs ⊎ SomeByRecursion P ys
some-append_cases P [] ys s = inr s
some-append_cases P (x ∷ xs) ys (inl holds) = inl (inl holds)
some-append_cases P (x ∷ xs) ys (inr s) = go (some-append_cases P xs ys s) where
  go : SomeByRecursion P xs ⊎ SomeByRecursion P ys → SomeByRecursion P (x ∷ xs) ⊎ SomeByRecursion P ys
  go (inl left) = inl (inr left)
  go (inr right) = inr right
