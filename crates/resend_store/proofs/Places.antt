-- Lemmas on what stands at each place of a list.
use Rattle.std.proofs.Common.{◌≡◌, ℕ, zero, suc, ◌+◌, List, [], ◌∷◌, ◌++◌, length, drop, Option, Some, None, IfSome, refl, ap, arith}
use Rattle.std.specs.Prelude.{slice_get}

pub slice_get-drop : {A : Type 0} (xs : List A) (n i j : ℕ) → j ≡ n + i → slice_get (drop n xs) i ≡ slice_get xs j
slice_get-drop xs zero i j e = let same : i ≡ j = omega arith in ap (slice_get xs) same
slice_get-drop [] (suc n) i j e = refl
slice_get-drop (x ∷ xs) (suc n) i zero e = absurd (omega arith)
slice_get-drop (x ∷ xs) (suc n) i (suc j) e = slice_get-drop xs n i j (omega arith)

pub IfSome-map : {A : Type 0} (o : Option A) (P Q : A → Type 0) → ((x : A) → P x → Q x) → IfSome o P → IfSome o Q
IfSome-map None P Q f h = tt
IfSome-map (Some x) P Q f h = f x h

abbrev pub AllAt : {A : Type 0} → (ℕ → A → Type 0) → List A → Type 0
AllAt P xs = (place : ℕ) → IfSome (slice_get xs place) (P place)

-- what holds at each place, and of one more at the end
pub AllAt-push : {A : Type 0} (P : ℕ → A → Type 0) (xs : List A) (x : A) → AllAt P xs → P (length xs) x → AllAt P (xs ++ x ∷ [])
AllAt-push P [] x all here zero = here
AllAt-push P [] x all here (suc i) = tt
AllAt-push P (y ∷ ys) x all here zero = all zero
AllAt-push P (y ∷ ys) x all here (suc i) = AllAt-push (λ k. P (suc k)) ys x (λ k. all (suc k)) here i

-- what holds at the places behind the first
pub AllAt-rest : {A : Type 0} (P : ℕ → A → Type 0) (xs : List A) → AllAt P xs → AllAt (λ k. P (suc k)) (drop 1 xs)
AllAt-rest P [] all i = tt
AllAt-rest P (x ∷ xs) all i = all (suc i)
