-- Lists of places: counting, rising order, and prefixes.
use Rattle.std.specs.Prelude.{◌≡◌, ℕ, ◌+◌, ◌<◌, ◌==◌, nat_le, cond, List, [], ◌∷◌, ◌++◌}

-- 1 where the two numbers are equal, else 0
abbrev pub same : ℕ → ℕ → ℕ
same i j = cond (i == j) 1 0

-- how often a place stands in a list
abbrev pub times : ℕ → List ℕ → ℕ
times i [] = 0
times i (j ∷ js) = same i j + times i js

-- a rising list with one more place
abbrev pub put_in : ℕ → List ℕ → List ℕ
put_in i [] = i ∷ []
put_in i (j ∷ js) = cond (nat_le i j) (i ∷ j ∷ js) (j ∷ put_in i js)

-- the list without the first i in it
abbrev pub without : ℕ → List ℕ → List ℕ
without i [] = []
without i (j ∷ js) = cond (i == j) js (j ∷ without i js)

-- a rising list with the places of another list
abbrev pub put_all : List ℕ → List ℕ → List ℕ
put_all [] js = js
put_all (i ∷ is) js = put_in i (put_all is js)

-- the list without its first member
abbrev pub tail : {A : Type 0} → List A → List A
tail [] = []
tail (x ∷ xs) = xs

-- the first place, if there is one, is above i
abbrev pub IsBelowFirst : ℕ → List ℕ → Type 0
IsBelowFirst i [] = Unit {0}
IsBelowFirst i (j ∷ js) = i < j

-- each place is below the next
abbrev pub IsRising : List ℕ → Type 0
IsRising [] = Unit {0}
IsRising (i ∷ is) = IsBelowFirst i is × IsRising is

-- a list that begins with another one
pub record IsPrefix {A : Type 0} (front whole : List A) : Type 0 where
  pub rest : List A
  pub is : whole ≡ front ++ rest
