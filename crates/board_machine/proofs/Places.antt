-- How often a place stands in a list, after each edit of the list.
use Rattle.std.proofs.Common.{◌≡◌, ◌≢◌, ℕ, zero, suc, ◌+◌, ◌≤◌, ◌<◌, ◌==◌, nat_le, true, false, ◌||◌, List, [], ◌∷◌, ◌++◌, length, take, get_or, refl, sym, ap, ◌∙◌, inl, inr, ◌⊎◌, arith, eq-eqb, ne_eqb, eqb-true}
use Rattle.std.specs.List.{list_any}
use Rattle.std.proofs.lemmas.Bool.{cond_both, cond-true, cond-false, cases_Bool, cases_eq, eqb-false}
use Rattle.std.proofs.lemmas.List.{take_more}
use Rattle.board_machine.specs.Places.{same, times, put_in, without, put_all}

pub same_self : (i : ℕ) → same i i ≡ 1
same_self i = cond-true (i == i) 1 0 (eq-eqb i i refl)

pub same_other : (i j : ℕ) → i ≢ j → same i j ≡ 0
same_other i j apart = cond-false (i == j) 1 0 (ne_eqb i j apart)

pub same_le : (i j : ℕ) → same i j ≤ 1
same_le i j = cond_both (i == j) 1 0 (λ n. n ≤ 1) (λ e. omega arith) (λ e. omega arith)

-- a place that counts for another is that other one
pub same_is : (i j : ℕ) → 1 ≤ same i j → i ≡ j
same_is i j h = go (cases_eq i j)
  where
    go : (i ≡ j) ⊎ (i ≢ j) → i ≡ j
    go (inl e) = e
    go (inr apart) = let none : same i j ≡ 0 = same_other i j apart in absurd (omega arith)

pub times-append : (i : ℕ) (xs ys : List ℕ) → times i (xs ++ ys) ≡ times i xs + times i ys
times-append i [] ys = omega arith
times-append i (x ∷ xs) ys = omega (arith, times-append i xs ys)

pub times-put : (i j : ℕ) (xs : List ℕ) → times i (put_in j xs) ≡ same i j + times i xs
times-put i j [] = omega arith
times-put i j (x ∷ xs) =
    cond_both (nat_le j x) (j ∷ x ∷ xs) (x ∷ put_in j xs) (λ ys. times i ys ≡ same i j + (same i x + times i xs))
    (λ e. omega arith)
    (λ e. omega (arith, times-put i j xs))

pub times-put_all : (i : ℕ) (xs ys : List ℕ) → times i (put_all xs ys) ≡ times i xs + times i ys
times-put_all i [] ys = omega arith
times-put_all i (x ∷ xs) ys = omega (arith, times-put i x (put_all xs ys), times-put_all i xs ys)

pub times-without : (i j : ℕ) (xs : List ℕ) → 1 ≤ times j xs → same i j + times i (without j xs) ≡ times i xs
times-without i j [] h = absurd (omega arith)
times-without i j (x ∷ xs) h =
    cond_both (j == x) xs (x ∷ without j xs) (λ ys. same i j + times i ys ≡ same i x + times i xs)
    (λ e. let equal : same i j ≡ same i x = ap (λ y. same i y) (eqb-true j x e) in omega arith)
    (λ e. let none : same j x ≡ 0 = same_other j x (eqb-false j x e) in
    let more : 1 ≤ times j xs = omega arith in
    omega (arith, times-without i j xs more))

-- never more than before
pub times-without-le : (i j : ℕ) (xs : List ℕ) → times i (without j xs) ≤ times i xs
times-without-le i j [] = omega arith
times-without-le i j (x ∷ xs) =
    cond_both (j == x) xs (x ∷ without j xs) (λ ys. times i ys ≤ same i x + times i xs)
    (λ e. omega arith)
    (λ e. omega (arith, times-without-le i j xs))

pub times_take : (j n : ℕ) (is : List ℕ) → times j (take n is) ≤ times j is
times_take j zero is = omega arith
times_take j (suc n) [] = omega arith
times_take j (suc n) (i ∷ is) = omega (arith, times_take j n is)

pub times_more : (j n : ℕ) (is : List ℕ) → n < length is → times j (take (n + 1) is) ≡ times j (take n is) + same j (get_or is n 0)
times_more j n is within =
    let last : times j (get_or is n 0 ∷ []) ≡ same j (get_or is n 0) = omega arith in
    ap (times j) (take_more is n 0 within) ∙ (times-append j (take n is) (get_or is n 0 ∷ []) ∙ ap (λ x. times j (take n is) + x) last)

some_more : (i j : ℕ) (xs : List ℕ) → (j == i) ≡ true → 1 ≤ times i (j ∷ xs)
some_more i j xs e = let one : same i j ≡ 1 = sym (ap (λ k. same i k) (sym (eqb-true j i e))) ∙ same_self i in omega arith

-- a test for the place of each member
pub any_times : (i : ℕ) (xs : List ℕ) → list_any (λ j. j == i) xs ≡ true → 1 ≤ times i xs
any_times i [] some = absurd (cc)
any_times i (j ∷ xs) some = go (cases_Bool (j == i)) (λ more. any_times i xs more)
  where
    go : ((j == i) ≡ true) ⊎ ((j == i) ≡ false) → (list_any (λ j. j == i) xs ≡ true → 1 ≤ times i xs) → 1 ≤ times i (j ∷ xs)
    go (inl here) later = some_more i j xs here
    go (inr off) later = let more : 1 ≤ times i xs = later (sym (ap (λ b. b || list_any (λ j. j == i) xs) off) ∙ some) in omega arith

pub none_times : (i : ℕ) (xs : List ℕ) → list_any (λ j. j == i) xs ≡ false → times i xs ≡ 0
none_times i [] none = refl
none_times i (j ∷ xs) none = go (cases_Bool (j == i)) (λ later. none_times i xs later)
  where
    go : ((j == i) ≡ true) ⊎ ((j == i) ≡ false) → (list_any (λ j. j == i) xs ≡ false → times i xs ≡ 0) → times i (j ∷ xs) ≡ 0
    go (inl here) later = absurd (let bad : true ≡ false = sym (ap (λ b. b || list_any (λ j. j == i) xs) here) ∙ none in cc)
    go (inr off) later =
        let rest : times i xs ≡ 0 = later (sym (ap (λ b. b || list_any (λ j. j == i) xs) off) ∙ none) in
        let apart : same i j ≡ 0 = same_other i j (λ e. eqb-false j i off (sym e)) in
        omega arith
