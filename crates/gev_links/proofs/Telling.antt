-- A clock in memory tells its moments one after the other.
use native.Mathlib.Decide.{dec_lt}
use Rattle.std.proofs.Common.{◌≡◌, ℕ, zero, suc, ◌+◌, ◌-◌, ◌^◌, ◌<◌, List, [], ◌∷◌, ◌++◌, length, Option, Some, None, refl, sym, ◌∙◌, subst, arith, option_map, length-append}
use Rattle.gev_links.specs.Moments.{Tells, moment_at, told_by}

told_length : (moments : List ℕ) (n : ℕ) → length (told_by moments n) ≡ n
told_length moments zero = refl
told_length moments (suc n) = omega (arith, length-append (told_by moments n) (moment_at moments n ∷ []), told_length moments n)

-- told once more, where the count rises or is at its end
tells : (moments : List ℕ) (n : ℕ) (r : Option ℕ) → n < 2 ^ 64 → (n < 2 ^ 64 - 1 → r ≡ Some (n + 1)) → (n ≡ 2 ^ 64 - 1 → r ≡ None)
    → Tells (Some (told_by moments n)) (option_map (told_by moments) r) (moment_at moments n)
tells moments n r below more most = go (dec_lt n (2 ^ 64 - 1))
  where
    goal : Option ℕ → Type 0
    goal o = Tells (Some (told_by moments n)) (option_map (told_by moments) o) (moment_at moments n)

    go : Dec (n < 2 ^ 64 - 1) → goal r
    go (yes l) =
        let one : suc n ≡ n + 1 = omega arith in
        subst goal (sym (more l)) (subst (λ (k : ℕ). told_by moments k ≡ told_by moments n ++ moment_at moments n ∷ []) one refl)
    go (no l) = let full : n ≡ 2 ^ 64 - 1 = omega (arith, below, l) in subst goal (sym (most full)) (told_length moments n ∙ full)

-- so it is where the list and the count are told by equations
pub tells_on : (moments also : List ℕ) (o : Option ℕ) (n : ℕ) (r : Option ℕ) (m : ℕ) → moments ≡ also → o ≡ Some n → n < 2 ^ 64
    → (n < 2 ^ 64 - 1 → r ≡ Some (n + 1)) → (n ≡ 2 ^ 64 - 1 → r ≡ None) → m ≡ moment_at also n
    → Tells (option_map (told_by moments) o) (option_map (told_by also) r) m
tells_on moments also o n r m same is below more most moment =
    subst (λ (k : ℕ). Tells (option_map (told_by moments) o) (option_map (told_by also) r) k) (sym moment)
    (subst (λ (p : Option ℕ). Tells (option_map (told_by moments) p) (option_map (told_by also) r) (moment_at also n)) (sym is)
    (subst (λ (ms : List ℕ). Tells (Some (told_by ms n)) (option_map (told_by also) r) (moment_at also n)) (sym same) (tells also n r below more most)))
