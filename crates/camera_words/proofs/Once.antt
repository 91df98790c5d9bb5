-- Settings that were each set at most once: how many there can be, and in which range each is.
use Rattle.std.proofs.Common.{◌≡◌, ℕ, ◌+◌, ◌≤◌, ◌<◌, ◌==◌, List, [], ◌∷◌, ◌++◌, length, Some, None, refl, sym, ap, subst, cond, arith, eqb-true, length-append}
use Rattle.std.proofs.lemmas.Bool.{cond_both, cond-false}
use Rattle.camera_words.specs.declared.setting.Setting.{Setting}
use Rattle.camera_words.specs.declared.setting.Setting.TheVariants.{Packet, Buffers, Bytes, Mode, Window, Timeout, Age, Rounds, Silence, Output, Until, Progress, Digest}
use Rattle.camera_words.specs.declared.setting.Choice.{Choice}
use Rattle.camera_words.specs.Choices.{number_of, found, Fits, AllFit, count_of, AreOnce}

-- ---- one more

count_more : (number : ℕ) (cs : List Choice) (c : Choice) → count_of number (cs ++ c ∷ []) ≡ count_of number cs + cond (number_of c.setting == number) 1 0
count_more number [] c = omega arith
count_more number (d ∷ cs) c = omega (arith, count_more number cs c)

pub fit_more : (cs : List Choice) (c : Choice) → AllFit cs → Fits c.setting c.value → AllFit (cs ++ c ∷ [])
fit_more [] c fit fits = (fits, tt)
fit_more (d ∷ cs) c fit fits = (fit.0, fit_more cs c fit.1 fits)

is_none : (value : ℕ) → Some value ≡ None → ⊥
is_none value e = cc

-- what wasn't found isn't there
none_there : (s : Setting) (cs : List Choice) → found s cs ≡ None → count_of (number_of s) cs ≡ 0
none_there s [] none_found = refl
none_there s (c ∷ cs) none_found =
    cond_both (number_of c.setting == number_of s) (Some c.value) (found s cs) (λ r. r ≡ None → count_of (number_of s) (c ∷ cs) ≡ 0)
    (λ same e. absurd (is_none c.value e))
    (λ other e. omega (arith, cond-false {A = ℕ} (number_of c.setting == number_of s) 1 0 other, none_there s cs e))
    none_found

pub once_more : (cs : List Choice) (c : Choice) → AreOnce cs → found c.setting cs ≡ None → AreOnce (cs ++ c ∷ [])
once_more cs c once none_found number =
    subst (λ n. n ≤ 1) (sym (count_more number cs c))
    (cond_both (number_of c.setting == number) 1 0 (λ n. count_of number cs + n ≤ 1)
    (λ same. omega (arith, ap (λ k. count_of k cs) (eqb-true (number_of c.setting) number same), none_there c.setting cs none_found))
    (λ other. omega (arith, once number)))

-- ---- how many

abbrev is_one : Setting → ℕ → ℕ
is_one s number = cond (number_of s == number) 1 0

abbrev one_of : Setting → ℕ
one_of s =
    is_one s 0 + (is_one s 1 + (is_one s 2 + (is_one s 3 + (is_one s 4 + (is_one s 5 + (is_one s 6 + (is_one s 7 + (is_one s 8 + (is_one s 9 + (is_one s 10 + (is_one s 11 + is_one s 12)))))))))))

one : (s : Setting) → one_of s ≡ 1
one Packet = refl
one Buffers = refl
one Bytes = refl
one Mode = refl
one Window = refl
one Timeout = refl
one Age = refl
one Rounds = refl
one Silence = refl
one Output = refl
one Until = refl
one Progress = refl
one Digest = refl

abbrev all_of : List Choice → ℕ
all_of cs =
    count_of 0 cs + (count_of 1 cs + (count_of 2 cs + (count_of 3 cs + (count_of 4 cs + (count_of 5 cs + (count_of 6 cs + (count_of 7 cs + (count_of 8 cs + (count_of 9 cs + (count_of 10 cs + (count_of 11 cs + count_of 12 cs)))))))))))

counted : (cs : List Choice) → length cs ≡ all_of cs
counted [] = refl
counted (c ∷ cs) = omega (arith, counted cs, one c.setting)

pub few : (cs : List Choice) → AreOnce cs → length cs ≤ 13
few cs once =
    omega (arith, counted cs, once 0, once 1, once 2, once 3, once 4, once 5, once 6, once 7, once 8, once 9, once 10, once 11, once 12)

-- there is room for one that wasn't set
pub room : (cs : List Choice) (c : Choice) → AreOnce cs → found c.setting cs ≡ None → length cs < 13
room cs c once none_found = omega (arith, few (cs ++ c ∷ []) (once_more cs c once none_found), length-append cs (c ∷ []))
