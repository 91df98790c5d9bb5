-- Flags for places, and the rising lists that they stand for.
use Rattle.std.proofs.Common.{◌≡◌, ◌≢◌, ℕ, zero, suc, ◌+◌, ◌≤◌, ◌<◌, ◌↔◌, Bool, true, false, List, [], ◌∷◌, ◌++◌, length, get_or, set, take, IsTrue, refl, sym, ap, subst, ◌∙◌, inl, inr, ◌⊎◌, arith}
use Rattle.gev_types.specs.Limits.{place_count}
use Rattle.std.proofs.lemmas.Bool.{cases_eq, cases_lt}
use Rattle.std.proofs.lemmas.List.{take_more, get_or_past, get_or-set_same, get_or-set_other}
use Rattle.board_machine.specs.Places.{same, times, put_in, without, put_all, tail, IsBelowFirst, IsRising}
use Rattle.board_machine.proofs.Places.{same_self, same_other, times-append, times-put, times-put_all, times-without}
use Rattle.board_machine.proofs.Rising.{below_all, rising_put, rising_without, rising_put_all}
use Rattle.board_model.specs.Collected.{collect}

-- two rising lists with the same members are one list
pub rising_same : (xs ys : List ℕ) → IsRising xs → IsRising ys → ((i : ℕ) → times i xs ≡ times i ys) → xs ≡ ys
rising_same [] [] rx ry counts = refl
rising_same [] (y ∷ ys) rx ry counts = absurd (omega (arith, counts y, same_self y))
rising_same (x ∷ xs) [] rx ry counts = absurd (omega (arith, counts x, same_self x))
rising_same (x ∷ xs) (y ∷ ys) rx ry counts = both (λ more. rising_same xs ys rx.1 ry.1 more) (cases_eq x y)
  where
    both : (((i : ℕ) → times i xs ≡ times i ys) → xs ≡ ys) → (x ≡ y) ⊎ (x ≢ y) → x ∷ xs ≡ y ∷ ys
    both rest (inl e) =
        let tails : xs ≡ ys = rest (λ i. let s : same i x ≡ same i y = ap (λ z. same i z) e in omega (arith, counts i, s)) in
        cc
    both rest (inr apart) =
        let above : 1 ≤ times x ys = omega (arith, counts x, same_self x, same_other x y apart) in
        let below : 1 ≤ times y xs = omega (arith, counts y, same_self y, same_other y x (λ e. apart (sym e))) in
        let one : y < x = below_all y x ys ry.0 ry.1 above in
        let other : x < y = below_all x y xs rx.0 rx.1 below in
        absurd (omega arith)

abbrev pub as_count : Bool → ℕ
as_count true = 1
as_count false = 0

pub none_below : (i n : ℕ) (flags : List Bool) → i < n → times i (collect n flags) ≡ 0
none_below i n [] h = refl
none_below i n (true ∷ flags) h =
    omega (arith, same_other i n (λ e. omega (arith, e, h)), none_below i (n + 1) flags (omega (arith, h)))
none_below i n (false ∷ flags) h = none_below i (n + 1) flags (omega (arith, h))

-- a place stands in the list once where its flag is set, else nowhere
pub times_collect : (i n k : ℕ) (flags : List Bool) → i ≡ n + k → times i (collect n flags) ≡ as_count (get_or flags k false)
times_collect i n k [] e = refl
times_collect i n zero (true ∷ flags) e =
    let here : same i n ≡ 1 = ap (λ j. same j n) (omega (arith, e)) ∙ same_self n in
    omega (arith, here, none_below i (n + 1) flags (omega (arith, e)))
times_collect i n zero (false ∷ flags) e = none_below i (n + 1) flags (omega (arith, e))
times_collect i n (suc k) (true ∷ flags) e =
    omega (arith, same_other i n (λ x. omega (arith, x, e)), times_collect i (n + 1) k flags (omega (arith, e)))
times_collect i n (suc k) (false ∷ flags) e = times_collect i (n + 1) k flags (omega (arith, e))

pub times_flag : (i : ℕ) (flags : List Bool) → times i (collect 0 flags) ≡ as_count (get_or flags i false)
times_flag i flags = times_collect i 0 i flags (omega arith)

above_first : (m n : ℕ) (flags : List Bool) → m < n → IsBelowFirst m (collect n flags)
above_first m n [] h = tt
above_first m n (true ∷ flags) h = h
above_first m n (false ∷ flags) h = above_first m (n + 1) flags (omega (arith, h))

pub rising_collect : (n : ℕ) (flags : List Bool) → IsRising (collect n flags)
rising_collect n [] = tt
rising_collect n (true ∷ flags) = (above_first n (n + 1) flags (omega arith), rising_collect (n + 1) flags)
rising_collect n (false ∷ flags) = rising_collect (n + 1) flags

-- who counts is within
pub flag_within : (i : ℕ) (flags : List Bool) → 1 ≤ times i (collect 0 flags) → i < length flags
flag_within i flags some = go (cases_lt i (length flags))
  where
    go : (i < length flags) ⊎ (length flags ≤ i) → i < length flags
    go (inl within) = within
    go (inr past) =
        let none : as_count (get_or flags i false) ≡ 0 = ap as_count (get_or_past flags i false past) in
        absurd (omega (arith, times_flag i flags, none, some))

-- one flag set, told by counts
pub times_set : (i j : ℕ) (flags : List Bool) → i < length flags → times i (collect 0 flags) ≡ 0 → times j (collect 0 (set flags i true)) ≡ same j i + times j (collect 0 flags)
times_set i j flags within missing = go (cases_eq j i)
  where
    go : (j ≡ i) ⊎ (j ≢ i) → times j (collect 0 (set flags i true)) ≡ same j i + times j (collect 0 flags)
    go (inl e) =
        let P : ℕ → Type 0 = λ n. times n (collect 0 (set flags i true)) ≡ same n i + times n (collect 0 flags) in
        let one : as_count (get_or (set flags i true) i false) ≡ 1 = ap as_count (get_or-set_same flags i true false within) in
        subst P (sym e) (omega (arith, times_flag i (set flags i true), one, same_self i, missing))
    go (inr apart) =
        let stays : as_count (get_or (set flags i true) j false) ≡ as_count (get_or flags j false) = ap as_count (get_or-set_other flags i j true false apart) in
        omega (arith, times_flag j (set flags i true), times_flag j flags, stays, same_other j i apart)

-- one flag cleared, told by counts
times_clear : (i j : ℕ) (flags : List Bool) → 1 ≤ times i (collect 0 flags) → same i j + times j (collect 0 (set flags i false)) ≡ times j (collect 0 flags)
times_clear i j flags some = go (cases_eq j i)
  where
    within : i < length flags
    within = flag_within i flags some

    whole : as_count (get_or flags i false) ≤ 1
    whole = at_most (get_or flags i false)
      where
        at_most : (b : Bool) → as_count b ≤ 1
        at_most true = omega arith
        at_most false = omega arith

    go : (j ≡ i) ⊎ (j ≢ i) → same i j + times j (collect 0 (set flags i false)) ≡ times j (collect 0 flags)
    go (inl e) =
        let P : ℕ → Type 0 = λ n. same i n + times n (collect 0 (set flags i false)) ≡ times n (collect 0 flags) in
        let none : as_count (get_or (set flags i false) i false) ≡ 0 = ap as_count (get_or-set_same flags i false false within) in
        subst P (sym e) (omega (arith, times_flag i (set flags i false), times_flag i flags, none, same_self i, whole, some))
    go (inr apart) =
        let stays : as_count (get_or (set flags i false) j false) ≡ as_count (get_or flags j false) = ap as_count (get_or-set_other flags i j false false apart) in
        omega (arith, times_flag j (set flags i false), times_flag j flags, stays, same_other i j (λ e. apart (sym e)))

pub put_shown : (i : ℕ) (flags : List Bool) → i < length flags → times i (collect 0 flags) ≡ 0 → collect 0 (set flags i true) ≡ put_in i (collect 0 flags)
put_shown i flags within missing =
    rising_same (collect 0 (set flags i true)) (put_in i (collect 0 flags))
    (rising_collect 0 (set flags i true))
    (rising_put i (collect 0 flags) missing (rising_collect 0 flags))
    (λ j. omega (arith, times_set i j flags within missing, times-put j i (collect 0 flags)))

pub remove_shown : (i : ℕ) (flags : List Bool) → 1 ≤ times i (collect 0 flags) → collect 0 (set flags i false) ≡ without i (collect 0 flags)
remove_shown i flags some =
    rising_same (collect 0 (set flags i false)) (without i (collect 0 flags))
    (rising_collect 0 (set flags i false))
    (rising_without i (collect 0 flags) (rising_collect 0 flags))
    (λ j. let turned : same i j ≡ same j i = same_turned i j in omega (arith, times_clear i j flags some, times-without j i (collect 0 flags) some, turned))
  where
    same_turned : (i j : ℕ) → same i j ≡ same j i
    same_turned i j = go (cases_eq i j)
      where
        go : (i ≡ j) ⊎ (i ≢ j) → same i j ≡ same j i
        go (inl e) = let P : ℕ → Type 0 = λ n. same i n ≡ same n i in subst P e refl
        go (inr apart) = same_other i j apart ∙ sym (same_other j i (λ e. apart (sym e)))

-- places put in one after another, told by counts
pub put_each_shown : (places : List ℕ) (old new : List Bool) → ((i : ℕ) → times i places + times i (collect 0 old) ≤ 1) → ((i : ℕ) → times i (collect 0 new) ≡ times i places + times i (collect 0 old)) → collect 0 new ≡ put_all places (collect 0 old)
put_each_shown places old new missing counts =
    rising_same (collect 0 new) (put_all places (collect 0 old))
    (rising_collect 0 new)
    (rising_put_all places (collect 0 old) missing (rising_collect 0 old))
    (λ i. omega (arith, counts i, times-put_all i places (collect 0 old)))

-- the first flag that is set
pub first_shown : (n k : ℕ) (flags : List Bool) → ((j : ℕ) → j < k → get_or flags j false ≡ false) → get_or flags k false ≡ true → collect n flags ≡ (n + k) ∷ tail (collect n flags)
first_shown n k [] before here = absurd (cc)
first_shown n zero (true ∷ flags) before here = ap (λ m. m ∷ collect (n + 1) flags) (omega arith)
first_shown n zero (false ∷ flags) before here = absurd (cc)
first_shown n (suc k) (true ∷ flags) before here = let first : true ≡ false = before 0 (omega arith) in absurd (cc)
first_shown n (suc k) (false ∷ flags) before here =
    first_shown (n + 1) k flags (λ j h. before (suc j) (omega (arith, h))) here
    ∙ ap (λ m. m ∷ tail (collect (n + 1) flags)) (omega arith)

-- no flag is set
pub none_shown : (n k : ℕ) (flags : List Bool) → length flags ≤ k → ((j : ℕ) → j < k → get_or flags j false ≡ false) → collect n flags ≡ []
none_shown n k [] short before = refl
none_shown n zero (flag ∷ flags) short before = absurd (omega arith)
none_shown n (suc k) (true ∷ flags) short before = let first : true ≡ false = before 0 (omega arith) in absurd (cc)
none_shown n (suc k) (false ∷ flags) short before = none_shown (n + 1) k flags (omega arith) (λ j h. before (suc j) (omega (arith, h)))

-- the list of the first flags, one flag on
pub collect_set : (n k : ℕ) (flags : List Bool) → get_or flags k false ≡ true → collect n (take (suc k) flags) ≡ collect n (take k flags) ++ (n + k) ∷ []
collect_set n k [] here = absurd (cc)
collect_set n zero (true ∷ flags) here = ap (λ m. m ∷ []) (omega arith)
collect_set n zero (false ∷ flags) here = absurd (cc)
collect_set n (suc k) (true ∷ flags) here =
    ap (λ ms. n ∷ ms) (collect_set (n + 1) k flags here ∙ ap (λ m. collect (n + 1) (take k flags) ++ m ∷ []) (omega arith))
collect_set n (suc k) (false ∷ flags) here =
    collect_set (n + 1) k flags here ∙ ap (λ m. collect (n + 1) (take k flags) ++ m ∷ []) (omega arith)

pub collect_clear : (n k : ℕ) (flags : List Bool) → get_or flags k false ≡ false → collect n (take (suc k) flags) ≡ collect n (take k flags)
collect_clear n zero [] here = refl
collect_clear n (suc k) [] here = refl
collect_clear n zero (true ∷ flags) here = absurd (cc)
collect_clear n zero (false ∷ flags) here = refl
collect_clear n (suc k) (true ∷ flags) here = ap (λ ms. n ∷ ms) (collect_clear (n + 1) k flags here)
collect_clear n (suc k) (false ∷ flags) here = collect_clear (n + 1) k flags here

pub length_collect : (n : ℕ) (flags : List Bool) → length (collect n flags) ≤ length flags
length_collect n [] = omega arith
length_collect n (true ∷ flags) = omega (arith, length_collect (n + 1) flags)
length_collect n (false ∷ flags) = omega (arith, length_collect (n + 1) flags)

-- a flag tells whether its place stands in the list
pub flag_tells : (i : ℕ) (flags : List Bool) → IsTrue (get_or flags i false) ↔ (1 ≤ times i (collect 0 flags))
flag_tells i flags = tells (get_or flags i false) (times_flag i flags)
  where
    tells : (b : Bool) → times i (collect 0 flags) ≡ as_count b → IsTrue b ↔ (1 ≤ times i (collect 0 flags))
    tells true e = (λ _. omega arith, λ _. refl)
    tells false e = (λ h. absurd (cc), λ h. absurd (omega arith))

-- a number past the flags is no place
pub past_tells : (i : ℕ) (b : Bool) (flags : List Bool) → length flags ≤ i → b ≡ false → IsTrue b ↔ (1 ≤ times i (collect 0 flags))
past_tells i b flags past none = (λ h. absurd (cc), λ some. absurd (omega (arith, flag_within i flags some)))

pub times_take : (i n : ℕ) (xs : List ℕ) → times i (take n xs) ≤ times i xs
times_take i zero xs = omega arith
times_take i (suc n) [] = omega arith
times_take i (suc n) (x ∷ xs) = omega (arith, times_take i n xs)

-- one more of the first places
pub times_take_more : (i n : ℕ) (xs : List ℕ) → n < length xs → times i (take (n + 1) xs) ≡ times i (take n xs) + same i (get_or xs n 0)
times_take_more i n xs within =
    ap (λ ys. times i ys) (take_more xs n 0 within) ∙ times-append i (take n xs) (get_or xs n 0 ∷ []) ∙ omega arith

-- a place that stands in a list at an index
pub times_at : (n : ℕ) (xs : List ℕ) → n < length xs → 1 ≤ times (get_or xs n 0) xs
times_at n [] within = absurd (omega arith)
times_at zero (x ∷ xs) within = omega (arith, same_self x)
times_at (suc n) (x ∷ xs) within = omega (arith, times_at n xs (omega (arith, within)))

-- what a run over the places has put in so far
abbrev pub ArePut : List ℕ → List Bool → List Bool → Type 0
ArePut places old new = (i : ℕ) → times i (collect 0 new) ≡ times i places + times i (collect 0 old)

pub put_next : (places : List ℕ) (n : ℕ) (old new : List Bool) → length new ≡ place_count → n < length places → ((i : ℕ) → 1 ≤ times i places → i < place_count) → ((i : ℕ) → times i places + times i (collect 0 old) ≤ 1) → ArePut (take n places) old new → ArePut (take (n + 1) places) old (set new (get_or places n 0) true)
put_next places n old new wide within in_range missing put i =
    omega (arith, times_set p i new below none, put i, times_take_more i n places within)
  where
    p : ℕ
    p = get_or places n 0

    below : p < length new
    below = omega (arith, wide, in_range p (times_at n places within))

    none : times p (collect 0 new) ≡ 0
    none = omega (arith, put p, missing p, times_take_more p n places within, times_take p (n + 1) places, same_self p)

-- a list of the first flags' places, after one more flag
pub list_set : (k : ℕ) (flags : List Bool) (old new : List ℕ) → get_or flags k false ≡ true → old ≡ collect 0 (take k flags) → new ≡ old ++ k ∷ [] → new ≡ collect 0 (take (k + 1) flags)
list_set k flags old new here was is =
    let one : k + 1 ≡ suc k = omega arith in
    let at : 0 + k ≡ k = omega arith in
    is ∙ ap (λ xs. xs ++ k ∷ []) was ∙ sym (ap (λ m. collect 0 (take k flags) ++ m ∷ []) at) ∙ sym (collect_set 0 k flags here) ∙ sym (ap (λ m. collect 0 (take m flags)) one)

pub list_clear : (k : ℕ) (flags : List Bool) (old new : List ℕ) → get_or flags k false ≡ false → old ≡ collect 0 (take k flags) → new ≡ old → new ≡ collect 0 (take (k + 1) flags)
list_clear k flags old new here was is =
    let one : k + 1 ≡ suc k = omega arith in
    is ∙ was ∙ sym (collect_clear 0 k flags here) ∙ sym (ap (λ m. collect 0 (take m flags)) one)
