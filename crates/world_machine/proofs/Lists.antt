-- Places in a list of commands, and lists whose members stand at rising places of another.
use Rattle.std.proofs.Common.{◌≡◌, ◌⊎◌, ℕ, zero, suc, ◌<◌, ◌≤◌, List, [], ◌∷◌, ◌++◌, length, refl, sym, ap, ◌∙◌, inl, inr, arith}
use Rattle.std.specs.Prelude.{◌≢◌, All}
use Rattle.std.specs.List.{Contains, AllPairs}
use Rattle.std.proofs.lemmas.List.Elements.{All-nil, All-cons, Contains-push_cases}
use Rattle.std.proofs.lemmas.List.Kept.{AllPairs-cons}
use Rattle.world_machine.specs.SessionLaws.{IsSublist, is_empty, with_head, without_head, Once}

-- ---- places

-- the command at a place
abbrev pub At : List (List ℕ) → ℕ → List ℕ → Type 0
At [] i x = ⊥
At (y ∷ ys) zero x = y ≡ x
At (y ∷ ys) (suc i) x = At ys i x

pub at_below : (xs : List (List ℕ)) (i : ℕ) (x : List ℕ) → At xs i x → i < length xs
at_below [] i x h = absurd h
at_below (y ∷ ys) zero x h = omega arith
at_below (y ∷ ys) (suc i) x h = let below : i < length ys = at_below ys i x h in omega arith

pub at_more : (xs ys : List (List ℕ)) (i : ℕ) (x : List ℕ) → At xs i x → At (xs ++ ys) i x
at_more [] ys i x h = absurd h
at_more (y ∷ xs) ys zero x h = h
at_more (y ∷ xs) ys (suc i) x h = at_more xs ys i x h

pub at_last : (xs : List (List ℕ)) (x : List ℕ) → At (xs ++ x ∷ []) (length xs) x
at_last [] x = refl
at_last (y ∷ ys) x = at_last ys x

pub at_push_cases : (xs : List (List ℕ)) (y : List ℕ) (i : ℕ) (x : List ℕ) → At (xs ++ y ∷ []) i x → At xs i x ⊎ ((i ≡ length xs) × (y ≡ x))
at_push_cases [] y zero x h = inr (refl, h)
at_push_cases [] y (suc i) x h = absurd h
at_push_cases (z ∷ xs) y zero x h = inl h
at_push_cases (z ∷ xs) y (suc i) x h = go (at_push_cases xs y i x h)
  where
    go : At xs i x ⊎ ((i ≡ length xs) × (y ≡ x)) → At xs i x ⊎ ((suc i ≡ suc (length xs)) × (y ≡ x))
    go (inl p) = inl p
    go (inr p) = inr (ap suc p.0, p.1)

pub at_same : (xs : List (List ℕ)) (i : ℕ) (x y : List ℕ) → At xs i x → At xs i y → x ≡ y
at_same [] i x y h k = absurd h
at_same (z ∷ xs) zero x y h k = sym h ∙ k
at_same (z ∷ xs) (suc i) x y h k = at_same xs i x y h k

-- no command stands at two places
abbrev pub AreDistinct : List (List ℕ) → Type 0
AreDistinct subs = (i j : ℕ) (x : List ℕ) → At subs i x → At subs j x → i ≡ j

-- ---- rising places

-- The members of xs stand in subs at rising places, from lo on and below hi.
abbrev pub Within : List (List ℕ) → ℕ → List (List ℕ) → ℕ → Type 0
Within subs lo [] hi = Unit {0}
Within subs lo (x ∷ xs) hi = (i : ℕ) × (lo ≤ i) × (i < hi) × At subs i x × Within subs (suc i) xs hi

pub within_more : (subs more : List (List ℕ)) (lo : ℕ) (xs : List (List ℕ)) (hi : ℕ) → Within subs lo xs hi → Within (subs ++ more) lo xs hi
within_more subs more lo [] hi h = tt
within_more subs more lo (x ∷ xs) hi h = (h.0, h.1, h.2, at_more subs more h.0 x h.3, within_more subs more (suc h.0) xs hi h.4)

-- a further member, at a place above all
pub within_push : (subs : List (List ℕ)) (lo : ℕ) (xs : List (List ℕ)) (hi i up : ℕ) (x : List ℕ) → Within subs lo xs hi → hi ≤ i → lo ≤ i → i < up → At subs i x
    → Within subs lo (xs ++ x ∷ []) up
within_push subs lo [] hi i up x h le from below at = (i, from, below, at, tt)
within_push subs lo (y ∷ xs) hi i up x h le from below at =
    (h.0, h.1, omega (arith, h.2), h.3, within_push subs (suc h.0) xs hi i up x h.4 le (omega (arith, h.2)) below at)

within_rest : (y : List ℕ) (ys : List (List ℕ)) (lo : ℕ) (xs : List (List ℕ)) (hi : ℕ) → Within (y ∷ ys) (suc lo) xs hi → Within ys lo xs hi
within_rest y ys lo [] hi h = tt
within_rest y ys lo (x ∷ xs) hi h = go h.0 h.1 h.2 h.3 h.4 (λ n. within_rest y ys n xs hi)
  where
    go : (i : ℕ) → suc lo ≤ i → i < hi → At (y ∷ ys) i x → Within (y ∷ ys) (suc i) xs hi → ((n : ℕ) → Within (y ∷ ys) (suc n) xs hi → Within ys n xs hi)
        → Within ys lo (x ∷ xs) hi
    go zero from below at rest f = absurd (omega arith)
    go (suc j) from below at rest f = (j, omega arith, omega arith, at, f (suc j) rest)

within_sublist : (subs xs : List (List ℕ)) (hi : ℕ) → Within subs 0 xs hi → IsSublist xs subs
within_sublist [] [] hi h = is_empty
within_sublist [] (x ∷ xs) hi h = absurd h.3
within_sublist (y ∷ ys) [] hi h = without_head y [] ys (within_sublist ys [] hi tt)
within_sublist (y ∷ ys) (x ∷ xs) hi h = go h.0 h.2 h.3 h.4 (λ zs. within_sublist ys zs hi)
  where
    go : (i : ℕ) → i < hi → At (y ∷ ys) i x → Within (y ∷ ys) (suc i) xs hi → ((zs : List (List ℕ)) → Within ys 0 zs hi → IsSublist zs ys)
        → IsSublist (x ∷ xs) (y ∷ ys)
    go zero below at rest f = rw at (with_head x xs ys (f xs (within_rest y ys 0 xs hi rest)))
    go (suc j) below at rest f = without_head y (x ∷ xs) ys (f (x ∷ xs) (j, omega arith, omega arith, at, within_rest y ys (suc j) xs hi rest))

within_all : (P : List ℕ → Type 0) (subs : List (List ℕ)) (lo : ℕ) (xs : List (List ℕ)) (hi : ℕ) → Within subs lo xs hi
    → ((i : ℕ) (y : List ℕ) → lo ≤ i → At subs i y → P y) → All P xs
within_all P subs lo [] hi h f = All-nil P
within_all P subs lo (x ∷ xs) hi h f =
    All-cons P x xs (f h.0 x h.1 h.3) (within_all P subs (suc h.0) xs hi h.4 (λ i y from at. let from_lo : lo ≤ i = omega (arith, h.1) in f i y from_lo at))

within_distinct : (subs : List (List ℕ)) (lo : ℕ) (xs : List (List ℕ)) (hi : ℕ) → AreDistinct subs → Within subs lo xs hi → AllPairs (λ x y. x ≢ y) xs
within_distinct subs lo [] hi d h = λ i j y less below. absurd (omega arith)
within_distinct subs lo (x ∷ xs) hi d h =
    AllPairs-cons (λ x y. x ≢ y) x xs
    (within_all (λ y. x ≢ y) subs (suc h.0) xs hi h.4 (λ i y from at same. later i y from at same))
    (within_distinct subs (suc h.0) xs hi d h.4)
  where
    later : (i : ℕ) (y : List ℕ) → suc h.0 ≤ i → At subs i y → x ≡ y → ⊥
    later i y from at same =
        let place : h.0 ≡ i = d h.0 i x h.3 (rw same at) in
        omega arith

pub once_within : (subs xs : List (List ℕ)) (hi : ℕ) → AreDistinct subs → Within subs 0 xs hi → Once subs xs
once_within subs xs hi d h = record { no_repeats = within_distinct subs 0 xs hi d h; in_order = within_sublist subs xs hi h }

-- ---- lists of what was sent

-- each of these was submitted
abbrev pub AreSubmitted : List (List ℕ) → List (List ℕ) → Type 0
AreSubmitted subs xs = (x : List ℕ) → Contains xs x → (i : ℕ) × At subs i x

pub submitted_push : (subs xs : List (List ℕ)) (y : List ℕ) (i : ℕ) → AreSubmitted subs xs → At subs i y → AreSubmitted subs (xs ++ y ∷ [])
submitted_push subs xs y i h at x c = go (Contains-push_cases xs y x c)
  where
    go : Contains xs x ⊎ (y ≡ x) → (j : ℕ) × At subs j x
    go (inl k) = h x k
    go (inr e) = (i, rw (← e) at)
