-- What a policy tells over a run, and the steps of the receiver's clock.
use Rattle.std.proofs.Common.{◌≡◌, ℕ, ◌-◌, ◌^◌, ◌<◌, ◌≤◌, min, List, [], ◌∷◌, ◌++◌, map, refl, ap, ap₂, subst, arith}
use Rattle.gev_acq.specs.Turns.{Turned}
use Rattle.gev_acq.specs.Acquired.{moments_in, TellsOwn}
use Rattle.gev_acq.specs.Moments.{SaysPaced, SaysEach, PacedClock, begins_at, told_at, read_at, paced_from, paced, most_rise, told_in, InOrder, steps_from, steps}

pub own_told : (made : List Turned) → TellsOwn made → told_in made ≡ moments_in made
own_told [] own = refl
own_told (t ∷ ts) own = ap₂ (λ (m : ℕ) (l : List ℕ). m ∷ l) own.0 (own_told ts own.1)

told_from : (c q : PacedClock) (made : List Turned) → SaysEach SaysPaced c made q → told_in made ≡ paced_from c (moments_in made)
told_from c q [] same = refl
told_from c q (t ∷ ts) each =
    ap₂ (λ (m : ℕ) (l : List ℕ). m ∷ l) each.1.0
    (told_from (read_at c t.moment) q ts (subst (λ (d : PacedClock). SaysEach SaysPaced d ts q) each.1.1 each.2))

-- no turn, and one more
pub says_none : {P : Type 0} (Says : P → ℕ → ℕ → P → Type 0) (p : P) → SaysEach Says p [] p
says_none Says p = refl

pub says_more : {P : Type 0} (Says : P → ℕ → ℕ → P → Type 0) (p q r : P) (made : List Turned) (t : Turned) → SaysEach Says p made q → Says q t.moment t.told r
    → SaysEach Says p (made ++ t ∷ []) r
says_more {P} Says p q r [] t same says = (r, subst (λ (x : P). Says x t.moment t.told r) same says, refl)
says_more Says p q r (x ∷ made) t each says = (each.0, each.1, says_more Says each.0 q r made t each.2 says)

pub paced_told : (m : ℕ) (q : PacedClock) (made : List Turned) → SaysEach SaysPaced (begins_at m) made q → m ∷ told_in made ≡ paced (m ∷ moments_in made)
paced_told m q made each = ap (λ (l : List ℕ). m ∷ l) (told_from (begins_at m) q made each)

-- ---- steps

first_fits : (m : ℕ) (ms : List ℕ) → InOrder m ms → m < 2 ^ 64
first_fits m [] fits = fits
first_fits m (n ∷ ns) order = let later : n < 2 ^ 64 = first_fits n ns order.1 in let low : m ≤ n = order.0 in omega (arith, later, low)

abbrev clock : ℕ → ℕ → PacedClock
clock before told = record { before = before; told = told }

behind : (before told n : ℕ) → told ≤ before → before ≤ n → told_at (clock before told) n ≤ n
behind before told n late low = omega (arith, late, low)

step_cut : (before told n : ℕ) → told ≤ before → before ≤ n → n < 2 ^ 64 → told_at (clock before told) n - told ≡ min most_rise (n - before)
step_cut before told n late low fits = omega (arith, late, low, fits)

cut_from : (before told : ℕ) (ms : List ℕ) → told ≤ before → InOrder before ms
    → steps_from told (paced_from (clock before told) ms) ≡ map (min most_rise) (steps_from before ms)
cut_from before told [] late order = refl
cut_from before told (n ∷ ns) late order =
    ap₂ (λ (m : ℕ) (l : List ℕ). m ∷ l) (step_cut before told n late order.0 (first_fits n ns order.1))
    (cut_from n (told_at (clock before told) n) ns (behind before told n late order.0) order.1)

pub cuts_steps : (m : ℕ) (ms : List ℕ) → InOrder m ms → steps (paced (m ∷ ms)) ≡ map (min most_rise) (steps (m ∷ ms))
cuts_steps m ms order = cut_from m m ms (omega arith) order
