-- Blocks that retire from the lowest on.
use Rattle.std.proofs.Common.{◌≡◌, ℕ, ◌+◌, ◌<◌, ◌≤◌, List, [], ◌∷◌, ◌++◌, length, Bool, true, false, refl, ap, arith}
use Rattle.std.specs.Prelude.{Option, Some, None, if◌then◌else◌}
use Rattle.std.proofs.lemmas.Bool.{lt-leb}
use Rattle.std.proofs.lemmas.List.{length-append}
use Rattle.acquisition_machine.specs.declared.config.AcqConfig.{AcqConfig}
use Rattle.acquisition_machine.specs.Blocks.{Open, Cause, Retirement, due, ranges_asked, after_asking}
use Rattle.acquisition_machine.specs.Machine.{leave_if, stay_if, leaving, staying, floor_after, displaced_of, rest_of, all_stopped, after_rounds, is_full, lowest_or, bound_of}
use Rattle.acquisition_machine.specs.Sound.{RiseFrom}
use Rattle.acquisition_machine.specs.Laws.{RetireFrom}

-- the blocks as they were when they retired
abbrev pub were : List Retirement → List Open
were [] = []
were (r ∷ rs) = r.was ∷ were rs

pub were-append : (rs ss : List Retirement) → were (rs ++ ss) ≡ were rs ++ were ss
were-append [] ss = refl
were-append (r ∷ rs) ss = ap (λ l. r.was ∷ l) (were-append rs ss)

-- those that retire and those that stay are all, in order
settle_step : (o : Open) (os : List Open) (d : Option Cause) (rs : List Retirement) (rest : List Open) → were rs ++ rest ≡ os → were (leave_if d o rs) ++ stay_if d (o ∷ os) rest ≡ o ∷ os
settle_step o os None rs rest e = refl
settle_step o os (Some cause) rs rest e = ap (λ l. o ∷ l) e

pub settle_parts : (c : AcqConfig) (now : ℕ) (os : List Open) → were (leaving c now os) ++ staying c now os ≡ os
settle_parts c now [] = refl
settle_parts c now (o ∷ os) = settle_step o os (due c now o) (leaving c now os) (staying c now os) (settle_parts c now os)

pub displaced_parts : (full : Bool) (os : List Open) → were (displaced_of full os) ++ rest_of full os ≡ os
displaced_parts false os = refl
displaced_parts true [] = refl
displaced_parts true (o ∷ os) = refl

pub stopped_parts : (os : List Open) → were (all_stopped os) ++ [] ≡ os
stopped_parts [] = refl
stopped_parts (o ∷ os) = ap (λ l. o ∷ l) (stopped_parts os)

-- ---- order

pub rise_rest : (low : ℕ) (rs : List Retirement) (os : List Open) → RiseFrom low (were rs ++ os) → RiseFrom (floor_after low rs) os
rise_rest low [] os r = r
rise_rest low (x ∷ rs) os r = rise_rest (x.was.block + 1) rs os r.1

pub retire_rise : (low : ℕ) (rs : List Retirement) (os : List Open) → RiseFrom low (were rs ++ os) → RetireFrom low rs
retire_rise low [] os r = tt
retire_rise low (x ∷ rs) os r = (r.0, retire_rise (x.was.block + 1) rs os r.1)

pub floor_rises : (low : ℕ) (rs : List Retirement) (os : List Open) → RiseFrom low (were rs ++ os) → low ≤ floor_after low rs
floor_rises low [] os r = omega arith
floor_rises low (x ∷ rs) os r =
    let above : low ≤ x.was.block = r.0 in
    let rest : x.was.block + 1 ≤ floor_after (x.was.block + 1) rs = floor_rises (x.was.block + 1) rs os r.1 in
    omega arith

pub floor_after-append : (low : ℕ) (rs ss : List Retirement) → floor_after low (rs ++ ss) ≡ floor_after (floor_after low rs) ss
floor_after-append low [] ss = refl
floor_after-append low (r ∷ rs) ss = floor_after-append (r.was.block + 1) rs ss

pub retire_append : (low : ℕ) (rs ss : List Retirement) → RetireFrom low rs → RetireFrom (floor_after low rs) ss → RetireFrom low (rs ++ ss)
retire_append low [] ss a b = b
retire_append low (r ∷ rs) ss a b = (a.0, retire_append (r.was.block + 1) rs ss a.1 b)

-- ---- the bound

if_below : (full : Bool) (a b n : ℕ) → a ≤ n → b ≤ n → (if full then a else b) ≤ n
if_below true a b n h k = h
if_below false a b n h k = k

if_above : (full : Bool) (a b n : ℕ) → n ≤ a → n ≤ b → n ≤ (if full then a else b)
if_above true a b n h k = h
if_above false a b n h k = k

pub floor_below_bound : (c : AcqConfig) (low : ℕ) (os : List Open) → RiseFrom low os → low ≤ bound_of c low os
floor_below_bound c low [] r = if_above (is_full c []) low low low (omega arith) (omega arith)
floor_below_bound c low (o ∷ os) r = if_above (is_full c (o ∷ os)) o.block low low r.0 (omega arith)

-- the bound lies above no open block
pub bound_below_lowest : (c : AcqConfig) (low : ℕ) (o : Open) (os : List Open) → RiseFrom low (o ∷ os) → bound_of c low (o ∷ os) ≤ o.block
bound_below_lowest c low o os r = if_below (is_full c (o ∷ os)) o.block low o.block (omega arith) r.0

-- with less than a full window the bound is the floor
pub bound-room : (c : AcqConfig) (low : ℕ) (os : List Open) → length os < c.window → bound_of c low os ≡ low
bound-room c low os h = rw (lt-leb c.window (length os) h) refl

-- where blocks retire the bound doesn't fall
pub bound_rises : (c : AcqConfig) (low : ℕ) (rs : List Retirement) (os : List Open) → RiseFrom low (were rs ++ os) → length (were rs ++ os) ≤ c.window → bound_of c low (were rs ++ os) ≤ bound_of c (floor_after low rs) os
bound_rises c low [] os r room = omega arith
bound_rises c low (x ∷ rs) os r room =
    let above : low ≤ x.was.block = r.0 in
    let rest : x.was.block + 1 ≤ floor_after (x.was.block + 1) rs = floor_rises (x.was.block + 1) rs os r.1 in
    let parts = length-append (were rs) os in
    let fewer : length os < c.window = omega (arith, parts) in
    let after = bound-room c (floor_after (x.was.block + 1) rs) os fewer in
    let before : bound_of c low (x.was ∷ (were rs ++ os)) ≤ x.was.block = if_below (is_full c (x.was ∷ (were rs ++ os))) x.was.block low x.was.block (omega arith) above in
    omega (arith, after)

-- ---- rounds change no ids

pub block-round : (now : ℕ) (o : Open) (rs : List (ℕ × ℕ)) → (after_asking now o rs).block ≡ o.block
block-round now o [] = refl
block-round now o (r ∷ rs) = refl

pub rise_rounds : (c : AcqConfig) (now low : ℕ) (os : List Open) → RiseFrom low os → RiseFrom low (after_rounds c now os)
rise_rounds c now low [] r = tt
rise_rounds c now low (o ∷ os) r =
    rw (block-round now o (ranges_asked c now o)) (r.0, rise_rounds c now (o.block + 1) os r.1)

pub length-rounds : (c : AcqConfig) (now : ℕ) (os : List Open) → length (after_rounds c now os) ≡ length os
length-rounds c now [] = refl
length-rounds c now (o ∷ os) = let same = length-rounds c now os in rw same refl

pub lowest-rounds : (c : AcqConfig) (now low : ℕ) (os : List Open) → lowest_or low (after_rounds c now os) ≡ lowest_or low os
lowest-rounds c now low [] = refl
lowest-rounds c now low (o ∷ os) = block-round now o (ranges_asked c now o)

pub bound-rounds : (c : AcqConfig) (now low : ℕ) (os : List Open) → bound_of c low (after_rounds c now os) ≡ bound_of c low os
bound-rounds c now low os = rw (length-rounds c now os, lowest-rounds c now low os) refl
