-- Lists of open blocks and of retired ones with their places erased.
use Rattle.std.proofs.Common.{◌≡◌, ℕ, suc, ◌+◌, ◌-◌, List, [], ◌∷◌, ◌++◌, length, map, take, Bool, true, false, refl, sym, ap, ◌∙◌}
use Rattle.std.specs.Prelude.{◌==◌, ◌&&◌, ◌||◌, nat_lt, nat_le, is_some, Option, Some, None, if◌then◌else◌}
use mathlib.Core.Path.{ap₂}
use Rattle.missing_ranges.specs.Missing.{missing}
use Rattle.acquisition_machine.specs.declared.config.AcqConfig.{AcqConfig}
use Rattle.acquisition_machine.specs.Blocks.{Given, Open, Cause, complete, old, Retirement, has_whole, is_old, due, is_ready, ranges_asked, after_asking}
use Rattle.acquisition_machine.specs.Blocks as block
use Rattle.acquisition_machine.specs.Machine.{State, lowest_or, is_full, bound_of, open_at, put, leave_if, leaving, stay_if, staying, floor_after, without, settled, displaced_of, rest_of, number_after, requests_for, requests_of, number_past, after_rounds, all_stopped}
use Rattle.acquisition_machine.specs.Erased.{bare_given, bare, bare_state, bare_retirement}

-- what is done to either branch is done to the choice
pub push : {A B : Type 0} (f : A → B) (v : Bool) (x y : A) → f (if v then x else y) ≡ (if v then f x else f y)
push f true x y = refl
push f false x y = refl

-- ---- open blocks

length-bares : (os : List Open) → length (map bare os) ≡ length os
length-bares [] = refl
length-bares (o ∷ os) = ap suc (length-bares os)

pub full-bares : (c : AcqConfig) (os : List Open) → is_full c (map bare os) ≡ is_full c os
full-bares c os = ap (nat_le c.window) (length-bares os)

lowest-bares : (floor : ℕ) (os : List Open) → lowest_or floor (map bare os) ≡ lowest_or floor os
lowest-bares floor [] = refl
lowest-bares floor (o ∷ os) = refl

pub bound-bares : (c : AcqConfig) (floor : ℕ) (os : List Open) → bound_of c floor (map bare os) ≡ bound_of c floor os
bound-bares c floor os = ap₂ (λ full low. if full then low else floor) (full-bares c os) (lowest-bares floor os)

-- the block that was found, with its place erased
abbrev pub bare_if : Option Open → Option Open
bare_if None = None
bare_if (Some o) = Some (bare o)

pub at-bares : (b : ℕ) (os : List Open) → open_at b (map bare os) ≡ bare_if (open_at b os)
at-bares b [] = refl
at-bares b (o ∷ os) =
    ap (λ r. if o.block == b then Some (bare o) else r) (at-bares b os) ∙ sym (push bare_if (o.block == b) (Some o) (open_at b os))

pub put-bares : (o : Open) (os : List Open) → put (bare o) (map bare os) ≡ map bare (put o os)
put-bares o [] = refl
put-bares o (n ∷ os) = go (nat_lt o.block n.block) (o.block == n.block) (put-bares o os) where
  go : (v w : Bool) → put (bare o) (map bare os) ≡ map bare (put o os)
      → (if v then bare o ∷ bare n ∷ map bare os else if w then bare o ∷ map bare os else bare n ∷ put (bare o) (map bare os))
      ≡ map bare (if v then o ∷ n ∷ os else if w then o ∷ os else n ∷ put o os)
  go true w e = refl
  go false true e = refl
  go false false e = ap (λ l. bare n ∷ l) e

-- ---- settling

whole-bare : (p : ℕ) (o : Open) (g : Option Given) → has_whole p (bare o) (bare_given g) ≡ has_whole p o g
whole-bare p o None = refl
whole-bare p o (Some g) = refl

due-bare : (c : AcqConfig) (now : ℕ) (o : Open) → due c now (bare o) ≡ due c now o
due-bare c now o =
    ap (λ v. if v then Some complete else if is_old c.timeout now o then Some old else None) (whole-bare c.p o o.given)

leave-bare : (d : Option Cause) (o : Open) (rs : List Retirement) → leave_if d (bare o) (map bare_retirement rs) ≡ map bare_retirement (leave_if d o rs)
leave-bare None o rs = refl
leave-bare (Some cause) o rs = refl

pub leaving-bares : (c : AcqConfig) (now : ℕ) (os : List Open) → leaving c now (map bare os) ≡ map bare_retirement (leaving c now os)
leaving-bares c now [] = refl
leaving-bares c now (o ∷ os) =
    ap₂ (λ d rs. leave_if d (bare o) rs) (due-bare c now o) (leaving-bares c now os) ∙ leave-bare (due c now o) o (leaving c now os)

stay-bare : (d : Option Cause) (os rest : List Open) → stay_if d (map bare os) (map bare rest) ≡ map bare (stay_if d os rest)
stay-bare None os rest = refl
stay-bare (Some cause) os rest = refl

pub staying-bares : (c : AcqConfig) (now : ℕ) (os : List Open) → staying c now (map bare os) ≡ map bare (staying c now os)
staying-bares c now [] = refl
staying-bares c now (o ∷ os) =
    ap₂ (λ d l. stay_if d (map bare (o ∷ os)) l) (due-bare c now o) (staying-bares c now os)
    ∙ stay-bare (due c now o) (o ∷ os) (staying c now os)

floor-bares : (floor : ℕ) (rs : List Retirement) → floor_after floor (map bare_retirement rs) ≡ floor_after floor rs
floor-bares floor [] = refl
floor-bares floor (r ∷ rs) = floor-bares (r.was.block + 1) rs

pub without-bares : (rs : List Retirement) (os : List Open) (s : State) → without (map bare_retirement rs) (map bare os) (bare_state s) ≡ bare_state (without rs os s)
without-bares rs os s = ap (λ (f : ℕ). record s { floor = f; opens = map bare os }) (floor-bares s.floor rs)

pub settled-bares : (c : AcqConfig) (s : State) → settled c (bare_state s) ≡ bare_state (settled c s)
settled-bares c s =
    ap₂ (λ rs os. without rs os (bare_state s)) (leaving-bares c s.now s.opens) (staying-bares c s.now s.opens)
    ∙ without-bares (leaving c s.now s.opens) (staying c s.now s.opens) s

-- ---- giving place, and stopping

pub displaced-bares : (full : Bool) (os : List Open) → displaced_of full (map bare os) ≡ map bare_retirement (displaced_of full os)
displaced-bares false os = refl
displaced-bares true [] = refl
displaced-bares true (o ∷ os) = refl

pub rest-bares : (full : Bool) (os : List Open) → rest_of full (map bare os) ≡ map bare (rest_of full os)
rest-bares false os = refl
rest-bares true [] = refl
rest-bares true (o ∷ os) = refl

pub stopped-bares : (os : List Open) → all_stopped (map bare os) ≡ map bare_retirement (all_stopped os)
stopped-bares [] = refl
stopped-bares (o ∷ os) = ap (λ l. record { was = bare o; cause = block.stopped } ∷ l) (stopped-bares os)

-- ---- asking again

some-bare : (g : Option Given) → is_some (bare_given g) ≡ is_some g
some-bare None = refl
some-bare (Some g) = refl

ready-bare : (c : AcqConfig) (now : ℕ) (o : Open) → is_ready c now (bare o) ≡ is_ready c now o
ready-bare c now o =
    ap (λ v. v && nat_lt o.rounds c.rounds && nat_le c.age (now - o.last) && (o.rounds == 0 || nat_le c.age (now - o.round_at)))
    (some-bare o.given)

ranges-bare : (c : AcqConfig) (now : ℕ) (o : Open) → ranges_asked c now (bare o) ≡ ranges_asked c now o
ranges-bare c now o = ap (λ v. if v then take 8 (missing c.p o.block o.heard) else []) (ready-bare c now o)

round-bare : (now : ℕ) (o : Open) (rs : List (ℕ × ℕ)) → after_asking now (bare o) rs ≡ bare (after_asking now o rs)
round-bare now o [] = refl
round-bare now o (r ∷ rs) = refl

pub rounds-bares : (c : AcqConfig) (now : ℕ) (os : List Open) → after_rounds c now (map bare os) ≡ map bare (after_rounds c now os)
rounds-bares c now [] = refl
rounds-bares c now (o ∷ os) =
    ap₂ (λ h t. h ∷ t)
    (ap (after_asking now (bare o)) (ranges-bare c now o) ∙ round-bare now o (ranges_asked c now o))
    (rounds-bares c now os)

pub requests-bares : (c : AcqConfig) (now n : ℕ) (os : List Open) → requests_of c now n (map bare os) ≡ requests_of c now n os
requests-bares c now n [] = refl
requests-bares c now n (o ∷ os) =
    ap (λ rs. requests_for n o.block rs ++ requests_of c now (number_after n rs) (map bare os)) (ranges-bare c now o)
    ∙ ap (λ l. requests_for n o.block (ranges_asked c now o) ++ l) (requests-bares c now (number_after n (ranges_asked c now o)) os)

pub past-bares : (c : AcqConfig) (now n : ℕ) (os : List Open) → number_past c now n (map bare os) ≡ number_past c now n os
past-bares c now n [] = refl
past-bares c now n (o ∷ os) =
    ap (λ rs. number_past c now (number_after n rs) (map bare os)) (ranges-bare c now o)
    ∙ past-bares c now (number_after n (ranges_asked c now o)) os
