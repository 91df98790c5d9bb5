-- Which places are in use, as buffers come back and are given.
use Rattle.std.proofs.Common.{◌≡◌, ℕ, zero, suc, ◌<◌, ◌≤◌, ◌==◌, Bool, true, false, List, [], ◌∷◌, ◌++◌, map, if◌then◌else◌, refl, sym, ap, subst, ◌∙◌, arith, eqb-true, eq-eqb}
use Rattle.std.specs.List.{AllByRecursion}
use Rattle.board_machine.specs.Places.{same, times}
use Rattle.board_machine.proofs.Places.{same_self}
use Rattle.acquisition_machine.specs.declared.retired.Retired.{Retired}
use Rattle.acquisition_machine.specs.TurnLaws.{given_of}
use Rattle.take_lines.specs.Players.{places_of}
use Rattle.gev_record.specs.Script.{is_among}
use Rattle.gev_record.proofs.Holding.{places_in, IsLive}
use Rattle.gev_record.specs.declared.used.Used.{Used}
use Rattle.gev_record.specs.Places.{used_of, freed, taken, all_freed}

same_used : (a b c d e f : Bool) → a ≡ d → b ≡ e → c ≡ f → ◌≡◌ {A = Used} (record { first = a; second = b; third = c }) (record { first = d; second = e; third = f })
same_used a b c d e f p q r =
    ap (λ x. record { first = x; second = b; third = c }) p
    ∙ (ap (λ x. record { first = d; second = x; third = c }) q ∙ ap (λ x. record { first = d; second = e; third = x }) r)

-- a place that isn't there is not among them
none_among : (i : ℕ) (is : List ℕ) → times i is ≡ 0 → is_among i is ≡ false
none_among i [] none = refl
none_among i (j ∷ js) none = go (i == j) refl (none_among i js) where
  go : (v : Bool) → (i == j) ≡ v → (times i js ≡ 0 → is_among i js ≡ false) → (if v then true else is_among i js) ≡ false
  go true e rest = absurd (let s : same i j ≡ 1 = subst (λ k. same i k ≡ 1) (eqb-true i j e) (same_self i) in omega (arith, s, none))
  go false e rest = rest (omega (arith, none))

-- the first place comes back
freed_first : (p : ℕ) (is : List ℕ) → p < 3 → times p is ≡ 0 → freed p (used_of (p ∷ is)) ≡ used_of is
freed_first zero is low none = same_used false (is_among 1 is) (is_among 2 is) (is_among 0 is) (is_among 1 is) (is_among 2 is) (sym (none_among 0 is none)) refl refl
freed_first (suc zero) is low none = same_used (is_among 0 is) false (is_among 2 is) (is_among 0 is) (is_among 1 is) (is_among 2 is) refl (sym (none_among 1 is none)) refl
freed_first (suc (suc zero)) is low none = same_used (is_among 0 is) (is_among 1 is) false (is_among 0 is) (is_among 1 is) (is_among 2 is) refl refl (sym (none_among 2 is none))
freed_first (suc (suc (suc n))) is low none = absurd (omega arith)

-- all of these come back, and the others stay
pub freed_all : (xs : List Retired) (his : List ℕ) → AllByRecursion IsLive (map given_of xs) → ((k : ℕ) → times k (places_in (map given_of xs) ++ his) ≤ 1)
    → all_freed (places_of xs) (used_of (places_in (map given_of xs) ++ his)) ≡ used_of his
freed_all [] his all once = refl
freed_all (x ∷ xs) his all once =
    let rest : List ℕ = places_in (map given_of xs) ++ his in
    let gone : times x.place rest ≡ 0 = (let o = once x.place in let s = same_self x.place in omega (arith, o, s)) in
    ap (all_freed (places_of xs)) (freed_first x.place rest all.0.low gone)
    ∙ freed_all xs his all.1 (λ k. (let o = once k in omega (arith, o)))

-- ---- one more

among_middle : (p : ℕ) (front back : List ℕ) → is_among p (front ++ p ∷ back) ≡ true
among_middle p [] back = go (p == p) (eq-eqb p p refl) where
  go : (v : Bool) → v ≡ true → (if v then true else is_among p back) ≡ true
  go true e = refl
  go false e = absurd cc
among_middle p (j ∷ front) back = go (p == j) (among_middle p front back) where
  go : (v : Bool) → is_among p (front ++ p ∷ back) ≡ true → (if v then true else is_among p (front ++ p ∷ back)) ≡ true
  go true rest = refl
  go false rest = rest

among_other : (i p : ℕ) (front back : List ℕ) → (i == p) ≡ false → is_among i (front ++ back) ≡ is_among i (front ++ p ∷ back)
among_other i p [] back other = go (i == p) other where
  go : (v : Bool) → v ≡ false → is_among i back ≡ (if v then true else is_among i back)
  go true e = absurd cc
  go false e = refl
among_other i p (j ∷ front) back other = ap (λ b. if i == j then true else b) (among_other i p front back other)

pub taken_middle : (p : ℕ) (front back : List ℕ) → p < 3 → taken p (used_of (front ++ back)) ≡ used_of (front ++ p ∷ back)
taken_middle zero front back low =
    same_used true (is_among 1 (front ++ back)) (is_among 2 (front ++ back)) (is_among 0 (front ++ 0 ∷ back)) (is_among 1 (front ++ 0 ∷ back)) (is_among 2 (front ++ 0 ∷ back))
    (sym (among_middle 0 front back)) (among_other 1 0 front back refl) (among_other 2 0 front back refl)
taken_middle (suc zero) front back low =
    same_used (is_among 0 (front ++ back)) true (is_among 2 (front ++ back)) (is_among 0 (front ++ 1 ∷ back)) (is_among 1 (front ++ 1 ∷ back)) (is_among 2 (front ++ 1 ∷ back))
    (among_other 0 1 front back refl) (sym (among_middle 1 front back)) (among_other 2 1 front back refl)
taken_middle (suc (suc zero)) front back low =
    same_used (is_among 0 (front ++ back)) (is_among 1 (front ++ back)) true (is_among 0 (front ++ 2 ∷ back)) (is_among 1 (front ++ 2 ∷ back)) (is_among 2 (front ++ 2 ∷ back))
    (among_other 0 2 front back refl) (among_other 1 2 front back refl) (sym (among_middle 2 front back))
taken_middle (suc (suc (suc n))) front back low = absurd (omega arith)
