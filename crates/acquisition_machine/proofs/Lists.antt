-- Lists of inputs, with places erased and with counts left out.
use Rattle.std.proofs.Common.{◌≡◌, List, [], ◌∷◌, ◌++◌, map, refl, sym, ap, ◌∙◌}
use mathlib.Core.Path.{ap₂}
use Rattle.acquisition_machine.specs.declared.config.AcqConfig.{AcqConfig}
use Rattle.acquisition_machine.specs.Blocks.{Retirement}
use Rattle.acquisition_machine.specs.Machine.{Input, State, Turn, step}
use Rattle.acquisition_machine.specs.Runs.{after_from, retired_from, requests_from, with_need, needs_from}
use Rattle.acquisition_machine.specs.Erased.{bare_state, bare_input, bare_retirement, uncounted, uncounted_turn}
use Rattle.acquisition_machine.specs.ErasedLaws.{PlacesAreNotRead, CountsAreNotRead}
use Rattle.acquisition_machine.proofs.BareTurns.{step-bare}
use Rattle.acquisition_machine.proofs.Uncounted.{step-uncounted}

-- ---- places

pub bares-append : (rs qs : List Retirement) → map bare_retirement (rs ++ qs) ≡ map bare_retirement rs ++ map bare_retirement qs
bares-append [] qs = refl
bares-append (r ∷ rs) qs = ap (λ l. bare_retirement r ∷ l) (bares-append rs qs)

pub after-bares : (c : AcqConfig) (s : State) (q : List Input) → after_from c (bare_state s) (map bare_input q) ≡ bare_state (after_from c s q)
after-bares c s [] = refl
after-bares c s (i ∷ q) =
    ap (λ (t : Turn). after_from c t.after (map bare_input q)) (step-bare c s i) ∙ after-bares c (step c s i).after q

pub retired-bares : (c : AcqConfig) (s : State) (q : List Input) → retired_from c (bare_state s) (map bare_input q) ≡ map bare_retirement (retired_from c s q)
retired-bares c s [] = refl
retired-bares c s (i ∷ q) =
    ap (λ (t : Turn). t.retired ++ retired_from c t.after (map bare_input q)) (step-bare c s i)
    ∙ (ap (λ l. map bare_retirement (step c s i).retired ++ l) (retired-bares c (step c s i).after q)
    ∙ sym (bares-append (step c s i).retired (retired_from c (step c s i).after q)))

needs-bares : (c : AcqConfig) (s : State) (q : List Input) → needs_from c (bare_state s) (map bare_input q) ≡ needs_from c s q
needs-bares c s [] = refl
needs-bares c s (i ∷ q) =
    ap (λ (t : Turn). with_need t.need (needs_from c t.after (map bare_input q))) (step-bare c s i)
    ∙ ap (with_need (step c s i).need) (needs-bares c (step c s i).after q)

requests-bares : (c : AcqConfig) (s : State) (q : List Input) → requests_from c (bare_state s) (map bare_input q) ≡ requests_from c s q
requests-bares c s [] = refl
requests-bares c s (i ∷ q) =
    ap (λ (t : Turn). t.requests ++ requests_from c t.after (map bare_input q)) (step-bare c s i)
    ∙ ap (λ l. (step c s i).requests ++ l) (requests-bares c (step c s i).after q)

pub places_are_not_read : PlacesAreNotRead
places_are_not_read = record {
  step = step-bare;
  after = after-bares;
  retired = retired-bares;
  needs = needs-bares;
  requests = requests-bares;
}

-- ---- counts

-- turns from states that differ in counts alone
pub step-counts : (c : AcqConfig) (s r : State) (i : Input) → uncounted s ≡ uncounted r → uncounted_turn (step c s i) ≡ uncounted_turn (step c r i)
step-counts c s r i e =
    sym (step-uncounted c s i) ∙ (ap (λ u. uncounted_turn (step c u i)) e ∙ step-uncounted c r i)

pub after-counts : (c : AcqConfig) (s r : State) (q : List Input) → uncounted s ≡ uncounted r → uncounted (after_from c s q) ≡ uncounted (after_from c r q)
after-counts c s r [] e = e
after-counts c s r (i ∷ q) e =
    after-counts c (step c s i).after (step c r i).after q (ap (λ (t : Turn). t.after) (step-counts c s r i e))

pub retired-counts : (c : AcqConfig) (s r : State) (q : List Input) → uncounted s ≡ uncounted r → retired_from c s q ≡ retired_from c r q
retired-counts c s r [] e = refl
retired-counts c s r (i ∷ q) e =
    let t = step-counts c s r i e in
    ap₂ (λ l m. l ++ m) (ap (λ (t : Turn). t.retired) t)
    (retired-counts c (step c s i).after (step c r i).after q (ap (λ (t : Turn). t.after) t))

needs-counts : (c : AcqConfig) (s r : State) (q : List Input) → uncounted s ≡ uncounted r → needs_from c s q ≡ needs_from c r q
needs-counts c s r [] e = refl
needs-counts c s r (i ∷ q) e =
    let t = step-counts c s r i e in
    ap₂ with_need (ap (λ (t : Turn). t.need) t)
    (needs-counts c (step c s i).after (step c r i).after q (ap (λ (t : Turn). t.after) t))

requests-counts : (c : AcqConfig) (s r : State) (q : List Input) → uncounted s ≡ uncounted r → requests_from c s q ≡ requests_from c r q
requests-counts c s r [] e = refl
requests-counts c s r (i ∷ q) e =
    let t = step-counts c s r i e in
    ap₂ (λ l m. l ++ m) (ap (λ (t : Turn). t.requests) t)
    (requests-counts c (step c s i).after (step c r i).after q (ap (λ (t : Turn). t.after) t))

pub counts_are_not_read : CountsAreNotRead
counts_are_not_read = record {
  step = step-uncounted;
  after = λ c s q. after-counts c (uncounted s) s q refl;
  retired = λ c s q. retired-counts c (uncounted s) s q refl;
  needs = λ c s q. needs-counts c (uncounted s) s q refl;
  requests = λ c s q. requests-counts c (uncounted s) s q refl;
}
