-- Runs of the same turns: states that are alike go on alike, and retire alike.
use Rattle.std.proofs.Common.{◌≡◌, ℕ, List, [], ◌∷◌, ◌++◌, map, Bool, true, false, refl, sym, ap, subst, ◌∙◌}
use Rattle.std.specs.Prelude.{Option, Some, None}
use mathlib.Core.Path.{ap₂}
use Rattle.gvsp_wire.specs.declared.wire_error.WireError.TheVariants.{Short}
use Rattle.gvsp_wire.specs.Reading.{reading, header_of}
use Rattle.acquisition_machine.specs.declared.need.Why.TheVariants.{Foreign}
use Rattle.acquisition_machine.specs.declared.config.AcqConfig.{AcqConfig}
use Rattle.acquisition_machine.specs.Blocks.{Given, Retirement, filling_in, fill_of, fills}
use Rattle.acquisition_machine.specs.Machine.{Input, datagram, claimed, tick, State, Turn, unasked, ignored, step}
use Rattle.acquisition_machine.specs.Runs.{after_from, retired_from}
use Rattle.acquisition_machine.specs.TurnLaws.{asked_by}
use Rattle.acquisition_machine.proofs.Joining.{after_from-append, retired_from-append}
use Rattle.acquisition_machine.specs.Erased.{bare_given, bare, bare_state, bare_input, bare_retirement, uncounted, AreAlike, images}
use Rattle.acquisition_machine.specs.Turns.{Noted, IsOutcome, IsTold, IsHeard, IsRun, with_byte, with_bytes}
use Rattle.acquisition_machine.specs.ErasedLaws.{RunsAgree}
use Rattle.acquisition_machine.proofs.BareTurns.{step-bare}
use Rattle.acquisition_machine.proofs.Lists.{bares-append, after-bares, retired-bares, step-counts, after-counts, retired-counts}

-- ---- lists of inputs that are alike

abbrev pub AreInputsAlike : List Input → List Input → Type 0
AreInputsAlike q p = map bare_input q ≡ map bare_input p

abbrev pub AreRetiredAlike : List Retirement → List Retirement → Type 0
AreRetiredAlike a b = map bare_retirement a ≡ map bare_retirement b

after_alike : (c : AcqConfig) (s r : State) (q p : List Input) → AreAlike s r → AreInputsAlike q p → AreAlike (after_from c s q) (after_from c r p)
after_alike c s r q p e same =
    sym (ap uncounted (after-bares c s q))
    ∙ (after-counts c (bare_state s) (bare_state r) (map bare_input q) e
    ∙ (ap (λ l. uncounted (after_from c (bare_state r) l)) same
    ∙ ap uncounted (after-bares c r p)))

retired_alike : (c : AcqConfig) (s r : State) (q p : List Input) → AreAlike s r → AreInputsAlike q p → AreRetiredAlike (retired_from c s q) (retired_from c r p)
retired_alike c s r q p e same =
    sym (retired-bares c s q)
    ∙ (retired-counts c (bare_state s) (bare_state r) (map bare_input q) e
    ∙ (ap (λ l. retired_from c (bare_state r) l) same
    ∙ retired-bares c r p))

pub need_alike : (c : AcqConfig) (s r : State) (bytes : List ℕ) → AreAlike s r → (step c s (datagram bytes)).need ≡ (step c r (datagram bytes)).need
need_alike c s r bytes e =
    sym (ap (λ (t : Turn). t.need) (step-bare c s (datagram bytes)))
    ∙ (ap (λ (t : Turn). t.need) (step-counts c (bare_state s) (bare_state r) (datagram bytes) e)
    ∙ ap (λ (t : Turn). t.need) (step-bare c r (datagram bytes)))

inputs_append : (q p : List Input) → map bare_input (q ++ p) ≡ map bare_input q ++ map bare_input p
inputs_append [] p = refl
inputs_append (i ∷ q) p = ap (λ l. bare_input i ∷ l) (inputs_append q p)

-- ---- one turn

outcome_alike : (claim : Bool) (g k : Option Given) → IsOutcome claim g → IsOutcome claim k → bare_given g ≡ bare_given k
outcome_alike false g k a b = ap bare_given (a ∙ sym b)
outcome_alike true g k a b = ap bare_given a.1 ∙ sym (ap bare_given b.1)

told_alike : (bytes : List ℕ) (claim : Bool) (n : Option ℕ) (told also : List Input) → IsTold bytes claim n told → IsTold bytes claim n also → AreInputsAlike told also
told_alike bytes claim None told also a b = ap (map bare_input) (a ∙ sym b)
told_alike bytes claim (Some n) told also a b =
    ap (map bare_input) a.2
    ∙ (ap (λ g. datagram bytes ∷ claimed g ∷ datagram bytes ∷ []) (outcome_alike claim a.0 b.0 a.1 b.1)
    ∙ sym (ap (map bare_input) b.2))

-- what a turn comes to
pub record GoesAlike (c : AcqConfig) (s r : State) (q p : List Input) : Type 0 where
  pub after : AreAlike (after_from c s q) (after_from c r p)
  pub retired : AreRetiredAlike (retired_from c s q) (retired_from c r p)

goes_alike : (c : AcqConfig) (s r : State) (q p : List Input) → AreAlike s r → AreInputsAlike q p → GoesAlike c s r q p
goes_alike c s r q p e same = record { after = after_alike c s r q p e same; retired = retired_alike c s r q p e same }

with_tick : (moment : ℕ) (q p : List Input) → AreInputsAlike q p → AreInputsAlike (q ++ tick moment ∷ []) (p ++ tick moment ∷ [])
with_tick moment q p e =
    inputs_append q (tick moment ∷ []) ∙ (ap (λ l. l ++ tick moment ∷ []) e ∙ sym (inputs_append p (tick moment ∷ [])))

-- a datagram without a byte raises a count, and does nothing else
empty_turn : (c : AcqConfig) (s : State) → step c s (datagram []) ≡ ignored (Foreign (Short 0)) (unasked s)
unfolding reading header_of
empty_turn c s = refl

pub empty_asks : (c : AcqConfig) (s : State) → asked_by (step c s (datagram [])).need ≡ None
empty_asks c s = ap (λ (t : Turn). asked_by t.need) (empty_turn c s)

empty_alike : (c : AcqConfig) (s r : State) → AreAlike s r → s.asked ≡ None → AreAlike (step c s (datagram [])).after r
empty_alike c s r e none =
    ap (λ (t : Turn). uncounted (bare_state t.after)) (empty_turn c s)
    ∙ (ap (λ (a : Option ℕ). uncounted (bare_state (record s { asked = a }))) (sym none) ∙ e)

pub turn_alike : (c : AcqConfig) (s r : State) (received : Option (List ℕ)) (claim : Bool) (moment : ℕ) (h k : List Input) → AreAlike s r → s.asked ≡ None
    → IsHeard c s received claim h → IsHeard c r (with_byte received) claim k → GoesAlike c s r (h ++ tick moment ∷ []) (k ++ tick moment ∷ [])
turn_alike c s r None claim moment h k e none a b =
    goes_alike c s r (h ++ tick moment ∷ []) (k ++ tick moment ∷ []) e (with_tick moment h k (ap (map bare_input) (a ∙ sym b)))
turn_alike c s r (Some []) claim moment h k e none a b =
    let told : h ≡ datagram [] ∷ [] = subst (λ m. IsTold [] claim m h) (empty_asks c s) a in
    let at_end : GoesAlike c (step c s (datagram [])).after r (tick moment ∷ []) (tick moment ∷ []) =
    goes_alike c (step c s (datagram [])).after r (tick moment ∷ []) (tick moment ∷ []) (empty_alike c s r e none) refl in
    subst (λ l. GoesAlike c s r (l ++ tick moment ∷ []) (k ++ tick moment ∷ [])) (sym told)
    (subst (λ l. GoesAlike c s r (datagram [] ∷ tick moment ∷ []) (l ++ tick moment ∷ [])) (sym b)
    (record {
      after = at_end.after;
      retired = ap (λ (t : Turn). map bare_retirement (t.retired ++ retired_from c t.after (tick moment ∷ []))) (empty_turn c s)
          ∙ (sym (ap (λ (t : Turn). map bare_retirement (retired_from c t.after (tick moment ∷ []))) (empty_turn c s)) ∙ at_end.retired);
    }))
turn_alike c s r (Some (n ∷ bytes)) claim moment h k e none a b =
    let also = subst (λ m. IsTold (n ∷ bytes) claim (asked_by m) k) (sym (need_alike c s r (n ∷ bytes) e)) b in
    goes_alike c s r (h ++ tick moment ∷ []) (k ++ tick moment ∷ []) e
    (with_tick moment h k (told_alike (n ∷ bytes) claim (asked_by (step c s (datagram (n ∷ bytes))).need) h k a also))

-- ---- runs

-- after a tick no claim is awaited
pub asked_after : (c : AcqConfig) (s : State) (moment : ℕ) (h : List Input) → (after_from c s (h ++ tick moment ∷ [])).asked ≡ None
asked_after c s moment h = ap (λ (u : State). u.asked) (after_from-append c s h (tick moment ∷ []))

retired_joined : (c : AcqConfig) (s r : State) (q rest p also : List Input) → AreRetiredAlike (retired_from c s q) (retired_from c r p)
    → AreRetiredAlike (retired_from c (after_from c s q) rest) (retired_from c (after_from c r p) also)
    → AreRetiredAlike (retired_from c s (q ++ rest)) (retired_from c r (p ++ also))
retired_joined c s r q rest p also first then =
    ap (map bare_retirement) (retired_from-append c s q rest)
    ∙ (bares-append (retired_from c s q) (retired_from c (after_from c s q) rest)
    ∙ (ap₂ (λ l m. l ++ m) first then
    ∙ (sym (bares-append (retired_from c r p) (retired_from c (after_from c r p) also))
    ∙ sym (ap (map bare_retirement) (retired_from-append c r p also)))))

runs_alike : (c : AcqConfig) (s r : State) (ts : List Noted) (q p : List Input) → AreAlike s r → s.asked ≡ None
    → IsRun c s ts q → IsRun c r (map with_bytes ts) p → AreRetiredAlike (retired_from c s q) (retired_from c r p)
runs_alike c s r [] q p e none a b = retired_alike c s r q p e (ap (map bare_input) (a ∙ sym b))
runs_alike c s r (t ∷ ts) q p e none a b =
    let moment : ℕ = t.mark.moment in
    let turn = turn_alike c s r t.received t.mark.claimed moment a.0 b.0 e none a.2 b.2 in
    let rest = runs_alike c (after_from c s (a.0 ++ tick moment ∷ [])) (after_from c r (b.0 ++ tick moment ∷ [])) ts a.1 b.1 turn.after
    (asked_after c s moment a.0) a.4 b.4 in
    subst (λ l. AreRetiredAlike (retired_from c s l) (retired_from c r p)) (sym a.3)
    (subst (λ l. AreRetiredAlike (retired_from c s ((a.0 ++ tick moment ∷ []) ++ a.1)) (retired_from c r l)) (sym b.3)
    (retired_joined c s r (a.0 ++ tick moment ∷ []) a.1 (b.0 ++ tick moment ∷ []) b.1 turn.retired rest))

-- ---- images

images-bares : (p : ℕ) (rs : List Retirement) → images (fills p (map bare_retirement rs)) ≡ images (fills p rs)
images-bares p [] = refl
images-bares p (r ∷ rs) = go r.was.given (images-bares p rs) where
  go : (g : Option Given) → images (fills p (map bare_retirement rs)) ≡ images (fills p rs)
      → images (fill_of p (bare_retirement r) (bare_given g) ++ fills p (map bare_retirement rs)) ≡ images (fill_of p r g ++ fills p rs)
  go None e = e
  go (Some g) e = ap (λ l. filling_in p r g ∷ l) e

pub runs_agree : RunsAgree
runs_agree c s r ts q p e none a b =
    sym (images-bares c.p (retired_from c s q))
    ∙ (ap (λ rs. images (fills c.p rs)) (runs_alike c s r ts q p e none a b)
    ∙ images-bares c.p (retired_from c r p))
