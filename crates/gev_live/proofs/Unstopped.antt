-- Acts of a live run's workers that are no stop of the run.
use Rattle.std.proofs.Common.{◌≡◌, ℕ, Bool, true, false, List, [], ◌∷◌, ◌++◌, Option, Some, None, inl, inr, refl, sym, subst}
use Rattle.board_machine.specs.declared.events.Event.{Event}
use Rattle.board_machine.specs.declared.events.Event.TheVariants.{LookRun, Stop}
use Rattle.board_machine.specs.Adding.{entries_of}
use Rattle.board_machine.specs.Kinds.{HasNone, is_stop}
use Rattle.acquisition_machine.specs.declared.config.AcqConfig.{AcqConfig}
use Rattle.acquisition_machine.specs.declared.retired.Retired.{Retired}
use Rattle.acquisition_machine.specs.Blocks.{fills}
use Rattle.acquisition_machine.specs.Machine.{Input, datagram, claimed, tick, stop, restart, State, step}
use Rattle.acquisition_machine.specs.Runs.{after_from}
use Rattle.buffer_words.specs.Workers.{AreEvents}
use Rattle.gev_control.specs.declared.acq_end.AcqEnd.{AcqEnd}
use Rattle.gev_control.specs.declared.acq_end.AcqEnd.TheVariants as how
use Rattle.board_calls.specs.declared.mode.Mode.{Mode}
use Rattle.board_calls.specs.declared.mode.Mode.TheVariants.{OldestFirst, OldestFirstOverwrite, NewestOnly}
use Rattle.board_calls.specs.Modes.{ClaimsOnly, ClaimsOrTakes, ClaimsFor, takes_and_pools, DropsFor}
use Rattle.gev_acq.specs.Serving.{ClaimsOf, Serves}
use Rattle.gev_acq.specs.Filling.{laid_unless, FillsOne, FillsRetiredFor}
use Rattle.gev_acq.specs.Turns.{Turned, inputs_of}
use Rattle.gev_acq.specs.Acquired.{ServesTurns}
use Rattle.gev_apply.specs.Kinds.{is_turns}
use Rattle.gev_acq.specs.Reads.{LastLook}

-- no event is a stop
abbrev pub Unstopped : List Event → Type 0
Unstopped [] = Unit {0}
Unstopped (e ∷ es) = (is_stop e ≡ false) × Unstopped es

pub both_unstopped : (es fs : List Event) → Unstopped es → Unstopped fs → Unstopped (es ++ fs)
both_unstopped [] fs first second = second
both_unstopped (e ∷ es) fs first second = (first.0, both_unstopped es fs first.1 second)

same_unstopped : (es fs : List Event) → es ≡ fs → Unstopped fs → Unstopped es
same_unstopped es fs is none = subst (λ l. Unstopped l) (sym is) none

pub entries_unstopped : (n : ℕ) (es : List Event) → Unstopped es → HasNone is_stop (entries_of n es)
entries_unstopped n [] none = tt
entries_unstopped n (e ∷ es) none = (none.0, entries_unstopped n es none.1)

-- ---- the reader

drops_unstopped : (is : List ℕ) → Unstopped (takes_and_pools is)
drops_unstopped [] = tt
drops_unstopped (i ∷ is) = (refl, (refl, drops_unstopped is))

dropped_unstopped : (mode : Mode) (dropped : List ℕ) (es : List Event) → DropsFor mode dropped es → Unstopped es
dropped_unstopped OldestFirst dropped es drops = same_unstopped es [] drops.1 tt
dropped_unstopped OldestFirstOverwrite dropped es drops = same_unstopped es [] drops.1 tt
dropped_unstopped NewestOnly dropped es (inl drops) = same_unstopped es _ drops.is (both_unstopped (takes_and_pools dropped) _ (drops_unstopped dropped) (refl, tt))
dropped_unstopped NewestOnly dropped es (inr drops) = same_unstopped es (takes_and_pools dropped) drops.is (drops_unstopped dropped)

laid_unstopped : (filled : Bool) (i : ℕ) → Unstopped (laid_unless filled i)
laid_unstopped true i = tt
laid_unstopped false i = (refl, tt)

fill_unstopped : (mode : Mode) (r : Retired) (es : List Event) → FillsOne mode r es → Unstopped es
fill_unstopped mode r es one =
    same_unstopped es (one.call ++ laid_unless one.filled r.place) one.is
    (both_unstopped one.call (laid_unless one.filled r.place) call (laid_unstopped one.filled r.place))
  where
    call : Unstopped one.call
    call = same_unstopped one.call _ one.fills.is (both_unstopped one.fills.front _ (dropped_unstopped mode one.dropped one.fills.front one.fills.drops) (refl, tt))

fills_unstopped : (mode : Mode) (rs : List Retired) (es : List Event) → FillsRetiredFor mode rs es → Unstopped es
fills_unstopped mode [] es none = same_unstopped es [] none tt
fills_unstopped mode (r ∷ rs) es each =
    same_unstopped es (each.0 ++ each.1) each.4 (both_unstopped each.0 each.1 (fill_unstopped mode r each.0 each.2) (fills_unstopped mode rs each.1 each.3))

claim_alone : (answer : Option (ℕ × Bool)) (es : List Event) → ClaimsOnly answer es → Unstopped es
claim_alone None es claims = same_unstopped es _ claims (refl, tt)
claim_alone (Some (i, false)) es claims = same_unstopped es _ claims (refl, tt)
claim_alone (Some (i, true)) es claims = absurd claims

claim_or_take : (answer : Option (ℕ × Bool)) (es : List Event) → ClaimsOrTakes answer es → Unstopped es
claim_or_take None es claims = same_unstopped es _ claims.2 (refl, (refl, tt))
claim_or_take (Some (i, false)) es claims = same_unstopped es _ claims (refl, tt)
claim_or_take (Some (i, true)) es claims = same_unstopped es _ claims (refl, (refl, tt))

claim_unstopped : (mode : Mode) (answer : Option (ℕ × Bool)) (es : List Event) → ClaimsFor mode answer es → Unstopped es
claim_unstopped OldestFirst answer es claims = claim_alone answer es claims
claim_unstopped OldestFirstOverwrite answer es claims = claim_or_take answer es claims
claim_unstopped NewestOnly answer es claims = claim_or_take answer es claims

claims_unstopped : (mode : Mode) (i : Input) (es : List Event) → ClaimsOf mode i es → Unstopped es
claims_unstopped mode (datagram bytes) es none = same_unstopped es [] none tt
claims_unstopped mode (claimed None) es claims = claim_unstopped mode None es claims
claims_unstopped mode (claimed (Some g)) es claims = claim_unstopped mode (Some (g.place, claims.0)) es claims.1
claims_unstopped mode (tick moment) es none = same_unstopped es [] none tt
claims_unstopped mode stop es none = same_unstopped es [] none tt
claims_unstopped mode restart es none = same_unstopped es [] none tt

pub served_unstopped : (mode : Mode) (c : AcqConfig) (s : State) (is : List Input) (es : List Event) → Serves mode c s is es → Unstopped es
served_unstopped mode c s [] es none = same_unstopped es [] none tt
served_unstopped mode c s (i ∷ is) es each =
    same_unstopped es (each.0 ++ (each.1 ++ each.2)) each.6
    (both_unstopped each.0 (each.1 ++ each.2) (claims_unstopped mode i each.0 each.3)
    (both_unstopped each.1 each.2 (fills_unstopped mode (fills c.p (step c s i).retired) each.1 each.4)
    (served_unstopped mode c (step c s i).after is each.2 each.5)))

pub turns_unstopped : (mode : Mode) (c : AcqConfig) (s : State) (made : List Turned) (es : List Event) → ServesTurns mode c s made es → Unstopped es
turns_unstopped mode c s [] es none = same_unstopped es [] none tt
turns_unstopped mode c s (t ∷ ts) es each =
    same_unstopped es (LookRun 1 ∷ (each.0 ++ each.1)) each.4 (
      refl,
      both_unstopped each.0 each.1 (served_unstopped mode c s (inputs_of t) each.0 each.2)
          (turns_unstopped mode c (after_from c s (inputs_of t)) ts each.1 each.3),
    )

pub last_unstopped : (end : AcqEnd) (es : List Event) → LastLook end es → Unstopped es
last_unstopped how.Stopped es look = same_unstopped es (LookRun look.0 ∷ []) look.2 (refl, tt)
last_unstopped how.Spent es none = same_unstopped es [] none tt
last_unstopped how.Fault es none = same_unstopped es [] none tt
last_unstopped (how.NoAnswer req) es none = same_unstopped es [] none tt
last_unstopped (how.Refused status) es none = same_unstopped es [] none tt

-- ---- the application

turn_unstopped : (event : Event) → is_turns event ≡ true → is_stop event ≡ false
turn_unstopped (Stop kill answer) is = absurd (cc)
turn_unstopped _ is = refl

pub looks_unstopped : (es : List Event) → AreEvents is_turns es → Unstopped es
looks_unstopped [] are = tt
looks_unstopped (e ∷ es) are = (turn_unstopped e are.0, looks_unstopped es are.1)
