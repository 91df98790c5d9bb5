-- Inputs that are served one after the other.
use Rattle.std.proofs.Common.{◌≡◌, Bool, true, false, List, [], ◌∷◌, ◌++◌, refl, ap, sym, ◌∙◌, subst, append_assoc}
use Rattle.std.proofs.lemmas.List.{append-nil}
use Rattle.board_machine.specs.declared.events.Event.{Event}
use Rattle.board_machine.specs.declared.events.Event.TheVariants.{Fill}
use Rattle.acquisition_machine.specs.declared.config.AcqConfig.{AcqConfig}
use Rattle.acquisition_machine.specs.declared.retired.Retired.{Retired}
use Rattle.acquisition_machine.specs.Blocks.{fills}
use Rattle.acquisition_machine.specs.Machine.{Input, State, step}
use Rattle.acquisition_machine.specs.Runs.{first_state, after_from, After, turn}
use Rattle.acquisition_machine.proofs.Joining.{after_from-append}
use Rattle.acq_core.specs.declared.window.Window.{Window}
use Rattle.acq_core.specs.Receiver.{config_of, Stands, Takes, KeepsBlocks}
use Rattle.acq_core.specs.Waiting.{waiting_fills}
use Rattle.buffer_words.specs.Passes.{Token}
use Rattle.buffer_words.specs.Several.{EntersOf}
use Rattle.buffer_words.proofs.Several.{each_none, each_then}
use Rattle.board_calls.specs.declared.mode.Mode.{Mode}
use Rattle.gev_acq.specs.Filling.{laid_unless, FillsRetiredFor}
use Rattle.gev_acq.specs.Serving.{ClaimsOf, Serves}
use Rattle.gev_acq.specs.Claims.{claims_in, ServesOn}
use Rattle.gev_acq.proofs.Owning.{ClaimNothing, claim_nothing-append, claims_none, claims_then}
use Rattle.gev_acq.proofs.Parts.{Holds, fills_hold}

pub serves-append : (mode : Mode) (c : AcqConfig) (s : State) (is js : List Input) (es fs : List Event) → Serves mode c s is es → Serves mode c (after_from c s is) js fs → Serves mode c s (is ++ js) (es ++ fs)
serves-append mode c s [] js es fs first second = subst (λ l. Serves mode c s js (l ++ fs)) (sym first) second
serves-append mode c s (i ∷ is) js es fs first second = (
  first.0,
  first.1,
  first.2 ++ fs,
  first.3,
  first.4,
  serves-append mode c (step c s i).after is js first.2 fs first.5 second,
  ap (λ l. l ++ fs) first.6
      ∙ (append_assoc first.0 (first.1 ++ first.2) fs
      ∙ ap (λ l. first.0 ++ l) (append_assoc first.1 first.2 fs)),
)

-- two lists of inputs, one after the other
pub serves_then : (mode : Mode) (c : AcqConfig) (Old Mid New : List Input → Type 0) (is js : List Input) (s t u : Token)
    → ServesOn mode c Old Mid is s t → ServesOn mode c Mid New js t u → ServesOn mode c Old New (is ++ js) s u
serves_then mode c Old Mid New is js s t u first second = record {
  events = first.events ++ second.events;
  enters = each_then s t u first.events second.events first.enters second.enters;
  serves = λ q old.
      serves-append mode c (After c q) is js first.events second.events (first.serves q old)
      (subst (λ x. Serves mode c x js second.events) (after_from-append c first_state q is) (second.serves (q ++ is) (first.stands q old)));
  stands = λ q old. subst New (append_assoc q is js) (second.stands (q ++ is) (first.stands q old));
  claims = claims_then mode is js s t u first.enters.number first.claims second.claims;
}

-- no inputs
pub serves_none : (mode : Mode) (c : AcqConfig) (Old : List Input → Type 0) (s : Token) → ServesOn mode c Old Old [] s s
serves_none mode c Old s = record {
  events = [];
  enters = each_none s;
  serves = λ q old. refl;
  stands = λ q old. subst Old (sym (append-nil q)) old;
  claims = claims_none mode [] s s [] refl tt (each_none s);
}

quiet_holds : (mode : Mode) → Holds mode ClaimNothing
quiet_holds mode = record {
  none = tt;
  both = claim_nothing-append;
  take = λ may end. (λ m b ms. refl, tt);
  pool = λ may i. (λ m b ms. refl, tt);
}

fill_claims_nothing : (r : Retired) (filled : Bool) → ClaimNothing (Fill r.place r.buf filled ∷ laid_unless filled r.place)
fill_claims_nothing r true = (λ m b ms. refl, tt)
fill_claims_nothing r false = (λ m b ms. refl, (λ m b ms. refl, tt))

fills_claim_nothing : (mode : Mode) (rs : List Retired) (es : List Event) → FillsRetiredFor mode rs es → ClaimNothing es
fills_claim_nothing mode rs es fills = fills_hold mode ClaimNothing rs es (quiet_holds mode) fill_claims_nothing fills

-- One input that is no claim: what retires is filled.
pub serves_filled : (mode : Mode) (m mid new : Window) (i : Input) (s t : Token) → ClaimsOf mode i [] → claims_in (i ∷ []) ≡ []
    → waiting_fills m ≡ [] → Takes m mid i → KeepsBlocks mid new → EntersOf s (FillsRetiredFor mode (waiting_fills mid)) t
    → ServesOn mode (config_of m) (Stands m) (Stands new) (i ∷ []) s t
serves_filled mode m mid new i s t quiet none empty takes keeps filled = record {
  events = filled.events;
  enters = filled.enters;
  serves = λ q old.
      let waits : waiting_fills mid ≡ fills (config_of m).p (turn (config_of m) q i).retired =
      takes.fills q old ∙ ap (λ l. l ++ fills (config_of m).p (turn (config_of m) q i).retired) empty in (
        [],
        filled.events,
        [],
        quiet,
        subst (λ rs. FillsRetiredFor mode rs filled.events) waits filled.kind,
        refl,
        sym (append-nil filled.events),
      );
  stands = λ q old. keeps.stands (q ++ i ∷ []) (takes.stands q old);
  claims = claims_none mode (i ∷ []) s t filled.events none (fills_claim_nothing mode (waiting_fills mid) filled.events filled.kind) filled.enters;
}
