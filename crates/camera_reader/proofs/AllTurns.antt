-- Turns of the reader, one after the other, with the requests in the form of the stream's identifiers.
use Rattle.std.proofs.Common.{◌≡◌, ℕ, List, [], ◌∷◌, ◌++◌, refl, ap, sym, ◌∙◌, subst, append_assoc}
use Rattle.std.proofs.lemmas.List.{append-nil}
use Rattle.board_machine.specs.declared.events.Event.TheVariants.{LookRun}
use Rattle.client_machine.specs.Machine.{Client}
use Rattle.acquisition_machine.specs.declared.config.AcqConfig.{AcqConfig}
use Rattle.acquisition_machine.specs.Machine.{Input}
use Rattle.acquisition_machine.specs.Runs.{first_state, After}
use Rattle.acquisition_machine.proofs.Joining.{after_from-append}
use Rattle.gev_links.specs.Links.{Address, Adds}
use Rattle.gev_links.specs.Moments.{TellsEach}
use Rattle.gev_links.proofs.Growing.{tells_none, tells_more, tells_then, adds_none}
use Rattle.buffer_words.specs.Passes.{Token, Enters}
use Rattle.buffer_words.proofs.Several.{each_none, each_one, each_first, each_then}
use Rattle.board_calls.specs.declared.mode.Mode.{Mode}
use Rattle.gev_control.specs.Sends.{addressed}
use Rattle.gev_control.specs.Controlled.{listed, control_of}
use Rattle.gev_control.proofs.Fronts.{added_then}
use Rattle.gev_acq.specs.Serving.{Serves}
use Rattle.gev_acq.specs.Claims.{Claims}
use Rattle.gev_acq.specs.Turns.{Turned, Outside, inputs_of}
use Rattle.gev_acq.specs.Acquired.{inputs_in, moments_in, heards_in, sends_in}
use Rattle.gev_acq.proofs.Owning.{claims_none, claims_then}
use Rattle.gev_acq.proofs.TurnLists.{inputs-push, moments-push, heards-push, sends-push, turns-push, notes-push}
use Rattle.packet_requests.specs.declared.id_mode.IdMode.{IdMode}
use Rattle.camera_reader.specs.Hearing.{Arrival, answers_of}
use Rattle.camera_reader.specs.Asking.{IsControlled, ControlEach}
use Rattle.camera_reader.specs.Turns.{TakesTurn, TurnsOn}
use Rattle.camera_reader.proofs.Arriving.{arrived-push}

-- the inputs of one more turn, after those of the turns before it
inputs_before : (q : List Input) (x : Turned) (ts : List Turned) → q ++ inputs_in (x ∷ ts) ≡ (q ++ inputs_of x) ++ inputs_in ts
inputs_before q x ts = sym (append_assoc q (inputs_of x) (inputs_in ts))

controls-push : (ids : IdMode) (c : AcqConfig) (q : List Input) (s u v : Client) (ts : List Turned) (t : Turned) → ControlEach ids c q s ts u
    → IsControlled ids c (q ++ inputs_in ts) u t → v ≡ (control_of u t.heard t.moment).state → ControlEach ids c q s (ts ++ t ∷ []) v
controls-push ids c q s u v [] t none one is =
    let here : IsControlled ids c q u t = subst (λ l. IsControlled ids c l u t) (append-nil q) one in
    (subst (λ (x : Client). IsControlled ids c q x t) none here, is ∙ ap (λ (x : Client). (control_of x t.heard t.moment).state) none)
controls-push ids c q s u v (x ∷ ts) t each one is = (
  each.0,
  controls-push ids c (q ++ inputs_of x) (control_of s x.heard x.moment).state u v ts t each.1
      (subst (λ l. IsControlled ids c l u t) (inputs_before q x ts) one) is,
)

pub turns_none : (mode : Mode) (c : AcqConfig) (ids : IdMode) (camera : Address) (Old : List Input → Type 0) (o : Outside) (s : Token)
    → TurnsOn mode c ids camera Old Old o o [] [] s s
turns_none mode c ids camera Old o s = record {
  events = [];
  enters = each_none s;
  serves = λ q old. refl;
  stands = λ q old. subst Old (sym (append-nil q)) old;
  claims = claims_none mode [] s s [] refl tt (each_none s);
  entries = [];
  notes = λ q old. tt;
  controlled = λ q old. refl;
  received = tells_none o.received;
  heard = tells_none o.heard;
  sent = adds_none o.sent;
  told = tells_none o.told;
}

-- a look before the turn
looked_claims : (mode : Mode) (is : List Input) (s t u : Token) (run : ℕ) → Enters s (LookRun run) t → Claims mode is t u → Claims mode is s u
looked_claims mode is s t u run look claims =
    claims_then mode [] is s t u look.number (claims_none mode [] s t (LookRun run ∷ []) refl (λ m b ms. refl, tt) (each_one s t (LookRun run) look refl)) claims

-- a look that found the run word 1, and one more turn
pub turns_more : (mode : Mode) (c : AcqConfig) (ids : IdMode) (camera : Address) (Old Mid New : List Input → Type 0) (o m n : Outside) (made : List Turned)
    (arrivals : List Arrival) (turned : Turned) (a : Arrival) (s t u v : Token)
    → TurnsOn mode c ids camera Old Mid o m made arrivals s t → Enters t (LookRun 1) u → TakesTurn mode c ids camera Mid New m n turned a u v
    → TurnsOn mode c ids camera Old New o n (made ++ turned ∷ []) (arrivals ++ a ∷ []) s v
turns_more mode c ids camera Old Mid New o m n made arrivals turned a s t u v on look one = record {
  events = on.events ++ LookRun 1 ∷ one.serves.events;
  enters = each_then s t v on.events (LookRun 1 ∷ one.serves.events) on.enters (each_first t u v (LookRun 1) one.serves.events look refl one.serves.enters);
  serves = λ q old.
      turns-push mode c (After c q) made turned on.events one.serves.events (on.serves q old)
      (subst (λ x. Serves mode c x (inputs_of turned) one.serves.events) (after_from-append c first_state q (inputs_in made))
      (one.serves.serves (q ++ inputs_in made) (on.stands q old)));
  stands = λ q old. subst New (ends_at q) (one.serves.stands (q ++ inputs_in made) (on.stands q old));
  claims = subst (λ l. Claims mode l s v) (sym (inputs-push made turned))
      (claims_then mode (inputs_in made) (inputs_of turned) s t v on.enters.number on.claims (looked_claims mode (inputs_of turned) t u v 1 look one.serves.claims));
  entries = on.entries ++ one.entry ∷ [];
  notes = λ q old. notes-push c q made turned on.entries one.entry (on.notes q old) (one.notes (q ++ inputs_in made) (on.stands q old));
  controlled = λ q old.
      controls-push ids c q o.client m.client n.client made turned (on.controlled q old) (one.controlled (q ++ inputs_in made) (on.stands q old)) one.client;
  received = subst (λ l. TellsEach o.received n.received l) (sym (arrived-push arrivals a))
      (tells_more o.received m.received n.received (answers_of arrivals) a.answer on.received one.received);
  heard = subst (λ l. TellsEach o.heard n.heard l) (sym (heards-push made turned))
      (tells_then o.heard m.heard n.heard (heards_in made) (listed turned.heard) on.heard one.heard);
  sent = subst (λ l. Adds o.sent n.sent (addressed camera l)) (sym (sends-push made turned))
      (added_then camera o.sent m.sent n.sent (sends_in made) turned.sent on.sent one.sent);
  told = subst (λ l. TellsEach o.told n.told l) (sym (moments-push made turned))
      (tells_more o.told m.told n.told (moments_in made) turned.moment on.told one.told);
}
  where
    ends_at : (q : List Input) → (q ++ inputs_in made) ++ inputs_of turned ≡ q ++ inputs_in (made ++ turned ∷ [])
    ends_at q = append_assoc q (inputs_in made) (inputs_of turned) ∙ ap (λ l. q ++ l) (sym (inputs-push made turned))
