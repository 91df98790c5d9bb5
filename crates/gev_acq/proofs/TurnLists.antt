-- The lists of turns, with one more turn.
use Rattle.std.proofs.Common.{◌≡◌, List, [], ◌∷◌, ◌++◌, refl, ap, sym, ◌∙◌, subst, append_assoc}
use Rattle.std.proofs.lemmas.List.{append-nil}
use Rattle.board_machine.specs.declared.events.Event.{Event}
use Rattle.board_machine.specs.declared.events.Event.TheVariants.{LookRun}
use Rattle.client_machine.specs.Machine.{Client}
use Rattle.acquisition_machine.specs.declared.config.AcqConfig.{AcqConfig}
use Rattle.acquisition_machine.specs.Machine.{Input, State}
use Rattle.acquisition_machine.specs.Runs.{after_from}
use Rattle.acquisition_machine.proofs.Joining.{after_from-append}
use Rattle.board_calls.specs.declared.mode.Mode.{Mode}
use Rattle.gev_acq.specs.declared.turn.Turn.{Turn}
use Rattle.gev_control.specs.declared.turn_end.TurnEnd.TheVariants as ends
use Rattle.gev_acq.specs.Serving.{Serves}
use Rattle.gev_control.specs.Controlled.{listed, control_of}
use Rattle.gev_acq.specs.Turns.{Turned, inputs_of, Notes, IsControlled}
use Rattle.gev_acq.specs.Acquired.{inputs_in, answers_in, moments_in, heards_in, sends_in, ServesTurns, NoteEach, ControlEach, TellsOwn, AllGoOn}

pub inputs-push : (ts : List Turned) (t : Turned) → inputs_in (ts ++ t ∷ []) ≡ inputs_in ts ++ inputs_of t
inputs-push [] t = append-nil (inputs_of t)
inputs-push (x ∷ ts) t = ap (λ l. inputs_of x ++ l) (inputs-push ts t) ∙ sym (append_assoc (inputs_of x) (inputs_in ts) (inputs_of t))

pub answers-push : (ts : List Turned) (t : Turned) → answers_in (ts ++ t ∷ []) ≡ answers_in ts ++ t.answer ∷ []
answers-push [] t = refl
answers-push (x ∷ ts) t = ap (λ l. x.answer ∷ l) (answers-push ts t)

pub moments-push : (ts : List Turned) (t : Turned) → moments_in (ts ++ t ∷ []) ≡ moments_in ts ++ t.moment ∷ []
moments-push [] t = refl
moments-push (x ∷ ts) t = ap (λ l. x.moment ∷ l) (moments-push ts t)

pub heards-push : (ts : List Turned) (t : Turned) → heards_in (ts ++ t ∷ []) ≡ heards_in ts ++ listed t.heard
heards-push [] t = append-nil (listed t.heard)
heards-push (x ∷ ts) t = ap (λ l. listed x.heard ++ l) (heards-push ts t) ∙ sym (append_assoc (listed x.heard) (heards_in ts) (listed t.heard))

pub sends-push : (ts : List Turned) (t : Turned) → sends_in (ts ++ t ∷ []) ≡ sends_in ts ++ t.sent
sends-push [] t = append-nil t.sent
sends-push (x ∷ ts) t = ap (λ l. x.sent ++ l) (sends-push ts t) ∙ sym (append_assoc x.sent (sends_in ts) t.sent)

pub own-push : (ts : List Turned) (t : Turned) → TellsOwn ts → t.told ≡ t.moment → TellsOwn (ts ++ t ∷ [])
own-push [] t own more = (more, tt)
own-push (x ∷ ts) t own more = (own.0, own-push ts t own.1 more)

pub go_on-push : (ts : List Turned) (t : Turned) → AllGoOn ts → t.end ≡ ends.GoesOn → AllGoOn (ts ++ t ∷ [])
go_on-push [] t on more = (more, tt)
go_on-push (x ∷ ts) t on more = (on.0, go_on-push ts t on.1 more)

-- the inputs of one more turn, after those of the turns before it
inputs_before : (q : List Input) (x : Turned) (ts : List Turned) → q ++ inputs_in (x ∷ ts) ≡ (q ++ inputs_of x) ++ inputs_in ts
inputs_before q x ts = sym (append_assoc q (inputs_of x) (inputs_in ts))

pub turns-push : (mode : Mode) (c : AcqConfig) (s : State) (ts : List Turned) (t : Turned) (es front : List Event) → ServesTurns mode c s ts es → Serves mode c (after_from c s (inputs_in ts)) (inputs_of t) front
    → ServesTurns mode c s (ts ++ t ∷ []) (es ++ LookRun 1 ∷ front)
turns-push mode c s [] t es front none one = (front, [], one, refl, ap (λ l. l ++ LookRun 1 ∷ front) none ∙ sym (ap (λ l. LookRun 1 ∷ l) (append-nil front)))
turns-push mode c s (x ∷ ts) t es front each one = (
  each.0,
  each.1 ++ LookRun 1 ∷ front,
  each.2,
  turns-push mode c (after_from c s (inputs_of x)) ts t each.1 front each.3
      (subst (λ v. Serves mode c v (inputs_of t) front) (after_from-append c s (inputs_of x) (inputs_in ts)) one),
  ap (λ l. l ++ LookRun 1 ∷ front) each.4 ∙ ap (λ l. LookRun 1 ∷ l) (append_assoc each.0 each.1 (LookRun 1 ∷ front)),
)

pub notes-push : (c : AcqConfig) (q : List Input) (ts : List Turned) (t : Turned) (es : List Turn) (e : Turn) → NoteEach c q ts es → Notes c (q ++ inputs_in ts) t e
    → NoteEach c q (ts ++ t ∷ []) (es ++ e ∷ [])
notes-push c q [] t [] e none one = (subst (λ l. Notes c l t e) (append-nil q) one, tt)
notes-push c q [] t (x ∷ es) e none one = absurd none
notes-push c q (x ∷ ts) t [] e each one = absurd each
notes-push c q (x ∷ ts) t (y ∷ es) e each one =
    (each.0, notes-push c (q ++ inputs_of x) ts t es e each.1 (subst (λ l. Notes c l t e) (inputs_before q x ts) one))

pub controls-push : (c : AcqConfig) (q : List Input) (s u v : Client) (ts : List Turned) (t : Turned) → ControlEach c q s ts u → IsControlled c (q ++ inputs_in ts) u t
    → v ≡ (control_of u t.heard t.moment).state → ControlEach c q s (ts ++ t ∷ []) v
controls-push c q s u v [] t none one is =
    let here : IsControlled c q u t = subst (λ l. IsControlled c l u t) (append-nil q) one in
    (subst (λ (x : Client). IsControlled c q x t) none here, is ∙ ap (λ (x : Client). (control_of x t.heard t.moment).state) none)
controls-push c q s u v (x ∷ ts) t each one is =
    (each.0, controls-push c (q ++ inputs_of x) (control_of s x.heard x.moment).state u v ts t each.1 (subst (λ l. IsControlled c l u t) (inputs_before q x ts) one) is)
