-- Steps that were made, one after the other, as acts of the client, and the acknowledges that ended their commands.
use Rattle.std.proofs.Common.{◌≡◌, ◌≢◌, inl, inr, ℕ, suc, Bool, true, false, List, [], ◌∷◌, ◌++◌, length, Option, Some, None, refl, ap, sym, subst, ◌∙◌, append_assoc, arith}
use Rattle.std.proofs.lemmas.List.{append-nil}
use Rattle.std.specs.Prelude.{⊤, ◌==◌, if◌then◌else◌}
use Rattle.bootstrap_regs.specs.Addresses.{CCP}
use Rattle.gvcp_wire.specs.Messages.{PlainCommand}
use Rattle.client_machine.specs.Commands.{heartbeat}
use Rattle.client_machine.specs.Machine.{Client}
use Rattle.client_machine.specs.Events.{Request, request_of, new_request}
use Rattle.client_machine.specs.Setup.{write_of}
use Rattle.control_client.specs.Values.{value_of}
use Rattle.gev_links.specs.Links.{Address}
use Rattle.gev_control.specs.declared.acq_end.AcqEnd.{AcqEnd}
use Rattle.gev_control.specs.declared.acq_end.AcqEnd.TheVariants as how
use Rattle.gev_control.specs.CarriesOut.{ControlSide}
use Rattle.camera_control.specs.declared.step.Step.{Step}
use Rattle.camera_control.specs.declared.step.Step.TheVariants as step
use Rattle.camera_control.specs.declared.control_end.ControlEnd.{ControlEnd}
use Rattle.camera_control.specs.declared.control_end.ControlEnd.TheVariants as causes
use Rattle.camera_control.specs.Steps.{ACCESS_DENIED, commands_in, read_of, is_held, cause_of, refusal_in}
use Rattle.camera_control.specs.Taking.{Made, made_so, Passes, begins, goes_on, steps_in, earlier, refusal_among}
use Rattle.camera_control.specs.Laws.{commands_of}
use Rattle.camera_control.proofs.Joining.{steps-append}
use Rattle.live_promises.specs.Acts.{Act, behind_all, HasActed, NoneLost, Ended, ended_in, submitted_in, asked_in}
use Rattle.live_promises.specs.ReceiveCauses.{Answers, Accesses, IsRefused, value_in, HasLost}
use Rattle.live_promises.specs.Commands.{CarriesEach, none, more, meanwhile}
use Rattle.live_promises.proofs.Acting.{ended-append, asked-append, whole_both, acted_none, acted_then}
use Rattle.live_promises.proofs.Outstanding.{Came, HasEnded}
use Rattle.live_promises.proofs.Stepping.{GaveUp, ForStep, Outs, StepCame, step_came, AnswersStep, answers_step}

-- ---- steps and acknowledges, one by one

abbrev pub EndsBy : AcqEnd → Option ℕ → Ended → Type 0
EndsBy how.Stopped told e = (e.ack.status ≡ 0) × (told ≡ value_of e.ack.body)
EndsBy how.Spent told e = ⊥
EndsBy how.Fault told e = ⊥
EndsBy (how.NoAnswer req) told e = ⊥
EndsBy (how.Refused status) told e = (e.ack.status ≡ status) × (status ≢ 0)

pub record Fits (P : Request → Type 0) (m : Made) (e : Ended) : Type 0 where
  pub answers : AnswersStep P m.step e
  pub ends : EndsBy m.end m.told e
  pub on : cause_of m.step m.end m.told ≡ None

abbrev pub FitsEach : (Request → Type 0) → List Made → List Ended → Type 0
FitsEach P [] [] = ⊤
FitsEach P [] (e ∷ es) = ⊥
FitsEach P (m ∷ ms) [] = ⊥
FitsEach P (m ∷ ms) (e ∷ es) = Fits P m e × FitsEach P ms es

fits_more : (P : Request → Type 0) (ms : List Made) (es : List Ended) (m : Made) (e : Ended) → FitsEach P ms es → Fits P m e → FitsEach P (ms ++ m ∷ []) (es ++ e ∷ [])
fits_more P [] [] m e fits one = (one, tt)
fits_more P [] (x ∷ es) m e fits one = absurd fits
fits_more P (x ∷ ms) [] m e fits one = absurd fits
fits_more P (x ∷ ms) (y ∷ es) m e fits one = (fits.0, fits_more P ms es m e fits.1 one)

pub fits_length : (P : Request → Type 0) (ms : List Made) (es : List Ended) → FitsEach P ms es → length es ≡ length ms
fits_length P [] [] fits = refl
fits_length P [] (e ∷ es) fits = absurd fits
fits_length P (m ∷ ms) [] fits = absurd fits
fits_length P (m ∷ ms) (e ∷ es) fits = ap suc (fits_length P ms es fits.1)

-- ---- a step behind which the next came

record PassedBy (r : Request) (all : List Ended) (whole : Type 0) (u : Client) (end : AcqEnd) : Type 0 where
  ended : Ended
  is : all ≡ ended ∷ []
  of_request : request_of ended.asked ≡ r
  ends : EndsBy end (value_of u.body) ended
  idle : u.asked ≡ None
  whole_is : whole

passed : (s : Step) (r : Request) (all : List Ended) (whole : Type 0) (up : ℕ → Type 0) (u : Client) (end : AcqEnd) → Came r all whole up u (Some end)
    → cause_of s end (value_of u.body) ≡ None → PassedBy r all whole u end
passed s r all whole up u how.Stopped so on = record {
  ended = so.0.ended;
  is = so.0.is;
  of_request = so.0.of_request;
  ends = (so.0.status_is, ap value_of so.0.body);
  idle = so.0.idle;
  whole_is = so.1;
}
passed s r all whole up u how.Spent so on = absurd so
passed s r all whole up u how.Fault so on = let bad : ⊥ = cc in absurd bad
passed s r all whole up u (how.NoAnswer req) so on = let bad : ⊥ = cc in absurd bad
passed s r all whole up u (how.Refused status) so on = record {
  ended = so.0.ended;
  is = so.0.is;
  of_request = so.0.of_request;
  ends = (so.0.status_is, so.2);
  idle = so.0.idle;
  whole_is = so.1;
}

-- ---- steps that were made

pub record LogCame (P : Request → Type 0) (camera : Address) (o n : ControlSide) (log : List Made) : Type 0 where
  pub acts : List Act
  pub acted : HasActed camera o n acts
  pub each : CarriesEach o.client (commands_of (steps_in log)) acts
  pub fits : FitsEach P log (ended_in o.client acts)
  pub unasked : asked_in acts ≡ []
  pub whole : NoneLost acts
  pub outs : Outs P n.client

idle_outs : (P : Request → Type 0) (s : Client) → s.asked ≡ None → Outs P s
idle_outs P s idle asked is = let bad : None ≡ Some asked = sym idle ∙ is in absurd (cc)

pub commands-append : (xs ys : List Step) → commands_of (xs ++ ys) ≡ commands_of xs ++ commands_of ys
commands-append [] ys = refl
commands-append (s ∷ xs) ys = ap (λ (l : List PlainCommand). commands_in s ++ l) (commands-append xs ys) ∙ sym (append_assoc (commands_in s) (commands_of xs) (commands_of ys))

pub commands_more : (log : List Made) (m : Made) → commands_of (steps_in (log ++ m ∷ [])) ≡ commands_of (steps_in log) ++ commands_in m.step
commands_more log m =
    ap commands_of (steps-append log (m ∷ []))
    ∙ (commands-append (steps_in log) (m.step ∷ []) ∙ ap (λ (l : List PlainCommand). commands_of (steps_in log) ++ l) (append-nil (commands_in m.step)))

-- one command more was carried out, or none was waited for
one_more : (s : Client) (cs : List PlainCommand) (front acts : List Act) (c : PlainCommand) (e : Ended) → CarriesEach s cs front
    → submitted_in (behind_all s front) acts ≡ c ∷ [] → asked_in acts ≡ [] → ended_in (behind_all s front) acts ≡ e ∷ [] → Answers c e
    → CarriesEach s (cs ++ c ∷ []) (front ++ acts)
one_more s cs front acts c e each submitted unasked ends answers =
    more cs front c acts each (record { submitted = submitted; unasked = unasked; ended = e; ends = ends; answers = answers })

each_more : (P : Request → Type 0) (x : Step) (s : Client) (cs : List PlainCommand) (front acts : List Act) (e : Ended) → CarriesEach s cs front
    → submitted_in (behind_all s front) acts ≡ commands_in x → asked_in acts ≡ [] → ended_in (behind_all s front) acts ≡ e ∷ [] → AnswersStep P x e
    → CarriesEach s (cs ++ commands_in x) (front ++ acts)
each_more P step.Ask s cs front acts e each submitted unasked ends answers = one_more s cs front acts (read_of CCP) e each submitted unasked ends answers
each_more P (step.Read register) s cs front acts e each submitted unasked ends answers = one_more s cs front acts (read_of register) e each submitted unasked ends answers
each_more P (step.Write register value) s cs front acts e each submitted unasked ends answers =
    one_more s cs front acts (write_of register value) e each submitted unasked ends answers
each_more P (step.Stop register value) s cs front acts e each submitted unasked ends answers =
    one_more s cs front acts (write_of register value) e each submitted unasked ends answers
each_more P (step.Await beats) s cs front acts e each submitted unasked ends answers =
    subst (λ (l : List PlainCommand). CarriesEach s l (front ++ acts)) (sym (append-nil cs)) (meanwhile cs front acts each submitted unasked)

module _ (P : Request → Type 0) (camera : Address) (o : ControlSide) (log : List Made) (m n : ControlSide) (s : Step) (end : AcqEnd) (first : LogCame P camera o m log)
    (one : StepCame P camera s m n end) (on : cause_of s end (value_of n.client.body) ≡ None) where
  by : PassedBy one.request (ended_in m.client one.acts) (NoneLost one.acts) n.client end
  by = passed s one.request (ended_in m.client one.acts) (NoneLost one.acts) (λ (req : ℕ). GaveUp req m.client one.acts) n.client end one.came on

  answers : AnswersStep P s by.ended
  answers = answers_step P s one.request by.ended by.of_request one.for_step

  all_ended : ended_in o.client (first.acts ++ one.acts) ≡ ended_in o.client first.acts ++ by.ended ∷ []
  all_ended =
      ended-append o.client first.acts one.acts
      ∙ ap (λ (l : List Ended). ended_in o.client first.acts ++ l) (ap (λ (x : Client). ended_in x one.acts) (sym first.acted.client) ∙ by.is)

  log_more : LogCame P camera o n (log ++ made_so s end n ∷ [])
  log_more = record {
    acts = first.acts ++ one.acts;
    acted = acted_then camera o m n first.acts one.acts first.acted one.acted;
    each =
        subst (λ (l : List PlainCommand). CarriesEach o.client l (first.acts ++ one.acts)) (sym (commands_more log (made_so s end n)))
        (each_more P s o.client (commands_of (steps_in log)) first.acts one.acts by.ended first.each
        (ap (λ (x : Client). submitted_in x one.acts) (sym first.acted.client) ∙ one.submitted) one.unasked
        (ap (λ (x : Client). ended_in x one.acts) (sym first.acted.client) ∙ by.is) answers);
    fits =
        subst (λ (l : List Ended). FitsEach P (log ++ made_so s end n ∷ []) l) (sym all_ended)
        (fits_more P log (ended_in o.client first.acts) (made_so s end n) by.ended first.fits (record { answers = answers; ends = by.ends; on = on }));
    unasked = asked-append first.acts one.acts ∙ (ap (λ (l : List (List ℕ)). l ++ asked_in one.acts) first.unasked ∙ one.unasked);
    whole = whole_both first.acts one.acts first.whole by.whole_is;
    outs = idle_outs P n.client by.idle;
  }

pub log_came : (P : Request → Type 0) (camera : Address) (o : ControlSide) (log : List Made) (n : ControlSide) → Outs P o.client → Passes camera o log n → LogCame P camera o n log
log_came P camera o _ _ outs begins = record {
  acts = [];
  acted = acted_none camera o o refl;
  each = none;
  fits = tt;
  unasked = refl;
  whole = tt;
  outs = outs;
}
log_came P camera o _ _ outs (goes_on log m n s end passes makes on) =
    let first : LogCame P camera o m log = log_came P camera o log m outs passes in
    log_more P camera o log m n s end first (step_came P camera s m n end makes first.outs) on

-- ---- refusals behind which the next step came

-- what is known of a command that was waited for: it's a heartbeat, or nothing
abbrev pub Awaited : Bool → Request → Type 0
Awaited false r = ⊤
Awaited true r = r ≡ new_request r.req heartbeat

abbrev pub OkStep : Bool → Step → Type 0
OkStep beats step.Ask = ⊤
OkStep beats (step.Read register) = ⊤
OkStep beats (step.Write register value) = ⊤
OkStep beats (step.Stop register value) = ⊤
OkStep beats (step.Await own) = own ≡ beats

abbrev pub AreOk : Bool → List Step → Type 0
AreOk beats [] = ⊤
AreOk beats (s ∷ rest) = OkStep beats s × AreOk beats rest

-- this refusal was read
abbrev pub RefusesBy : Option ControlEnd → List Ended → Type 0
RefusesBy None all = ⊤
RefusesBy (Some causes.LinkFault) all = ⊥
RefusesBy (Some (causes.NoAnswer req)) all = ⊥
RefusesBy (Some (causes.RefusedAt register status)) all = IsRefused register status all
RefusesBy (Some causes.Controlled) all = ⊥
RefusesBy (Some causes.ControlLost) all = ⊥

refused_here : (register status : ℕ) (e : Ended) (rest : List Ended) (c : PlainCommand) → Accesses register c → Answers c e → e.ack.status ≡ status → status ≢ 0
    → IsRefused register status (e ∷ rest)
refused_here register status e rest c of_register answers status_is ne = record {
  before = [];
  ended = e;
  later = rest;
  are = refl;
  command = c;
  of_register = of_register;
  answers = answers;
  status_is = status_is;
  refused = ne;
}

pub refused_later : (register status : ℕ) (front all : List Ended) → IsRefused register status all → IsRefused register status (front ++ all)
refused_later register status front all is = record {
  before = front ++ is.before;
  ended = is.ended;
  later = is.later;
  are = ap (λ (l : List Ended). front ++ l) is.are ∙ sym (append_assoc front is.before (is.ended ∷ is.later));
  command = is.command;
  of_register = is.of_register;
  answers = is.answers;
  status_is = is.status_is;
  refused = is.refused;
}

pub refused_sooner : (register status : ℕ) (all rest : List Ended) → IsRefused register status all → IsRefused register status (all ++ rest)
refused_sooner register status all rest is = record {
  before = is.before;
  ended = is.ended;
  later = is.later ++ rest;
  are = ap (λ (l : List Ended). l ++ rest) is.are ∙ append_assoc is.before (is.ended ∷ is.later) rest;
  command = is.command;
  of_register = is.of_register;
  answers = is.answers;
  status_is = is.status_is;
  refused = is.refused;
}

by_later : (refusal : Option ControlEnd) (e : Ended) (all : List Ended) → RefusesBy refusal all → RefusesBy refusal (e ∷ all)
by_later None e all is = tt
by_later (Some causes.LinkFault) e all is = is
by_later (Some (causes.NoAnswer req)) e all is = is
by_later (Some (causes.RefusedAt register status)) e all is = refused_later register status (e ∷ []) all is
by_later (Some causes.Controlled) e all is = is
by_later (Some causes.ControlLost) e all is = is

one_refusal : (beats : Bool) (m : Made) (e : Ended) (rest : List Ended) (s : Step) (end : AcqEnd) → OkStep beats s → AnswersStep (Awaited beats) s e → EndsBy end m.told e
    → RefusesBy (refusal_in s end) (e ∷ rest)
one_refusal beats m e rest s how.Stopped ok so ends = tt
one_refusal beats m e rest s how.Spent ok so ends = absurd ends
one_refusal beats m e rest s how.Fault ok so ends = absurd ends
one_refusal beats m e rest s (how.NoAnswer req) ok so ends = absurd ends
one_refusal beats m e rest step.Ask (how.Refused status) ok so ends = tt
one_refusal beats m e rest (step.Read register) (how.Refused status) ok so ends = tt
one_refusal beats m e rest (step.Write register value) (how.Refused status) ok so ends = tt
one_refusal beats m e rest (step.Stop register value) (how.Refused status) ok so ends =
    refused_here register status e rest (write_of register value) (inr (value, refl)) so ends.0 ends.1
one_refusal beats m e rest (step.Await false) (how.Refused status) ok so ends = tt
one_refusal beats m e rest (step.Await true) (how.Refused status) ok so ends =
    refused_here CCP status e rest heartbeat (inl refl) (subst (λ (b : Bool). Awaited b (request_of e.asked)) (sym ok) so) ends.0 ends.1

either_refusal : (p q : Option ControlEnd) (e : Ended) (all : List Ended) → RefusesBy p (e ∷ all) → RefusesBy q all → RefusesBy (earlier p q) (e ∷ all)
either_refusal None q e all first later = by_later q e all later
either_refusal (Some x) q e all first later = first

pub log_refuses : (beats : Bool) (ms : List Made) (es : List Ended) → AreOk beats (steps_in ms) → FitsEach (Awaited beats) ms es → RefusesBy (refusal_among ms) es
log_refuses beats [] [] ok fits = tt
log_refuses beats [] (e ∷ es) ok fits = absurd fits
log_refuses beats (m ∷ ms) [] ok fits = absurd fits
log_refuses beats (m ∷ ms) (e ∷ es) ok fits =
    either_refusal (refusal_in m.step m.end) (refusal_among ms) e es (one_refusal beats m e es m.step m.end ok.0 fits.0.answers fits.0.ends)
    (log_refuses beats ms es ok.1 fits.1)

-- ---- a step that ended all

abbrev pub CauseFrom : List Ended → Type 0 → (ℕ → Type 0) → ControlEnd → Type 0
CauseFrom all whole up causes.LinkFault = ⊤
CauseFrom all whole up (causes.NoAnswer req) = up req
CauseFrom all whole up (causes.RefusedAt register status) = IsRefused register status all × whole
CauseFrom all whole up causes.Controlled = whole
CauseFrom all whole up causes.ControlLost = HasLost 0 all × whole

cause_if : (b : Bool) (x y : ControlEnd) (all : List Ended) (whole : Type 0) (up : ℕ → Type 0) (cause : ControlEnd) → (if b then Some x else Some y) ≡ Some cause
    → CauseFrom all whole up x → CauseFrom all whole up y → CauseFrom all whole up cause
cause_if true x y all whole up cause is first second = let same : x ≡ cause = cc in subst (CauseFrom all whole up) same first
cause_if false x y all whole up cause is first second = let same : y ≡ cause = cc in subst (CauseFrom all whole up) same second

none_cause : (cause : ControlEnd) (A : Type 0) → None ≡ Some cause → A
none_cause cause A is = let bad : ⊥ = cc in absurd bad

some_cause : (x cause : ControlEnd) (all : List Ended) (whole : Type 0) (up : ℕ → Type 0) → Some x ≡ Some cause → CauseFrom all whole up x → CauseFrom all whole up cause
some_cause x cause all whole up is so = let same : x ≡ cause = cc in subst (CauseFrom all whole up) same so

held_cause_so : (b : Bool) (cause : ControlEnd) (all : List Ended) (whole : Type 0) (up : ℕ → Type 0) → (if b then Some causes.Controlled else None) ≡ Some cause → whole
    → CauseFrom all whole up cause
held_cause_so true cause all whole up is w = some_cause causes.Controlled cause all whole up is w
held_cause_so false cause all whole up is w = none_cause cause (CauseFrom all whole up cause) is

-- a value behind which control is lost
value_is : (e : Ended) (told : Option ℕ) → e.ack.status ≡ 0 → told ≡ value_of e.ack.body → value_in e.ack ≡ told
value_is e told zero is = ap (λ (n : ℕ). if n == 0 then value_of e.ack.body else None) zero ∙ sym is

lost_so : (b : Bool) (privilege : ℕ) (e : Ended) (all : List Ended) (cause : ControlEnd) (whole : Type 0) (up : ℕ → Type 0) → is_held privilege ≡ b
    → (if b then None else Some causes.ControlLost) ≡ Some cause → value_in e.ack ≡ Some privilege → Answers heartbeat e → all ≡ e ∷ [] → whole → CauseFrom all whole up cause
lost_so true privilege e all cause whole up held is value beats all_is w = none_cause cause (CauseFrom all whole up cause) is
lost_so false privilege e all cause whole up held is value beats all_is w =
    some_cause causes.ControlLost cause all whole up is
    (record { before = []; ended = e; later = []; are = all_is; behind = omega arith; beats = beats; lost = (privilege, (value, held)) }, w)

await_lost : (own beats : Bool) (told : Option ℕ) (e : Ended) (all : List Ended) (cause : ControlEnd) (whole : Type 0) (up : ℕ → Type 0) → own ≡ beats
    → cause_of (step.Await own) how.Stopped told ≡ Some cause → value_in e.ack ≡ told → Awaited beats (request_of e.asked) → all ≡ e ∷ [] → whole → CauseFrom all whole up cause
await_lost false beats told e all cause whole up ok is value awaited all_is w = none_cause cause (CauseFrom all whole up cause) is
await_lost true beats None e all cause whole up ok is value awaited all_is w = none_cause cause (CauseFrom all whole up cause) is
await_lost true beats (Some privilege) e all cause whole up ok is value awaited all_is w =
    lost_so (is_held privilege) privilege e all cause whole up refl is value (subst (λ (b : Bool). Awaited b (request_of e.asked)) (sym ok) awaited) all_is w

ask_held : (told : Option ℕ) (all : List Ended) (cause : ControlEnd) (whole : Type 0) (up : ℕ → Type 0) → cause_of step.Ask how.Stopped told ≡ Some cause → whole → CauseFrom all whole up cause
ask_held None all cause whole up is w = none_cause cause (CauseFrom all whole up cause) is
ask_held (Some privilege) all cause whole up is w = held_cause_so (is_held privilege) cause all whole up is w

refused_so : (register status : ℕ) (all : List Ended) (c : PlainCommand) (r : Request) (u : Client) → Accesses register c → r ≡ new_request r.req c → HasEnded r all u status → status ≢ 0
    → IsRefused register status all
refused_so register status all c r u of_register for_it has ne =
    subst (IsRefused register status) (sym has.is)
    (refused_here register status has.ended [] c of_register (subst (λ (x : Request). x ≡ new_request x.req c) (sym has.of_request) for_it) has.status_is ne)

pub cause_came : (beats : Bool) (s : Step) (r : Request) (all : List Ended) (whole : Type 0) (up : ℕ → Type 0) (u : Client) (end : AcqEnd) (cause : ControlEnd) → OkStep beats s
    → ForStep (Awaited beats) s r → Came r all whole up u (Some end) → cause_of s end (value_of u.body) ≡ Some cause → CauseFrom all whole up cause
cause_came beats s r all whole up u how.Spent cause ok for_it so is = absurd so
cause_came beats s r all whole up u how.Fault cause ok for_it so is = some_cause causes.LinkFault cause all whole up is tt
cause_came beats s r all whole up u (how.NoAnswer req) cause ok for_it so is = some_cause (causes.NoAnswer req) cause all whole up is so.1
cause_came beats step.Ask r all whole up u how.Stopped cause ok for_it so is = ask_held (value_of u.body) all cause whole up is so.1
cause_came beats (step.Read register) r all whole up u how.Stopped cause ok for_it so is = none_cause cause (CauseFrom all whole up cause) is
cause_came beats (step.Write register value) r all whole up u how.Stopped cause ok for_it so is = none_cause cause (CauseFrom all whole up cause) is
cause_came beats (step.Stop register value) r all whole up u how.Stopped cause ok for_it so is = none_cause cause (CauseFrom all whole up cause) is
cause_came beats (step.Await own) r all whole up u how.Stopped cause ok for_it so is =
    await_lost own beats (value_of u.body) so.0.ended all cause whole up ok is (value_is so.0.ended (value_of u.body) so.0.status_is (ap value_of so.0.body))
    (subst (Awaited beats) (sym so.0.of_request) for_it) so.0.is so.1
cause_came beats step.Ask r all whole up u (how.Refused status) cause ok for_it so is =
    cause_if (status == ACCESS_DENIED) causes.Controlled (causes.RefusedAt CCP status) all whole up cause is so.1
    (refused_so CCP status all (read_of CCP) r u (inl refl) for_it so.0 so.2, so.1)
cause_came beats (step.Read register) r all whole up u (how.Refused status) cause ok for_it so is = none_cause cause (CauseFrom all whole up cause) is
cause_came beats (step.Write register value) r all whole up u (how.Refused status) cause ok for_it so is =
    some_cause (causes.RefusedAt register status) cause all whole up is
    (refused_so register status all (write_of register value) r u (inr (value, refl)) for_it so.0 so.2, so.1)
cause_came beats (step.Stop register value) r all whole up u (how.Refused status) cause ok for_it so is = none_cause cause (CauseFrom all whole up cause) is
cause_came beats (step.Await own) r all whole up u (how.Refused status) cause ok for_it so is = none_cause cause (CauseFrom all whole up cause) is
