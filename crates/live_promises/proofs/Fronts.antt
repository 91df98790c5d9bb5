-- Steps of which one ended all, and a camera that is taken or let go, as acts of the client.
use Rattle.std.proofs.Common.{◌≡◌, ◌≢◌, ℕ, ◌≤◌, Bool, true, false, List, [], ◌∷◌, ◌++◌, length, Option, Some, None, refl, ap, sym, subst, ◌∙◌, arith}
use Rattle.std.proofs.lemmas.List.{append-nil}
use Rattle.std.proofs.lemmas.Bool.{ne_eqb}
use Rattle.std.specs.Prelude.{⊤, ◌==◌, ◌||◌, if◌then◌else◌}
use Rattle.bootstrap_regs.specs.Addresses.{CCP}
use Rattle.gvcp_wire.specs.Messages.{PlainCommand}
use Rattle.client_machine.specs.Machine.{Client}
use Rattle.client_machine.specs.Events.{Request}
use Rattle.control_client.specs.Values.{value_of}
use Rattle.gev_links.specs.Links.{Address}
use Rattle.gev_control.specs.declared.acq_end.AcqEnd.{AcqEnd}
use Rattle.gev_control.specs.declared.acq_end.AcqEnd.TheVariants as how
use Rattle.gev_control.specs.CarriesOut.{ControlSide}
use Rattle.camera_control.specs.declared.step.Step.{Step}
use Rattle.camera_control.specs.declared.step.Step.TheVariants as step
use Rattle.camera_control.specs.declared.control_end.ControlEnd.{ControlEnd}
use Rattle.camera_control.specs.declared.control_end.ControlEnd.TheVariants as causes
use Rattle.camera_control.specs.Steps.{ACCESS_DENIED, commands_in, is_held, cause_of}
use Rattle.camera_control.specs.Taking.{Made, steps_in, Halts}
use Rattle.camera_control.specs.Laws.{commands_of}
use Rattle.live_promises.specs.Acts.{HasActed, NoneLost, Ended, ended_in, submitted_in}
use Rattle.live_promises.specs.ReceiveCauses.{value_in, is_held_if, tells_held, first_tells_held}
use Rattle.live_promises.specs.Commands.{none, CarriesFront}
use Rattle.live_promises.proofs.Acting.{ended-append, acted_then}
use Rattle.live_promises.proofs.Outstanding.{Came}
use Rattle.live_promises.proofs.Stepping.{GaveUp, Outs, StepCame, step_came}
use Rattle.live_promises.proofs.Logs.{EndsBy, LogCame, log_came, commands-append, Awaited, OkStep, AreOk, cause_came}
use Rattle.live_promises.proofs.Parts.{CausedIf, caused_later, is_other}

-- ---- lists of steps

abbrev pub HasNoAsk : List Step → Type 0
HasNoAsk [] = ⊤
HasNoAsk (step.Ask ∷ rest) = ⊥
HasNoAsk (step.Read register ∷ rest) = HasNoAsk rest
HasNoAsk (step.Write register value ∷ rest) = HasNoAsk rest
HasNoAsk (step.Stop register value ∷ rest) = HasNoAsk rest
HasNoAsk (step.Await beats ∷ rest) = HasNoAsk rest

abbrev pub HasNoAwait : List Step → Type 0
HasNoAwait [] = ⊤
HasNoAwait (step.Ask ∷ rest) = HasNoAwait rest
HasNoAwait (step.Read register ∷ rest) = HasNoAwait rest
HasNoAwait (step.Write register value ∷ rest) = HasNoAwait rest
HasNoAwait (step.Stop register value ∷ rest) = HasNoAwait rest
HasNoAwait (step.Await beats ∷ rest) = ⊥

pub ok_both : (beats : Bool) (xs ys : List Step) → AreOk beats xs → AreOk beats ys → AreOk beats (xs ++ ys)
ok_both beats [] ys first second = second
ok_both beats (x ∷ xs) ys first second = (first.0, ok_both beats xs ys first.1 second)

ok_front : (beats : Bool) (xs ys : List Step) → AreOk beats (xs ++ ys) → AreOk beats xs
ok_front beats [] ys all = tt
ok_front beats (x ∷ xs) ys all = (all.0, ok_front beats xs ys all.1)

pub ok_rest : (beats : Bool) (xs ys : List Step) → AreOk beats (xs ++ ys) → AreOk beats ys
ok_rest beats [] ys all = all
ok_rest beats (x ∷ xs) ys all = ok_rest beats xs ys all.1

-- ---- one step that ended all

few_commands : (s : Step) → length (commands_in s) ≤ 1
few_commands step.Ask = omega arith
few_commands (step.Read register) = omega arith
few_commands (step.Write register value) = omega arith
few_commands (step.Stop register value) = omega arith
few_commands (step.Await beats) = omega arith

-- what is shown of steps of which one ended all
pub record HaltCame (beats : Bool) (camera : Address) (all : List PlainCommand) (o n : ControlSide) (last : Step) (log : List Made) (end : AcqEnd) (cause : ControlEnd) : Type 0 where
  pub m : ControlSide
  pub first : LogCame (Awaited beats) camera o m log
  pub one : StepCame (Awaited beats) camera last m n end
  pub acted : HasActed camera o n (first.acts ++ one.acts)
  pub front : CarriesFront o.client all (first.acts ++ one.acts)
  pub caused : CausedIf o.client (first.acts ++ one.acts) (Some cause)
  pub ended : ended_in o.client (first.acts ++ one.acts) ≡ ended_in o.client first.acts ++ ended_in m.client one.acts

module _ (beats : Bool) (camera : Address) (steps : List Step) (done : ℕ) (o n : ControlSide) (cause : ControlEnd) (halts : Halts camera steps done o n cause) (ok : AreOk beats steps)
    (outs : Outs (Awaited beats) o.client) where
  first : LogCame (Awaited beats) camera o halts.m halts.log
  first = log_came (Awaited beats) camera o halts.log halts.m outs halts.passes

  one : StepCame (Awaited beats) camera halts.last halts.m n halts.end
  one = step_came (Awaited beats) camera halts.last halts.m n halts.end halts.makes first.outs

  pub halt_came : HaltCame beats camera (commands_of steps) o n halts.last halts.log halts.end cause
  halt_came = record {
    m = halts.m;
    first = first;
    one = one;
    acted = acted_then camera o halts.m n first.acts one.acts first.acted one.acted;
    front = record {
      done = commands_of (steps_in halts.log);
      last = commands_in halts.last;
      rest = commands_of halts.rest;
      are = ap commands_of halts.are ∙ commands-append (steps_in halts.log) (halts.last ∷ halts.rest);
      few = few_commands halts.last;
      front = first.acts;
      end = one.acts;
      parts = refl;
      each = first.each;
      submitted = ap (λ (s : Client). submitted_in s one.acts) (sym first.acted.client) ∙ one.submitted;
      unasked = one.unasked;
    };
    caused =
        caused_later o.client first.acts one.acts (Some cause) first.whole
        (subst (λ (s : Client). CausedIf s one.acts (Some cause)) first.acted.client
        (cause_came beats halts.last one.request (ended_in halts.m.client one.acts) (NoneLost one.acts) (λ (req : ℕ). GaveUp req halts.m.client one.acts) n.client halts.end cause
        (ok_rest beats (steps_in halts.log) (halts.last ∷ halts.rest) (subst (AreOk beats) halts.are ok)).0 one.for_step one.came halts.ended));
    ended =
        ended-append o.client first.acts one.acts
        ∙ ap (λ (l : List Ended). ended_in o.client first.acts ++ l) (ap (λ (s : Client). ended_in s one.acts) (sym first.acted.client));
  }

-- all steps were made: their commands were carried out
pub all_front : (P : Request → Type 0) (camera : Address) (steps : List Step) (o n : ControlSide) (log : List Made) (came : LogCame P camera o n log) → steps_in log ≡ steps
    → CarriesFront o.client (commands_of steps) came.acts
all_front P camera steps o n log came are = record {
  done = commands_of (steps_in log);
  last = [];
  rest = [];
  are = sym (append-nil (commands_of (steps_in log)) ∙ ap commands_of are);
  few = omega arith;
  front = came.acts;
  end = [];
  parts = sym (append-nil came.acts);
  each = came.each;
  submitted = refl;
  unasked = refl;
}

-- no command was submitted
pub none_front : (s : Client) (all : List PlainCommand) → CarriesFront s all []
none_front s all = record {
  done = [];
  last = [];
  rest = all;
  are = refl;
  few = omega arith;
  front = [];
  end = [];
  parts = refl;
  each = none;
  submitted = refl;
  unasked = refl;
}

-- ---- whether another application controls the camera

ask_value : (e : Ended) (told : Option ℕ) (zero_is : e.ack.status ≡ 0) → told ≡ value_of e.ack.body → tells_held e ≡ is_held_if told
ask_value e told zero_is is =
    ap (λ (n : ℕ). (n == ACCESS_DENIED) || is_held_if (if n == 0 then value_of e.ack.body else None)) zero_is ∙ ap is_held_if (sym is)

held_if : (b : Bool) → (if b then Some causes.Controlled else None) ≡ None → b ≡ false
held_if true is = let bad : ⊥ = cc in absurd bad
held_if false is = refl

passed_value : (told : Option ℕ) → cause_of step.Ask how.Stopped told ≡ None → is_held_if told ≡ false
passed_value None is = refl
passed_value (Some privilege) is = held_if (is_held privilege) is

denied_none : (b : Bool) (x y : ControlEnd) → (if b then Some x else Some y) ≡ None → ⊥
denied_none true x y is = cc
denied_none false x y is = cc

-- a first step behind which the next came
pub passed_ask : (end : AcqEnd) (told : Option ℕ) (e : Ended) → EndsBy end told e → cause_of step.Ask end told ≡ None → tells_held e ≡ false
passed_ask how.Stopped told e ends on = ask_value e told ends.0 ends.1 ∙ passed_value told on
passed_ask how.Spent told e ends on = absurd ends
passed_ask how.Fault told e ends on = absurd ends
passed_ask (how.NoAnswer req) told e ends on = absurd ends
passed_ask (how.Refused status) told e ends on = absurd (denied_none (status == ACCESS_DENIED) causes.Controlled (causes.RefusedAt CCP status) on)

-- where the first step ended all
ask_refused : (e : Ended) (status : ℕ) (b : Bool) (cause : ControlEnd) → e.ack.status ≡ status → status ≢ 0 → (status == ACCESS_DENIED) ≡ b
    → (if b then Some causes.Controlled else Some (causes.RefusedAt CCP status)) ≡ Some cause → tells_held e ≡ is_other cause
ask_refused e status true cause status_is ne denied is =
    let same : causes.Controlled ≡ cause = cc in
    ap (λ (b : Bool). b || is_held_if (value_in e.ack)) (ap (λ (n : ℕ). n == ACCESS_DENIED) status_is ∙ denied) ∙ ap is_other same
ask_refused e status false cause status_is ne denied is =
    let same : causes.RefusedAt CCP status ≡ cause = cc in
    ap (λ (b : Bool). b || is_held_if (value_in e.ack)) (ap (λ (n : ℕ). n == ACCESS_DENIED) status_is ∙ denied)
    ∙ (ap (λ (n : ℕ). is_held_if (if n == 0 then value_of e.ack.body else None)) status_is
    ∙ (ap (λ (b : Bool). is_held_if (if b then value_of e.ack.body else None)) (ne_eqb status 0 ne) ∙ ap is_other same))

ask_told : (told : Option ℕ) (cause : ControlEnd) → cause_of step.Ask how.Stopped told ≡ Some cause → is_held_if told ≡ is_other cause
ask_told None cause is = let bad : ⊥ = cc in absurd bad
ask_told (Some privilege) cause is = go (is_held privilege) refl is
  where
    go : (b : Bool) → is_held privilege ≡ b → (if b then Some causes.Controlled else None) ≡ Some cause → is_held privilege ≡ is_other cause
    go true held some = let same : causes.Controlled ≡ cause = cc in held ∙ ap is_other same
    go false held some = let bad : ⊥ = cc in absurd bad

one_tells : (all : List Ended) (e : Ended) → all ≡ e ∷ [] → first_tells_held all ≡ tells_held e
one_tells all e is = ap first_tells_held is

pub ask_halts : (r : Request) (all : List Ended) (whole : Type 0) (up : ℕ → Type 0) (u : Client) (end : AcqEnd) (cause : ControlEnd) → Came r all whole up u (Some end)
    → cause_of step.Ask end (value_of u.body) ≡ Some cause → first_tells_held all ≡ is_other cause
ask_halts r all whole up u how.Stopped cause so is =
    one_tells all so.0.ended so.0.is
    ∙ (ask_value so.0.ended (value_of u.body) so.0.status_is (ap value_of so.0.body) ∙ ask_told (value_of u.body) cause is)
ask_halts r all whole up u how.Spent cause so is = absurd so
ask_halts r all whole up u how.Fault cause so is = let same : causes.LinkFault ≡ cause = cc in ap first_tells_held so ∙ ap is_other same
ask_halts r all whole up u (how.NoAnswer req) cause so is = let same : causes.NoAnswer req ≡ cause = cc in ap first_tells_held so.0 ∙ ap is_other same
ask_halts r all whole up u (how.Refused status) cause so is =
    one_tells all so.0.ended so.0.is ∙ ask_refused so.0.ended status (status == ACCESS_DENIED) cause so.0.status_is so.2 refl is

-- a later step
if_other : (b : Bool) (cause : ControlEnd) → (if b then None else Some causes.ControlLost) ≡ Some cause → is_other cause ≡ false
if_other true cause is = let bad : ⊥ = cc in absurd bad
if_other false cause is = let same : causes.ControlLost ≡ cause = cc in ap is_other (sym same)

pub later_other : (s : Step) (end : AcqEnd) (told : Option ℕ) (cause : ControlEnd) → HasNoAsk (s ∷ []) → cause_of s end told ≡ Some cause → is_other cause ≡ false
later_other step.Ask end told cause later is = absurd later
later_other s how.Spent told cause later is = let same : causes.LinkFault ≡ cause = cc in ap is_other (sym same)
later_other s how.Fault told cause later is = let same : causes.LinkFault ≡ cause = cc in ap is_other (sym same)
later_other s (how.NoAnswer req) told cause later is = let same : causes.NoAnswer req ≡ cause = cc in ap is_other (sym same)
later_other (step.Read register) how.Stopped told cause later is = let bad : ⊥ = cc in absurd bad
later_other (step.Write register value) how.Stopped told cause later is = let bad : ⊥ = cc in absurd bad
later_other (step.Stop register value) how.Stopped told cause later is = let bad : ⊥ = cc in absurd bad
later_other (step.Await false) how.Stopped told cause later is = let bad : ⊥ = cc in absurd bad
later_other (step.Await true) how.Stopped None cause later is = let bad : ⊥ = cc in absurd bad
later_other (step.Await true) how.Stopped (Some privilege) cause later is = if_other (is_held privilege) cause is
later_other (step.Read register) (how.Refused status) told cause later is = let bad : ⊥ = cc in absurd bad
later_other (step.Write register value) (how.Refused status) told cause later is =
    let same : causes.RefusedAt register status ≡ cause = cc in ap is_other (sym same)
later_other (step.Stop register value) (how.Refused status) told cause later is = let bad : ⊥ = cc in absurd bad
later_other (step.Await beats) (how.Refused status) told cause later is = let bad : ⊥ = cc in absurd bad

-- ---- whether control is lost

abbrev pub is_gone : ControlEnd → Bool
is_gone causes.LinkFault = false
is_gone (causes.NoAnswer req) = false
is_gone (causes.RefusedAt register status) = false
is_gone causes.Controlled = false
is_gone causes.ControlLost = true

held_gone : (b : Bool) (cause : ControlEnd) → (if b then Some causes.Controlled else None) ≡ Some cause → is_gone cause ≡ false
held_gone true cause is = let same : causes.Controlled ≡ cause = cc in ap is_gone (sym same)
held_gone false cause is = let bad : ⊥ = cc in absurd bad

ask_gone : (told : Option ℕ) (cause : ControlEnd) → cause_of step.Ask how.Stopped told ≡ Some cause → is_gone cause ≡ false
ask_gone None cause is = let bad : ⊥ = cc in absurd bad
ask_gone (Some privilege) cause is = held_gone (is_held privilege) cause is

denied_gone : (b : Bool) (status : ℕ) (cause : ControlEnd) → (if b then Some causes.Controlled else Some (causes.RefusedAt CCP status)) ≡ Some cause → is_gone cause ≡ false
denied_gone true status cause is = let same : causes.Controlled ≡ cause = cc in ap is_gone (sym same)
denied_gone false status cause is = let same : causes.RefusedAt CCP status ≡ cause = cc in ap is_gone (sym same)

-- without a heartbeat that is waited for it isn't
pub unbeaten : (s : Step) (end : AcqEnd) (told : Option ℕ) (cause : ControlEnd) → OkStep false s → cause_of s end told ≡ Some cause → is_gone cause ≡ false
unbeaten s how.Spent told cause ok is = let same : causes.LinkFault ≡ cause = cc in ap is_gone (sym same)
unbeaten s how.Fault told cause ok is = let same : causes.LinkFault ≡ cause = cc in ap is_gone (sym same)
unbeaten s (how.NoAnswer req) told cause ok is = let same : causes.NoAnswer req ≡ cause = cc in ap is_gone (sym same)
unbeaten step.Ask how.Stopped told cause ok is = ask_gone told cause is
unbeaten (step.Read register) how.Stopped told cause ok is = let bad : ⊥ = cc in absurd bad
unbeaten (step.Write register value) how.Stopped told cause ok is = let bad : ⊥ = cc in absurd bad
unbeaten (step.Stop register value) how.Stopped told cause ok is = let bad : ⊥ = cc in absurd bad
unbeaten (step.Await false) how.Stopped told cause ok is = let bad : ⊥ = cc in absurd bad
unbeaten (step.Await true) how.Stopped told cause ok is = let bad : true ≡ false = ok in absurd (cc)
unbeaten step.Ask (how.Refused status) told cause ok is = denied_gone (status == ACCESS_DENIED) status cause is
unbeaten (step.Read register) (how.Refused status) told cause ok is = let bad : ⊥ = cc in absurd bad
unbeaten (step.Write register value) (how.Refused status) told cause ok is =
    let same : causes.RefusedAt register status ≡ cause = cc in ap is_gone (sym same)
unbeaten (step.Stop register value) (how.Refused status) told cause ok is = let bad : ⊥ = cc in absurd bad
unbeaten (step.Await beats) (how.Refused status) told cause ok is = let bad : ⊥ = cc in absurd bad
