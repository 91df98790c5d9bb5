-- How a camera is taken and let go, as acts of the client.
use Rattle.std.proofs.Common.{◌≡◌, ◌≢◌, inl, inr, ℕ, suc, ◌≤◌, Bool, true, false, List, [], ◌∷◌, ◌++◌, length, map, Option, Some, None, Result, Ok, Err, refl, ap, sym, subst, ◌∙◌, append_assoc, arith}
use Rattle.std.proofs.lemmas.Bool.{ne_eqb}
use Rattle.std.proofs.lemmas.List.{append-nil}
use Rattle.std.specs.Prelude.{⊤, ◌==◌, if◌then◌else◌}
use Rattle.bootstrap_regs.specs.Addresses.{CCP, SCP0}
use Rattle.gvcp_wire.specs.Messages.{PlainCommand}
use Rattle.client_machine.specs.Machine.{Asked, Client}
use Rattle.client_machine.specs.Events.{Request}
use Rattle.client_machine.specs.Setup.{CONTROL_ACCESS}
use Rattle.control_client.specs.Values.{value_of}
use Rattle.gev_links.specs.Links.{Address}
use Rattle.gev_control.specs.declared.acq_end.AcqEnd.{AcqEnd}
use Rattle.gev_control.specs.declared.acq_end.AcqEnd.TheVariants as how
use Rattle.gev_control.specs.CarriesOut.{ControlSide}
use Rattle.camera_control.specs.declared.step.Step.{Step}
use Rattle.camera_control.specs.declared.step.Step.TheVariants as step
use Rattle.camera_control.specs.declared.control_end.ControlEnd.{ControlEnd}
use Rattle.camera_control.specs.declared.control_end.ControlEnd.TheVariants as causes
use Rattle.camera_control.specs.declared.register_write.RegisterWrite.{RegisterWrite}
use Rattle.camera_control.specs.declared.stream_wish.StreamWish.{StreamWish}
use Rattle.camera_control.specs.declared.taken.Taken.{Taken}
use Rattle.camera_control.specs.Steps.{CAPABILITY, read_of, cause_of, value_read, readings_of, write_step, stop_step, agree_steps, take_steps, leave_steps, allows_resends}
use Rattle.camera_control.specs.Taking.{Made, steps_in, readings_in, Goes, Halts, Tells, Takes, Leaves}
use Rattle.camera_control.specs.Laws.{commands_of}
use Rattle.live_promises.specs.Acts.{Act, HasActed, NoneLost, Ended, ended_in}
use Rattle.live_promises.specs.ReceiveCauses.{Answers, IsRefused, value_in, first_tells_held, HasLost}
use Rattle.live_promises.specs.Commands.{CarriesFront, AllowsResends}
use Rattle.live_promises.proofs.Stepping.{GaveUp, Outs, AnswersStep}
use Rattle.live_promises.proofs.Logs.{EndsBy, FitsEach, fits_length, LogCame, log_came, Awaited, OkStep, AreOk, RefusesBy, log_refuses}
use Rattle.live_promises.proofs.Parts.{CausedIf, is_other}
use Rattle.live_promises.proofs.Fronts.{HasNoAsk, ok_both, ok_rest, HaltCame, halt_came, all_front, passed_ask, ask_halts, later_other, is_gone, unbeaten}

-- ---- the steps

writes_ok : (beats : Bool) (writes : List RegisterWrite) → AreOk beats (map write_step writes)
writes_ok beats [] = tt
writes_ok beats (x ∷ xs) = (tt, writes_ok beats xs)

pub take_ok : (beats : Bool) (wish : StreamWish) (sets starts : List RegisterWrite) → AreOk beats (take_steps wish sets starts)
take_ok beats wish sets starts =
    (tt, (tt, (tt, ok_both beats (map write_step sets) (agree_steps wish starts) (writes_ok beats sets) (tt, (tt, (tt, (tt, writes_ok beats starts)))))))

stops_ok : (beats : Bool) (stops : List RegisterWrite) → AreOk beats (map stop_step stops)
stops_ok beats [] = tt
stops_ok beats (x ∷ xs) = (tt, stops_ok beats xs)

rest_ok : (beats : Bool) (stops : List RegisterWrite) → AreOk beats (map stop_step stops ++ step.Stop SCP0 0 ∷ step.Stop CCP 0 ∷ [])
rest_ok beats stops = ok_both beats (map stop_step stops) (step.Stop SCP0 0 ∷ step.Stop CCP 0 ∷ []) (stops_ok beats stops) (tt, (tt, tt))

leave_ok : (asked : Option Asked) (beats : Bool) (stops : List RegisterWrite) → AreOk beats (leave_steps asked beats stops)
leave_ok None beats stops = rest_ok beats stops
leave_ok (Some asked) beats stops = (refl, rest_ok beats stops)

ask_both : (xs ys : List Step) → HasNoAsk xs → HasNoAsk ys → HasNoAsk (xs ++ ys)
ask_both [] ys first second = second
ask_both (step.Ask ∷ xs) ys first second = absurd first
ask_both (step.Read register ∷ xs) ys first second = ask_both xs ys first second
ask_both (step.Write register value ∷ xs) ys first second = ask_both xs ys first second
ask_both (step.Stop register value ∷ xs) ys first second = ask_both xs ys first second
ask_both (step.Await beats ∷ xs) ys first second = ask_both xs ys first second

ask_rest : (xs ys : List Step) → HasNoAsk (xs ++ ys) → HasNoAsk ys
ask_rest [] ys all = all
ask_rest (step.Ask ∷ xs) ys all = absurd all
ask_rest (step.Read register ∷ xs) ys all = ask_rest xs ys all
ask_rest (step.Write register value ∷ xs) ys all = ask_rest xs ys all
ask_rest (step.Stop register value ∷ xs) ys all = ask_rest xs ys all
ask_rest (step.Await beats ∷ xs) ys all = ask_rest xs ys all

ask_one : (s : Step) (rest : List Step) → HasNoAsk (s ∷ rest) → HasNoAsk (s ∷ [])
ask_one step.Ask rest all = absurd all
ask_one (step.Read register) rest all = tt
ask_one (step.Write register value) rest all = tt
ask_one (step.Stop register value) rest all = tt
ask_one (step.Await beats) rest all = tt

writes_ask : (writes : List RegisterWrite) → HasNoAsk (map write_step writes)
writes_ask [] = tt
writes_ask (x ∷ xs) = writes_ask xs

stops_ask : (stops : List RegisterWrite) → HasNoAsk (map stop_step stops)
stops_ask [] = tt
stops_ask (x ∷ xs) = stops_ask xs

leave_ask : (asked : Option Asked) (beats : Bool) (stops : List RegisterWrite) → HasNoAsk (leave_steps asked beats stops)
leave_ask None beats stops = ask_both (map stop_step stops) (step.Stop SCP0 0 ∷ step.Stop CCP 0 ∷ []) (stops_ask stops) tt
leave_ask (Some asked) beats stops = ask_both (map stop_step stops) (step.Stop SCP0 0 ∷ step.Stop CCP 0 ∷ []) (stops_ask stops) tt

-- the steps behind the first
abbrev later_steps : StreamWish → List RegisterWrite → List RegisterWrite → List Step
later_steps wish sets starts = step.Write CCP CONTROL_ACCESS ∷ step.Read CAPABILITY ∷ (map write_step sets ++ agree_steps wish starts)

take_ask : (wish : StreamWish) (sets starts : List RegisterWrite) → HasNoAsk (later_steps wish sets starts)
take_ask wish sets starts = ask_both (map write_step sets) (agree_steps wish starts) (writes_ask sets) (writes_ask starts)

-- ---- the first acknowledge

-- of steps that were made, the first of which asked
log_tells : (P : Request → Type 0) (log : List Made) (es more : List Ended) (steps tail : List Step) → steps_in log ++ steps ≡ step.Ask ∷ tail → log ≢ [] → FitsEach P log es
    → first_tells_held (es ++ more) ≡ false
log_tells P [] es more steps tail is some fits = absurd (some refl)
log_tells P (m ∷ ms) [] more steps tail is some fits = absurd fits
log_tells P (m ∷ ms) (e ∷ es) more steps tail is some fits =
    let asks_first : m.step ≡ step.Ask = cc in
    passed_ask m.end m.told e fits.0.ends (subst (λ (s : Step). cause_of s m.end m.told ≡ None) asks_first fits.0.on)

none_made : (P : Request → Type 0) (log : List Made) (es more : List Ended) → log ≡ [] → FitsEach P log es → es ++ more ≡ more
none_made P [] [] more is fits = refl
none_made P [] (e ∷ es) more is fits = absurd fits
none_made P (m ∷ ms) es more is fits = let bad : ⊥ = cc in absurd bad

-- ---- the camera's capability

-- the third acknowledge told it
pub record ToldCapability (es : List Ended) (capability : Option ℕ) : Type 0 where
  pub before : List Ended
  pub ended : Ended
  pub later : List Ended
  pub are : es ≡ before ++ ended ∷ later
  pub answers : Answers (read_of CAPABILITY) ended
  pub value : value_in ended.ack ≡ capability

read_value : (end : AcqEnd) (told : Option ℕ) (e : Ended) → EndsBy end told e → value_in e.ack ≡ value_read end told
read_value how.Stopped told e ends = ap (λ (n : ℕ). if n == 0 then value_of e.ack.body else None) ends.0 ∙ sym ends.1
read_value how.Spent told e ends = absurd ends
read_value how.Fault told e ends = absurd ends
read_value (how.NoAnswer req) told e ends = absurd ends
read_value (how.Refused status) told e ends =
    ap (λ (n : ℕ). if n == 0 then value_of e.ack.body else None) ends.0 ∙ ap (λ (b : Bool). if b then value_of e.ack.body else None) (ne_eqb status 0 ends.1)

told_third : (P : Request → Type 0) (log : List Made) (es : List Ended) (register value : ℕ) (tail : List Step) (capability : Option ℕ) (rest : List (Option ℕ))
    → steps_in log ≡ step.Ask ∷ step.Write register value ∷ step.Read CAPABILITY ∷ tail → readings_in log ≡ capability ∷ rest → FitsEach P log es → ToldCapability es capability
told_third P [] es register value tail capability rest are read fits = let bad : ⊥ = cc in absurd bad
told_third P (a ∷ []) es register value tail capability rest are read fits = let bad : ⊥ = cc in absurd bad
told_third P (a ∷ b ∷ []) es register value tail capability rest are read fits = let bad : ⊥ = cc in absurd bad
told_third P (a ∷ b ∷ c ∷ ms) [] register value tail capability rest are read fits = absurd fits
told_third P (a ∷ b ∷ c ∷ ms) (d ∷ []) register value tail capability rest are read fits = absurd fits.1
told_third P (a ∷ b ∷ c ∷ ms) (d ∷ e ∷ []) register value tail capability rest are read fits = absurd fits.1.1
told_third P (a ∷ b ∷ c ∷ ms) (d ∷ e ∷ f ∷ es) register value tail capability rest are read fits =
    let first : a.step ≡ step.Ask = cc in
    let second : b.step ≡ step.Write register value = cc in
    let third : c.step ≡ step.Read CAPABILITY = cc in
    let none_first : readings_of a.step a.end a.told ≡ [] = ap (λ (s : Step). readings_of s a.end a.told) first in
    let none_second : readings_of b.step b.end b.told ≡ [] = ap (λ (s : Step). readings_of s b.end b.told) second in
    let one_third : readings_of c.step c.end c.told ≡ value_read c.end c.told ∷ [] = ap (λ (s : Step). readings_of s c.end c.told) third in
    let all : value_read c.end c.told ∷ readings_in ms ≡ capability ∷ rest =
    sym
    (ap (λ (l : List (Option ℕ)). l ++ (readings_of b.step b.end b.told ++ (readings_of c.step c.end c.told ++ readings_in ms))) none_first
    ∙ (ap (λ (l : List (Option ℕ)). l ++ (readings_of c.step c.end c.told ++ readings_in ms)) none_second
    ∙ ap (λ (l : List (Option ℕ)). l ++ readings_in ms) one_third))
    ∙ read
    in
    let same : value_read c.end c.told ≡ capability = cc in
    record {
      before = d ∷ e ∷ [];
      ended = f;
      later = es;
      are = refl;
      answers = subst (λ (s : Step). AnswersStep P s f) third fits.1.1.0.answers;
      value = read_value c.end c.told f fits.1.1.0.ends ∙ same;
    }

-- ---- the taking

steps-length : (xs : List Made) → length (steps_in xs) ≡ length xs
steps-length [] = refl
steps-length (x ∷ xs) = ap suc (steps-length xs)

-- the camera was taken
pub record TookCame (camera : Address) (steps : List Step) (o n : ControlSide) (resends : Bool) : Type 0 where
  pub acts : List Act
  pub acted : HasActed camera o n acts
  pub front : CarriesFront o.client (commands_of steps) acts
  pub whole : NoneLost acts
  pub outs : Outs (Awaited true) n.client
  pub allows : resends ≡ true → AllowsResends (ended_in o.client acts)
  pub many : length (ended_in o.client acts) ≡ length steps
  pub held : (more : List Ended) → first_tells_held (ended_in o.client acts ++ more) ≡ false

some_log : (log : List Made) (s : Step) (rest : List Step) → steps_in log ≡ s ∷ rest → log ≢ []
some_log log s rest are none = let bad : [] ≡ s ∷ rest = sym (ap steps_in none) ∙ are in cc

pub took_came : (camera : Address) (wish : StreamWish) (sets starts : List RegisterWrite) (o n : ControlSide) (taken : Taken) → Takes camera wish sets starts o n (Ok taken)
    → Outs (Awaited true) o.client → TookCame camera (take_steps wish sets starts) o n taken.resends
took_came camera wish sets starts o n taken takes outs = record {
  acts = came.acts;
  acted = came.acted;
  front = all_front (Awaited true) camera (take_steps wish sets starts) o n goes.log came goes.are;
  whole = came.whole;
  outs = came.outs;
  allows = λ yes_is. record {
    before = third.before;
    ended = third.ended;
    later = third.later;
    are = third.are;
    answers = third.answers;
    allowed = ap allows_resends third.value ∙ (sym tells.resends ∙ yes_is);
  };
  many = fits_length (Awaited true) goes.log (ended_in o.client came.acts) came.fits ∙ (sym (steps-length goes.log) ∙ ap (λ (l : List Step). length l) goes.are);
  held = λ more.
      log_tells (Awaited true) goes.log (ended_in o.client came.acts) more [] (later_steps wish sets starts) (append-nil (steps_in goes.log) ∙ goes.are)
      (some_log goes.log step.Ask (later_steps wish sets starts) goes.are) came.fits;
}
  where
    goes : Goes camera (take_steps wish sets starts) takes.0 None o n
    goes = takes.1.0

    tells : Tells wish takes.0 taken
    tells = takes.1.1

    came : LogCame (Awaited true) camera o n goes.log
    came = log_came (Awaited true) camera o goes.log n outs goes.passes

    third : ToldCapability (ended_in o.client came.acts) tells.capability
    third = told_third (Awaited true) goes.log (ended_in o.client came.acts) CCP CONTROL_ACCESS (map write_step sets ++ agree_steps wish starts) tells.capability (tells.size ∷ [])
        goes.are (goes.read ∙ tells.read) came.fits

-- It wasn't: so many steps were made before one that ended all.
pub record TookNot (camera : Address) (steps : List Step) (done : ℕ) (o n : ControlSide) (cause : ControlEnd) : Type 0 where
  pub acts : List Act
  pub acted : HasActed camera o n acts
  pub front : CarriesFront o.client (commands_of steps) acts
  pub caused : CausedIf o.client acts (Some cause)
  pub held : first_tells_held (ended_in o.client acts) ≡ is_other cause
  pub more_held : 1 ≤ done → (more : List Ended) → first_tells_held (ended_in o.client acts ++ more) ≡ false
  pub other : 1 ≤ done → is_other cause ≡ false
  pub gone : is_gone cause ≡ false

module _ (camera : Address) (wish : StreamWish) (sets starts : List RegisterWrite) (done : ℕ) (o n : ControlSide) (cause : ControlEnd)
    (halts : Halts camera (take_steps wish sets starts) done o n cause) where
  abbrev came : HaltCame false camera (commands_of (take_steps wish sets starts)) o n halts.last halts.log halts.end cause
  came = halt_came false camera (take_steps wish sets starts) done o n cause halts (take_ok false wish sets starts) (λ asked is. tt)

  -- the step that ended all was the first, or one behind it
  last_is : halts.log ≡ [] → halts.last ≡ step.Ask
  last_is empty =
      let are : step.Ask ∷ later_steps wish sets starts ≡ halts.last ∷ halts.rest = halts.are ∙ ap (λ (l : List Made). steps_in l ++ halts.last ∷ halts.rest) empty in
      cc

  later_is : halts.log ≢ [] → HasNoAsk (halts.last ∷ [])
  later_is some = go halts.log some halts.are
    where
      go : (log : List Made) → log ≢ [] → step.Ask ∷ later_steps wish sets starts ≡ steps_in log ++ halts.last ∷ halts.rest → HasNoAsk (halts.last ∷ [])
      go [] one are = absurd (one refl)
      go (m ∷ ms) one are =
          let rest : later_steps wish sets starts ≡ steps_in ms ++ halts.last ∷ halts.rest = cc in
          ask_one halts.last halts.rest (ask_rest (steps_in ms) (halts.last ∷ halts.rest) (subst HasNoAsk rest (take_ask wish sets starts)))

  later_cause : halts.log ≢ [] → is_other cause ≡ false
  later_cause some = later_other halts.last halts.end (value_of n.client.body) cause (later_is some) halts.ended

  later_held : halts.log ≢ [] → (more : List Ended) → first_tells_held (ended_in o.client (came.first.acts ++ came.one.acts) ++ more) ≡ false
  later_held some more =
      ap first_tells_held
      (ap (λ (l : List Ended). l ++ more) came.ended ∙ append_assoc (ended_in o.client came.first.acts) (ended_in came.m.client came.one.acts) more)
      ∙ log_tells (Awaited false) halts.log (ended_in o.client came.first.acts) (ended_in came.m.client came.one.acts ++ more) (halts.last ∷ halts.rest)
      (later_steps wish sets starts) (sym halts.are) some came.first.fits

  first_held : halts.log ≡ [] → first_tells_held (ended_in o.client (came.first.acts ++ came.one.acts)) ≡ is_other cause
  first_held empty =
      ap first_tells_held (came.ended ∙ none_made (Awaited false) halts.log (ended_in o.client came.first.acts) (ended_in came.m.client came.one.acts) empty came.first.fits)
      ∙ ask_halts came.one.request (ended_in came.m.client came.one.acts) (NoneLost came.one.acts) (λ (req : ℕ). GaveUp req came.m.client came.one.acts) n.client halts.end cause
      came.one.came (subst (λ (s : Step). cause_of s halts.end (value_of n.client.body) ≡ Some cause) (last_is empty) halts.ended)

  all_held : (log : List Made) → halts.log ≡ log → first_tells_held (ended_in o.client (came.first.acts ++ came.one.acts)) ≡ is_other cause
  all_held [] is = first_held is
  all_held (m ∷ ms) is =
      let some : halts.log ≢ [] = λ none. (let bad : m ∷ ms ≡ [] = sym is ∙ none in cc) in
      ap first_tells_held (sym (append-nil (ended_in o.client (came.first.acts ++ came.one.acts)))) ∙ (later_held some [] ∙ sym (later_cause some))

  some_made : 1 ≤ done → halts.log ≢ []
  some_made few none = let zero_is : length halts.log ≡ 0 = ap (λ (l : List Made). length l) none in omega (arith, few, zero_is, halts.count)

  pub took_not : TookNot camera (take_steps wish sets starts) done o n cause
  took_not = record {
    acts = came.first.acts ++ came.one.acts;
    acted = came.acted;
    front = came.front;
    caused = came.caused;
    held = all_held halts.log refl;
    more_held = λ few more. later_held (some_made few) more;
    other = λ few. later_cause (some_made few);
    gone =
        unbeaten halts.last halts.end (value_of n.client.body) cause
        (ok_rest false (steps_in halts.log) (halts.last ∷ halts.rest) (subst (AreOk false) halts.are (take_ok false wish sets starts))).0 halts.ended;
  }

-- ---- letting go

-- why it was let go with this
abbrev pub LeftWith : Bool → Client → List Act → ControlEnd → Type 0
LeftWith beats o acts causes.LinkFault = ⊤
LeftWith beats o acts (causes.NoAnswer req) = GaveUp req o acts
LeftWith beats o acts (causes.RefusedAt register status) = IsRefused register status (ended_in o acts)
LeftWith beats o acts causes.Controlled = ⊥
LeftWith beats o acts causes.ControlLost = HasLost 0 (ended_in o acts) × (beats ≡ true)

abbrev pub LeftBy : Bool → Client → List Act → Result (Unit {0}) ControlEnd → Type 0
LeftBy beats o acts (Ok done) = ⊤
LeftBy beats o acts (Err cause) = LeftWith beats o acts cause

pub record LeaveCame (beats : Bool) (camera : Address) (stops : List RegisterWrite) (o n : ControlSide) (result : Result (Unit {0}) ControlEnd) : Type 0 where
  pub acts : List Act
  pub acted : HasActed camera o n acts
  pub front : CarriesFront o.client (commands_of (leave_steps None false stops)) acts
  pub left : LeftBy beats o.client acts result

leave_commands : (asked : Option Asked) (beats : Bool) (stops : List RegisterWrite) → commands_of (leave_steps asked beats stops) ≡ commands_of (leave_steps None false stops)
leave_commands None beats stops = refl
leave_commands (Some asked) beats stops = refl

refusal_left : (beats : Bool) (o : Client) (acts : List Act) (cause : ControlEnd) → RefusesBy (Some cause) (ended_in o acts) → LeftWith beats o acts cause
refusal_left beats o acts causes.LinkFault refuses = absurd refuses
refusal_left beats o acts (causes.NoAnswer req) refuses = absurd refuses
refusal_left beats o acts (causes.RefusedAt register status) refuses = refuses
refusal_left beats o acts causes.Controlled refuses = absurd refuses
refusal_left beats o acts causes.ControlLost refuses = absurd refuses

true_or : (beats : Bool) → (beats ≡ false → ⊥) → beats ≡ true
true_or true no_way = refl
true_or false no_way = absurd (no_way refl)

halt_left : (beats : Bool) (o : Client) (acts : List Act) (cause : ControlEnd) → CausedIf o acts (Some cause) → is_other cause ≡ false → (beats ≡ false → is_gone cause ≡ false)
    → LeftWith beats o acts cause
halt_left beats o acts causes.LinkFault caused other gone = tt
halt_left beats o acts (causes.NoAnswer req) caused other gone = caused
halt_left beats o acts (causes.RefusedAt register status) caused other gone = caused.0
halt_left beats o acts causes.Controlled caused other gone = let bad : true ≡ false = other in absurd (cc)
halt_left beats o acts causes.ControlLost caused other gone = (caused.0, true_or beats (λ is. (let bad : true ≡ false = gone is in cc)))

module _ (beats : Bool) (camera : Address) (stops : List RegisterWrite) (o n : ControlSide) (outs : Outs (Awaited beats) o.client) where
  abbrev steps : List Step
  steps = leave_steps o.client.asked beats stops

  goes_left : (refused : Option ControlEnd) (result : Result (Unit {0}) ControlEnd) → Goes camera (leave_steps o.client.asked beats stops) [] refused o n
      → ((acts : List Act) → RefusesBy refused (ended_in o.client acts) → LeftBy beats o.client acts result) → LeaveCame beats camera stops o n result
  goes_left refused result goes left =
      let came : LogCame (Awaited beats) camera o n goes.log = log_came (Awaited beats) camera o goes.log n outs goes.passes in
      record {
        acts = came.acts;
        acted = came.acted;
        front =
            subst (λ (l : List PlainCommand). CarriesFront o.client l came.acts) (leave_commands o.client.asked beats stops)
            (all_front (Awaited beats) camera steps o n goes.log came goes.are);
        left =
            left came.acts
            (subst (λ (r : Option ControlEnd). RefusesBy r (ended_in o.client came.acts)) goes.first
            (log_refuses beats goes.log (ended_in o.client came.acts) (subst (AreOk beats) (sym goes.are) (leave_ok o.client.asked beats stops)) came.fits));
      }

  halts_left : (done : ℕ) (cause : ControlEnd) → Halts camera (leave_steps o.client.asked beats stops) done o n cause → LeaveCame beats camera stops o n (Err cause)
  halts_left done cause halts =
      let came : HaltCame beats camera (commands_of steps) o n halts.last halts.log halts.end cause =
      halt_came beats camera steps done o n cause halts (leave_ok o.client.asked beats stops) outs in
      record {
        acts = came.first.acts ++ came.one.acts;
        acted = came.acted;
        front = subst (λ (l : List PlainCommand). CarriesFront o.client l (came.first.acts ++ came.one.acts)) (leave_commands o.client.asked beats stops) came.front;
        left =
            halt_left beats o.client (came.first.acts ++ came.one.acts) cause came.caused
            (later_other halts.last halts.end (value_of n.client.body) cause
            (ask_one halts.last halts.rest (ask_rest (steps_in halts.log) (halts.last ∷ halts.rest) (subst HasNoAsk halts.are (leave_ask o.client.asked beats stops)))) halts.ended)
            (λ is.
            unbeaten halts.last halts.end (value_of n.client.body) cause
            (subst (λ (b : Bool). OkStep b halts.last) is
            (ok_rest beats (steps_in halts.log) (halts.last ∷ halts.rest) (subst (AreOk beats) halts.are (leave_ok o.client.asked beats stops))).0) halts.ended);
      }

  pub leave_came : (result : Result (Unit {0}) ControlEnd) → Leaves camera beats stops o n result → LeaveCame beats camera stops o n result
  leave_came (Ok done) leaves = goes_left None (Ok done) leaves (λ acts refuses. tt)
  leave_came (Err cause) (inl goes) = goes_left (Some cause) (Err cause) goes (λ acts refuses. refusal_left beats o.client acts cause refuses)
  leave_came (Err cause) (inr halts) = halts_left halts.0 cause halts.1
