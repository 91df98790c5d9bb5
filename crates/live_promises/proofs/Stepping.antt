-- One step by which a camera is taken or let go, as acts of the client.
use Rattle.std.proofs.Common.{◌≡◌, ℕ, Bool, true, List, [], ◌∷◌, ◌++◌, Option, Some, None, IsSome, refl, ap, sym, subst, ◌∙◌, append_assoc}
use Rattle.std.proofs.lemmas.List.{append-nil}
use Rattle.std.specs.Prelude.{◌==◌, is_some, length}
use Rattle.gvcp_wire.specs.Messages.{PlainCommand}
use Rattle.client_machine.specs.declared.outcome.Outcome.TheVariants.{NoAnswer}
use Rattle.client_machine.specs.Commands.{next_req}
use Rattle.client_machine.specs.Machine.{Asked, Client, submitted_with, ticked, taken}
use Rattle.client_machine.specs.Events.{ticks, Request, request_of, new_request}
use Rattle.client_machine.specs.Setup.{write_of}
use Rattle.bootstrap_regs.specs.Addresses.{CCP}
use Rattle.gev_links.specs.Links.{Address, Answer, nothing, failed, came}
use Rattle.gev_control.specs.declared.acq_end.AcqEnd.{AcqEnd}
use Rattle.gev_control.specs.OrderTurns.{Progress, progress, OrderTurned, next_with, next_part, order_turn}
use Rattle.gev_control.specs.CarriesOut.{ControlSide, orders_after, OrdersGoOn, CarriesOut}
use Rattle.camera_control.specs.declared.step.Step.{Step}
use Rattle.camera_control.specs.declared.step.Step.TheVariants as step
use Rattle.camera_control.specs.Steps.{commands_in, read_of}
use Rattle.camera_control.specs.Taking.{Makes}
use Rattle.live_promises.specs.Acts.{Act, turns, clocked, behind_all, HasActed, NoneLost, Ended, ended_in, submitted_if, submitted_in, asked_in}
use Rattle.live_promises.specs.ReceiveCauses.{Answers}
use Rattle.live_promises.proofs.Acting.{behind-append, ended-append, submitted-append, asked-append, whole_both}
use Rattle.live_promises.proofs.Lists.{given_at, given_in, gets_of, turn_acts, list_acts, IsQuiet, AreQuiet, next_is, turn_behind, carried_quiet, carried_acted}
use Rattle.live_promises.proofs.Outstanding.{IsOut, Came, came_so, tick_out, after_came}

-- Among these acts the client gave a command up; up to then no send had failed.
pub record GaveUp (req : ℕ) (s : Client) (acts : List Act) : Type 0 where
  pub before : List Act
  pub given : Option PlainCommand
  pub moment : ℕ
  pub sent : Bool
  pub later : List Act
  pub are : acts ≡ before ++ turns given moment sent ∷ later
  pub up : (clocked (behind_all s before) given moment).outcome ≡ NoAnswer req
  pub whole : NoneLost before

-- behind others
pub gave_later : (req : ℕ) (s : Client) (xs ys : List Act) → NoneLost xs → GaveUp req (behind_all s xs) ys → GaveUp req s (xs ++ ys)
gave_later req s xs ys whole gave = record {
  before = xs ++ gave.before;
  given = gave.given;
  moment = gave.moment;
  sent = gave.sent;
  later = gave.later;
  are = ap (λ (l : List Act). xs ++ l) gave.are ∙ sym (append_assoc xs gave.before (turns gave.given gave.moment gave.sent ∷ gave.later));
  up = subst (λ (x : Client). (clocked x gave.given gave.moment).outcome ≡ NoAnswer req) (sym (behind-append s xs gave.before)) gave.up;
  whole = whole_both xs gave.before whole gave.whole;
}

-- before others
pub gave_sooner : (req : ℕ) (s : Client) (xs ys : List Act) → GaveUp req s xs → GaveUp req s (xs ++ ys)
gave_sooner req s xs ys gave = record {
  before = gave.before;
  given = gave.given;
  moment = gave.moment;
  sent = gave.sent;
  later = gave.later ++ ys;
  are = ap (λ (l : List Act). l ++ ys) gave.are ∙ append_assoc gave.before (turns gave.given gave.moment gave.sent ∷ gave.later) ys;
  up = gave.up;
  whole = gave.whole;
}

-- ---- a turn

-- The turn's tick finds a command with this request outstanding, which is the list's last, and these commands are submitted
-- in the turn.
pub record Starts (r : Request) (cs : List PlainCommand) (orders : List PlainCommand) (s : Progress) : Type 0 where
  pub out : (moment : ℕ) → IsOut r (next_part orders s moment).state.client
  pub full : (moment : ℕ) → ((next_part orders s moment).state.begun == length orders) ≡ true
  pub submits : submitted_if s.client.asked (given_in orders s) ≡ cs

gets_submit : (s : Client) (heard : Option Answer) (moment : ℕ) → submitted_in s (gets_of heard moment) ≡ []
gets_submit s None moment = refl
gets_submit s (Some nothing) moment = refl
gets_submit s (Some failed) moment = refl
gets_submit s (Some (came bytes peer)) moment = refl

gets_ask : (heard : Option Answer) (moment : ℕ) → asked_in (gets_of heard moment) ≡ []
gets_ask None moment = refl
gets_ask (Some nothing) moment = refl
gets_ask (Some failed) moment = refl
gets_ask (Some (came bytes peer)) moment = refl

gets_whole : (heard : Option Answer) (moment : ℕ) → NoneLost (gets_of heard moment)
gets_whole None moment = tt
gets_whole (Some nothing) moment = tt
gets_whole (Some failed) moment = tt
gets_whole (Some (came bytes peer)) moment = (refl, tt)

abbrev ListCame : Request → List PlainCommand → Client → List Act → Client → Option AcqEnd → Type 0
ListCame r cs s acts u end =
    (submitted_in s acts ≡ cs) × Came r (ended_in s acts) (NoneLost acts) (λ (req : ℕ). GaveUp req s acts) u end

module _ (r : Request) (cs : List PlainCommand) (orders : List PlainCommand) (s : Progress) (t : OrderTurned) (starts : Starts r cs orders s) (quiet : IsQuiet orders s t) where
  abbrev k : Client
  k = (next_part orders s t.moment).state.client

  abbrev b : Client
  b = taken (clocked s.client (given_in orders s) t.moment).client

  up_acts : (req : ℕ) → (ticked k t.moment).outcome ≡ NoAnswer req → GaveUp req s.client (turn_acts orders s t)
  up_acts req is = record {
    before = [];
    given = given_in orders s;
    moment = t.moment;
    sent = is_some t.heard;
    later = gets_of t.heard t.moment;
    are = refl;
    up = sym (ap (λ (x : Client). (ticked x t.moment).outcome) (next_is orders s t.moment)) ∙ is;
    whole = tt;
  }

  turn_came : ListCame r cs s.client (turn_acts orders s t) (order_turn orders s t).state.client (order_turn orders s t).end
  turn_came = (
    ap (λ (l : List PlainCommand). submitted_if s.client.asked (given_in orders s) ++ l) (gets_submit b t.heard t.moment)
        ∙ (append-nil (submitted_if s.client.asked (given_in orders s)) ∙ starts.submits),
    came_so r (ended_in (taken (ticked k t.moment).client) (gets_of t.heard t.moment)) (ended_in s.client (turn_acts orders s t)) (is_some t.heard ≡ true)
        (NoneLost (turn_acts orders s t)) (λ (req : ℕ). (ticked k t.moment).outcome ≡ NoAnswer req) (λ (req : ℕ). GaveUp req s.client (turn_acts orders s t))
        (order_turn orders s t).state.client (order_turn orders s t).end
        (sym (ap (λ (x : Client). ended_in (taken (ticked x t.moment).client) (gets_of t.heard t.moment)) (next_is orders s t.moment)))
        (λ heard. (heard, gets_whole t.heard t.moment)) up_acts
        (after_came r (length orders) (next_part orders s t.moment).state.begun (ticks t.moment ∷ []) (ticked k t.moment) t (starts.full t.moment) quiet
        (tick_out r k t.moment (starts.out t.moment))),
  )

-- ---- turns

-- the state behind a turn that goes on
out_next : (r : Request) (orders : List PlainCommand) (u : Progress) (o : Option Asked) (moment : ℕ) (asked : Asked) → o ≡ Some asked → u.client.asked ≡ o → request_of asked ≡ r
    → IsOut r (next_with o orders u moment).state.client
out_next r orders u None moment asked same is of_request = let bad : ⊥ = cc in absurd bad
out_next r orders u (Some x) moment asked same is of_request =
    (x, (is, (let e : x ≡ asked = cc in ap request_of e ∙ of_request)))

full_next : (orders : List PlainCommand) (u : Progress) (o : Option Asked) (moment : ℕ) (asked : Asked) → o ≡ Some asked → (u.begun == length orders) ≡ true
    → ((next_with o orders u moment).state.begun == length orders) ≡ true
full_next orders u None moment asked same full = let bad : ⊥ = cc in absurd bad
full_next orders u (Some x) moment asked same full = full

submits_none : (o : Option Asked) (c : Option PlainCommand) (asked : Asked) → o ≡ Some asked → submitted_if o c ≡ []
submits_none None c asked same = let bad : ⊥ = cc in absurd bad
submits_none (Some x) c asked same = refl

starts_next : (r : Request) (orders : List PlainCommand) (u : Progress) → IsOut r u.client → (u.begun == length orders) ≡ true → Starts r [] orders u
starts_next r orders u out full = record {
  out = λ moment. out_next r orders u u.client.asked moment out.0 out.1.0 refl out.1.1;
  full = λ moment. full_next orders u u.client.asked moment out.0 out.1.0 full;
  submits = submits_none u.client.asked (given_in orders u) out.0 out.1.0;
}

-- a turn that goes on, and what comes behind it
module _ (r : Request) (cs : List PlainCommand) (orders : List PlainCommand) (s : Progress) (t : OrderTurned) (ts : List OrderTurned) (last : OrderTurned)
    (starts : Starts r cs orders s) (on : (order_turn orders s t).end ≡ None) (quiet : IsQuiet orders s t) where
  abbrev next : Progress
  next = (order_turn orders s t).state

  abbrev here : List Act
  here = turn_acts orders s t

  abbrev rest : List Act
  rest = list_acts orders (order_turn orders s t).state (ts ++ last ∷ [])

  goes : Came r (ended_in s.client here) (NoneLost here) (λ (req : ℕ). GaveUp req s.client here) next.client None
  goes =
      subst (λ (e : Option AcqEnd). Came r (ended_in s.client here) (NoneLost here) (λ (req : ℕ). GaveUp req s.client here) next.client e) on
      (turn_came r cs orders s t starts quiet).1

  next_starts : Starts r [] orders next
  next_starts = starts_next r orders next goes.0 (starts.full t.moment)

  behind_is : next.client ≡ behind_all s.client here
  behind_is = turn_behind orders s t quiet

  more_came : ListCame r [] next.client rest (orders_after orders next (ts ++ last ∷ [])).client (order_turn orders (orders_after orders next ts) last).end
      → ListCame r cs s.client (here ++ rest) (orders_after orders next (ts ++ last ∷ [])).client (order_turn orders (orders_after orders next ts) last).end
  more_came later = (
    submitted-append s.client here rest
        ∙ (ap (λ (l : List PlainCommand). l ++ submitted_in (behind_all s.client here) rest) (turn_came r cs orders s t starts quiet).0
        ∙ (ap (λ (l : List PlainCommand). cs ++ l) (ap (λ (x : Client). submitted_in x rest) (sym behind_is) ∙ later.0) ∙ append-nil cs)),
    came_so r (ended_in next.client rest) (ended_in s.client (here ++ rest)) (NoneLost rest) (NoneLost (here ++ rest)) (λ (req : ℕ). GaveUp req next.client rest)
        (λ (req : ℕ). GaveUp req s.client (here ++ rest)) (orders_after orders next (ts ++ last ∷ [])).client (order_turn orders (orders_after orders next ts) last).end
        (ended-append s.client here rest
        ∙ (ap (λ (l : List Ended). l ++ ended_in (behind_all s.client here) rest) goes.1 ∙ ap (λ (x : Client). ended_in x rest) (sym behind_is)))
        (λ whole. whole_both here rest goes.2 whole)
        (λ req gave. gave_later req s.client here rest goes.2 (subst (λ (x : Client). GaveUp req x rest) behind_is gave)) later.1,
  )

pub list_came : (r : Request) (cs : List PlainCommand) (orders : List PlainCommand) (s : Progress) (before : List OrderTurned) (last : OrderTurned) → Starts r cs orders s
    → OrdersGoOn orders s before → AreQuiet orders s (before ++ last ∷ [])
    → ListCame r cs s.client (list_acts orders s (before ++ last ∷ [])) (orders_after orders s (before ++ last ∷ [])).client
    (order_turn orders (orders_after orders s before) last).end
list_came r cs orders s [] last starts on quiet =
    subst (λ (l : List Act). ListCame r cs s.client l (order_turn orders s last).state.client (order_turn orders s last).end)
    (sym (append-nil (turn_acts orders s last))) (turn_came r cs orders s last starts quiet.0)
list_came r cs orders s (t ∷ ts) last starts on quiet =
    more_came r cs orders s t ts last starts on.0 quiet.0
    (list_came r [] orders (order_turn orders s t).state ts last (next_starts r cs orders s t ts last starts on.0 quiet.0) on.1 quiet.1)

list_asks : (orders : List PlainCommand) (s : Progress) (ts : List OrderTurned) → asked_in (list_acts orders s ts) ≡ []
list_asks orders s [] = refl
list_asks orders s (t ∷ ts) =
    asked-append (turn_acts orders s t) (list_acts orders (order_turn orders s t).state ts)
    ∙ (ap (λ (l : List (List ℕ)). l ++ asked_in (list_acts orders (order_turn orders s t).state ts)) (gets_ask t.heard t.moment)
    ∙ list_asks orders (order_turn orders s t).state ts)

-- ---- how a list begins

-- a command is submitted to a client that has none outstanding
pub submit_out : (s : Client) (c : PlainCommand) (moment : ℕ) (o : Option Asked) → o ≡ None → IsOut (new_request (next_req s.last_req) c) (submitted_with o s c moment)
submit_out s c moment None idle = (_, (refl, refl))
submit_out s c moment (Some asked) idle = let bad : ⊥ = cc in absurd bad

one_out : (s : Client) (c : PlainCommand) (moment : ℕ) (o : Option Asked) → o ≡ None → s.asked ≡ o
    → IsOut (new_request (next_req s.last_req) c) (next_with o (c ∷ []) (progress s 0) moment).state.client
one_out s c moment None idle is = submit_out s c moment s.asked is
one_out s c moment (Some asked) idle is = let bad : ⊥ = cc in absurd bad

one_full : (s : Client) (c : PlainCommand) (moment : ℕ) (o : Option Asked) → o ≡ None
    → ((next_with o (c ∷ []) (progress s 0) moment).state.begun == length (c ∷ [])) ≡ true
one_full s c moment None idle = refl
one_full s c moment (Some asked) idle = let bad : ⊥ = cc in absurd bad

one_submits : (o : Option Asked) (c : PlainCommand) → o ≡ None → submitted_if o (given_at o (Some c)) ≡ c ∷ []
one_submits None c idle = refl
one_submits (Some asked) c idle = let bad : ⊥ = cc in absurd bad

one_starts : (s : Client) (c : PlainCommand) → s.asked ≡ None → Starts (new_request (next_req s.last_req) c) (c ∷ []) (c ∷ []) (progress s 0)
one_starts s c idle = record {
  out = λ moment. one_out s c moment s.asked idle refl;
  full = λ moment. one_full s c moment s.asked idle;
  submits = one_submits s.asked c idle;
}

-- ---- a step

-- the request is that of the step's command; this is known of one that was outstanding before
abbrev pub ForStep : (Request → Type 0) → Step → Request → Type 0
ForStep P step.Ask r = r ≡ new_request r.req (read_of CCP)
ForStep P (step.Read register) r = r ≡ new_request r.req (read_of register)
ForStep P (step.Write register value) r = r ≡ new_request r.req (write_of register value)
ForStep P (step.Stop register value) r = r ≡ new_request r.req (write_of register value)
ForStep P (step.Await beats) r = P r

-- what is outstanding is so
abbrev pub Outs : (Request → Type 0) → Client → Type 0
Outs P s = (asked : Asked) → s.asked ≡ Some asked → P (request_of asked)

pub record StepCame (P : Request → Type 0) (camera : Address) (s : Step) (o n : ControlSide) (end : AcqEnd) : Type 0 where
  pub acts : List Act
  pub acted : HasActed camera o n acts
  pub submitted : submitted_in o.client acts ≡ commands_in s
  pub unasked : asked_in acts ≡ []
  pub request : Request
  pub for_step : ForStep P s request
  pub came : Came request (ended_in o.client acts) (NoneLost acts) (λ (req : ℕ). GaveUp req o.client acts) n.client (Some end)

from_start : (P : Request → Type 0) (camera : Address) (s : Step) (o n : ControlSide) (end : AcqEnd) (r : Request) (carried : CarriesOut camera (commands_in s) o n end)
    → Starts r (commands_in s) (commands_in s) (progress o.client 0) → ForStep P s r → StepCame P camera s o n end
from_start P camera s o n end r carried starts for_step = record {
  acts = list_acts (commands_in s) (progress o.client 0) (carried.before ++ carried.last ∷ []);
  acted = carried_acted camera (commands_in s) o n end carried;
  submitted = all.0;
  unasked = list_asks (commands_in s) (progress o.client 0) (carried.before ++ carried.last ∷ []);
  request = r;
  for_step = for_step;
  came =
      subst (λ (u : Client). Came r (ended_in o.client acts) (NoneLost acts) (λ (req : ℕ). GaveUp req o.client acts) u (Some end)) (sym carried.client)
      (subst (λ (e : Option AcqEnd). Came r (ended_in o.client acts) (NoneLost acts) (λ (req : ℕ). GaveUp req o.client acts)
      (orders_after (commands_in s) (progress o.client 0) (carried.before ++ carried.last ∷ [])).client e) carried.ended all.1);
}
  where
    acts : List Act
    acts = list_acts (commands_in s) (progress o.client 0) (carried.before ++ carried.last ∷ [])

    all : ListCame r (commands_in s) o.client acts (orders_after (commands_in s) (progress o.client 0) (carried.before ++ carried.last ∷ [])).client
        (order_turn (commands_in s) (orders_after (commands_in s) (progress o.client 0) carried.before) carried.last).end
    all = list_came r (commands_in s) (commands_in s) (progress o.client 0) carried.before carried.last starts carried.on (carried_quiet camera (commands_in s) o n end carried)

asked_there : (o : Option Asked) → IsSome o → (asked : Asked) × (o ≡ Some asked)
asked_there None some = absurd (cc)
asked_there (Some asked) some = (asked, refl)

pub step_came : (P : Request → Type 0) (camera : Address) (s : Step) (o n : ControlSide) (end : AcqEnd) → Makes camera s o n end → Outs P o.client → StepCame P camera s o n end
step_came P camera step.Ask o n end makes outs = from_start P camera step.Ask o n end _ makes.carried (one_starts o.client (read_of CCP) makes.ready) refl
step_came P camera (step.Read register) o n end makes outs =
    from_start P camera (step.Read register) o n end _ makes.carried (one_starts o.client (read_of register) makes.ready) refl
step_came P camera (step.Write register value) o n end makes outs =
    from_start P camera (step.Write register value) o n end _ makes.carried (one_starts o.client (write_of register value) makes.ready) refl
step_came P camera (step.Stop register value) o n end makes outs =
    from_start P camera (step.Stop register value) o n end _ makes.carried (one_starts o.client (write_of register value) makes.ready) refl
step_came P camera (step.Await beats) o n end makes outs =
    let there : (asked : Asked) × (o.client.asked ≡ Some asked) = asked_there o.client.asked makes.ready in
    from_start P camera (step.Await beats) o n end (request_of there.0) makes.carried
    (starts_next (request_of there.0) [] (progress o.client 0) (there.0, (there.1, refl)) refl) (outs there.0 there.1)

-- ---- an acknowledge of it

-- the acknowledge ended the step's command
abbrev pub AnswersStep : (Request → Type 0) → Step → Ended → Type 0
AnswersStep P step.Ask e = Answers (read_of CCP) e
AnswersStep P (step.Read register) e = Answers (read_of register) e
AnswersStep P (step.Write register value) e = Answers (write_of register value) e
AnswersStep P (step.Stop register value) e = Answers (write_of register value) e
AnswersStep P (step.Await beats) e = P (request_of e.asked)

answers_for : (c : PlainCommand) (r : Request) (e : Ended) → request_of e.asked ≡ r → r ≡ new_request r.req c → Answers c e
answers_for c r e is for_it = subst (λ (x : Request). x ≡ new_request x.req c) (sym is) for_it

pub answers_step : (P : Request → Type 0) (s : Step) (r : Request) (e : Ended) → request_of e.asked ≡ r → ForStep P s r → AnswersStep P s e
answers_step P step.Ask r e is for_it = answers_for (read_of CCP) r e is for_it
answers_step P (step.Read register) r e is for_it = answers_for (read_of register) r e is for_it
answers_step P (step.Write register value) r e is for_it = answers_for (write_of register value) r e is for_it
answers_step P (step.Stop register value) r e is for_it = answers_for (write_of register value) r e is for_it
answers_step P (step.Await beats) r e is for_it = subst P (sym is) for_it
