-- The turns in which a list of commands is carried out are acts of the client.
use Rattle.std.proofs.Common.{◌≡◌, inl, ℕ, Bool, true, false, List, [], ◌∷◌, ◌++◌, Option, Some, None, refl, ap, sym, subst, ◌∙◌}
use Rattle.std.proofs.lemmas.List.{append-nil}
use Rattle.std.specs.Prelude.{⊤, is_some, slice_get, length, option_map, if◌then◌else◌, nat_lt}
use Rattle.gvcp_wire.specs.Messages.{PlainCommand}
use Rattle.client_machine.specs.declared.outcome.Outcome.{Outcome}
use Rattle.client_machine.specs.declared.outcome.Outcome.TheVariants.{Waiting, Idle, Acked, Refused, NoAnswer}
use Rattle.client_machine.specs.Times.{SENDS}
use Rattle.client_machine.specs.Commands.{heartbeat}
use Rattle.client_machine.specs.Machine.{Asked, Client, outcome_after, goes_on, with_command, is_heartbeat_due, is_late, sent_again, ticked_with, ticked, to_send, not_waiting, taken}
use Rattle.client_machine.specs.Events.{Event, ticks}
use Rattle.gev_links.specs.Links.{Address, Answer, nothing, failed, came, Adds}
use Rattle.gev_control.specs.declared.turn_end.TurnEnd.{TurnEnd}
use Rattle.gev_control.specs.declared.turn_end.TurnEnd.TheVariants as ends
use Rattle.gev_control.specs.declared.acq_end.AcqEnd.{AcqEnd}
use Rattle.gev_control.specs.declared.acq_end.AcqEnd.TheVariants as how
use Rattle.gev_control.specs.Controlled.{after_tick, listed}
use Rattle.gev_control.specs.OrderTurns.{Progress, progress, OrderTurned, submits_next, next_with, next_part, hears_order, ticked_order, after_send, order_turn, sent_if_heard, MayHear, IsHeardBy}
use Rattle.gev_control.specs.CarriesOut.{ControlSide, orders_after, OrdersGoOn, orders_sent, order_heards, order_moments, CarriesOut}
use Rattle.gev_control.specs.Sends.{addressed}
use Rattle.gev_control.specs.OrderLaws.{tick_outcome}
use Rattle.gev_control.proofs.OrderEnds.{ends_as_told}
use Rattle.live_promises.specs.Moves.{Move, sends_all, moves_sent, moves_heard, datagrams}
use Rattle.live_promises.proofs.Links.{sent-append, heard-append, datagrams-append}
use Rattle.live_promises.specs.Acts.{Act, turns, gets, with_given, clocked, behind_all, sent_if, moves_in, AreTimed, HasActed}
use Rattle.live_promises.proofs.Acting.{behind-append, moves-append, timed_both}

-- ---- acts

-- the next command, where none is outstanding
abbrev pub given_at : Option Asked → Option PlainCommand → Option PlainCommand
given_at None c = c
given_at (Some asked) c = None

-- a datagram that came
abbrev pub gets_of : Option Answer → ℕ → List Act
gets_of None moment = []
gets_of (Some nothing) moment = []
gets_of (Some failed) moment = []
gets_of (Some (came bytes peer)) moment = gets bytes moment ∷ []

abbrev pub given_in : List PlainCommand → Progress → Option PlainCommand
given_in orders s = given_at s.client.asked (slice_get orders s.begun)

abbrev pub turn_acts : List PlainCommand → Progress → OrderTurned → List Act
turn_acts orders s t = turns (given_in orders s) t.moment (is_some t.heard) ∷ gets_of t.heard t.moment

abbrev pub list_acts : List PlainCommand → Progress → List OrderTurned → List Act
list_acts orders s [] = []
list_acts orders s (t ∷ ts) = turn_acts orders s t ++ list_acts orders (order_turn orders s t).state ts

-- ---- a tick that gives its command up

not_up : (o : Option Asked) (req : ℕ) → outcome_after o ≡ NoAnswer req → ⊥
not_up None req is = cc
not_up (Some asked) req is = cc

up_late : (s : Client) (moment : ℕ) (asked : Asked) (more late : Bool) (req : ℕ)
    → (if late then
    (if more then goes_on (record s { asked = Some (sent_again s.limit asked moment) })
    else record { client = record s { asked = None }; outcome = NoAnswer asked.req })
    else goes_on s).outcome ≡ NoAnswer req
    → (if late then
    (if more then goes_on (record s { asked = Some (sent_again s.limit asked moment) })
    else record { client = record s { asked = None }; outcome = NoAnswer asked.req })
    else goes_on s).client.asked ≡ None
up_late s moment asked true true req is = absurd (not_up (Some (sent_again s.limit asked moment)) req is)
up_late s moment asked false true req is = refl
up_late s moment asked more false req is = absurd (not_up s.asked req is)

up_idle : (s : Client) (moment : ℕ) (o : Option Asked) (req : ℕ) → (ticked_with o s moment).outcome ≡ NoAnswer req → (ticked_with o s moment).client.asked ≡ None
up_idle s moment None req is = absurd (not_up (if is_heartbeat_due s.ended moment then with_command s heartbeat moment else s).asked req is)
up_idle s moment (Some asked) req is = up_late s moment asked (nat_lt asked.sends SENDS) (is_late asked moment) req is

pub given_up_idle : (s : Client) (moment req : ℕ) → (ticked s moment).outcome ≡ NoAnswer req → (ticked s moment).client.asked ≡ None
given_up_idle s moment req is = up_idle s moment s.asked req is

pub taken_idle : (s : Client) → s.asked ≡ None → taken s ≡ s
taken_idle s idle =
    ap (λ (o : Option Asked). record s { asked = option_map not_waiting o }) idle ∙ ap (λ (o : Option Asked). record s { asked = o }) (sym idle)

-- ---- a turn

-- where the command had no answer there is no receive
abbrev pub IsQuiet : List PlainCommand → Progress → OrderTurned → Type 0
IsQuiet orders s t = (req : ℕ) → tick_outcome orders s t ≡ NoAnswer req → t.heard ≡ None

next_none : (s : Progress) (moment : ℕ) (c : Option PlainCommand) → (submits_next c s moment).state.client ≡ with_given c s.client moment
next_none s moment None = refl
next_none s moment (Some c) = refl

next_with_is : (orders : List PlainCommand) (s : Progress) (moment : ℕ) (o : Option Asked)
    → (next_with o orders s moment).state.client ≡ with_given (given_at o (slice_get orders s.begun)) s.client moment
next_with_is orders s moment None = next_none s moment (slice_get orders s.begun)
next_with_is orders s moment (Some asked) = refl

pub next_is : (orders : List PlainCommand) (s : Progress) (moment : ℕ) → (next_part orders s moment).state.client ≡ with_given (given_in orders s) s.client moment
next_is orders s moment = next_with_is orders s moment s.client.asked

heard_behind : (size : ℕ) (s : Client) (begun moment : ℕ) (heard : Option Answer) → (hears_order size s begun moment heard).client ≡ behind_all s (gets_of heard moment)
heard_behind size s begun moment None = refl
heard_behind size s begun moment (Some nothing) = refl
heard_behind size s begun moment (Some failed) = refl
heard_behind size s begun moment (Some (came bytes peer)) = refl

-- by the outcome of the tick
after_behind : (size begun : ℕ) (es : List Event) (c : Client) (o : Outcome) (t : OrderTurned) → ((req : ℕ) → o ≡ NoAnswer req → (t.heard ≡ None) × (c.asked ≡ None))
    → (after_send size (after_tick es c o).end (after_tick es c o) begun t).client ≡ behind_all (taken c) (gets_of t.heard t.moment)
after_behind size begun es c (Waiting req) t quiet = heard_behind size (taken c) begun t.moment t.heard
after_behind size begun es c Idle t quiet = heard_behind size (taken c) begun t.moment t.heard
after_behind size begun es c Acked t quiet = heard_behind size (taken c) begun t.moment t.heard
after_behind size begun es c (Refused status) t quiet = heard_behind size (taken c) begun t.moment t.heard
after_behind size begun es c (NoAnswer req) t quiet =
    let q : (t.heard ≡ None) × (c.asked ≡ None) = quiet req refl in
    sym (ap (λ (h : Option Answer). behind_all (taken c) (gets_of h t.moment)) q.0 ∙ taken_idle c q.1)

heard_sent : (heard : Option Answer) (send : Option (List ℕ)) → sent_if_heard heard send ≡ sent_if (is_some heard) send
heard_sent None send = refl
heard_sent (Some answer) send = refl

after_sent : (es : List Event) (c : Client) (o : Outcome) (heard : Option Answer) → ((req : ℕ) → o ≡ NoAnswer req → (heard ≡ None) × (c.asked ≡ None))
    → sent_if_heard heard (after_tick es c o).send ≡ sent_if (is_some heard) (to_send c.asked)
after_sent es c (Waiting req) heard quiet = heard_sent heard (to_send c.asked)
after_sent es c Idle heard quiet = heard_sent heard (to_send c.asked)
after_sent es c Acked heard quiet = heard_sent heard (to_send c.asked)
after_sent es c (Refused status) heard quiet = heard_sent heard (to_send c.asked)
after_sent es c (NoAnswer req) heard quiet =
    let none : heard ≡ None = (quiet req refl).0 in
    ap (λ (h : Option Answer). sent_if_heard h None) none ∙ ap (λ (h : Option Answer). sent_if (is_some h) (to_send c.asked)) (sym none)

all_sent : (xs : List (List ℕ)) → moves_sent (sends_all xs) ≡ xs
all_sent [] = refl
all_sent (x ∷ xs) = ap (λ (l : List (List ℕ)). x ∷ l) (all_sent xs)

none_heard : (xs : List (List ℕ)) → moves_heard (sends_all xs) ≡ []
none_heard [] = refl
none_heard (x ∷ xs) = none_heard xs

pub gets_sent : (s : Client) (heard : Option Answer) (moment : ℕ) → moves_sent (moves_in s (gets_of heard moment)) ≡ []
gets_sent s None moment = refl
gets_sent s (Some nothing) moment = refl
gets_sent s (Some failed) moment = refl
gets_sent s (Some (came bytes peer)) moment = refl

pub gets_heard : (s : Client) (heard : Option Answer) (moment : ℕ) → moves_heard (moves_in s (gets_of heard moment)) ≡ datagrams (listed heard)
gets_heard s None moment = refl
gets_heard s (Some nothing) moment = refl
gets_heard s (Some failed) moment = refl
gets_heard s (Some (came bytes peer)) moment = refl

-- what a tick sends, and what comes behind it
pub ticks_sent : (s : Client) (xs : List (List ℕ)) (rest : List Move) → moves_sent rest ≡ [] → moves_sent (sends_all xs ++ rest) ≡ xs
ticks_sent s xs rest none = sent-append (sends_all xs) rest ∙ (ap (λ (l : List (List ℕ)). l ++ moves_sent rest) (all_sent xs) ∙ (ap (λ (l : List (List ℕ)). xs ++ l) none ∙ append-nil xs))

pub ticks_heard : (xs : List (List ℕ)) (rest : List Move) → moves_heard (sends_all xs ++ rest) ≡ moves_heard rest
ticks_heard xs rest = heard-append (sends_all xs) rest ∙ ap (λ (l : List (List ℕ)). l ++ moves_heard rest) (none_heard xs)

pub gets_timed : (heard : Option Answer) (moment : ℕ) → AreTimed (moment ∷ []) (gets_of heard moment)
gets_timed None moment = tt
gets_timed (Some nothing) moment = tt
gets_timed (Some failed) moment = tt
gets_timed (Some (came bytes peer)) moment = (inl refl, tt)

module _ (orders : List PlainCommand) (s : Progress) (t : OrderTurned) (quiet : IsQuiet orders s t) where
  abbrev k : Client
  k = (next_part orders s t.moment).state.client

  abbrev given : Client
  given = with_given (given_in orders s) s.client t.moment

  both_quiet : (req : ℕ) → (ticked k t.moment).outcome ≡ NoAnswer req → (t.heard ≡ None) × ((ticked k t.moment).client.asked ≡ None)
  both_quiet req is = (quiet req is, given_up_idle k t.moment req is)

  pub turn_behind : (order_turn orders s t).state.client ≡ behind_all s.client (turn_acts orders s t)
  turn_behind =
      after_behind (length orders) (next_part orders s t.moment).state.begun (ticks t.moment ∷ []) (ticked k t.moment).client (ticked k t.moment).outcome t both_quiet
      ∙ ap (λ (x : Client). behind_all (taken (ticked x t.moment).client) (gets_of t.heard t.moment)) (next_is orders s t.moment)

  pub turn_sent : sent_if_heard t.heard (order_turn orders s t).send ≡ moves_sent (moves_in s.client (turn_acts orders s t))
  turn_sent =
      after_sent (ticks t.moment ∷ []) (ticked k t.moment).client (ticked k t.moment).outcome t.heard both_quiet
      ∙ (ap (λ (x : Client). sent_if (is_some t.heard) (to_send (ticked x t.moment).client.asked)) (next_is orders s t.moment)
      ∙ sym
      (ticks_sent s.client (sent_if (is_some t.heard) (to_send (clocked s.client (given_in orders s) t.moment).client.asked))
      (moves_in (taken (clocked s.client (given_in orders s) t.moment).client) (gets_of t.heard t.moment))
      (gets_sent (taken (clocked s.client (given_in orders s) t.moment).client) t.heard t.moment)))

  pub turn_heard : datagrams (listed t.heard) ≡ moves_heard (moves_in s.client (turn_acts orders s t))
  turn_heard =
      sym
      (ticks_heard (sent_if (is_some t.heard) (to_send (clocked s.client (given_in orders s) t.moment).client.asked))
      (moves_in (taken (clocked s.client (given_in orders s) t.moment).client) (gets_of t.heard t.moment))
      ∙ gets_heard (taken (clocked s.client (given_in orders s) t.moment).client) t.heard t.moment)

-- ---- turns

abbrev pub AreQuiet : List PlainCommand → Progress → List OrderTurned → Type 0
AreQuiet orders s [] = ⊤
AreQuiet orders s (t ∷ ts) = IsQuiet orders s t × AreQuiet orders (order_turn orders s t).state ts

pub list_behind : (orders : List PlainCommand) (s : Progress) (ts : List OrderTurned) → AreQuiet orders s ts
    → (orders_after orders s ts).client ≡ behind_all s.client (list_acts orders s ts)
list_behind orders s [] quiet = refl
list_behind orders s (t ∷ ts) quiet =
    list_behind orders (order_turn orders s t).state ts quiet.1
    ∙ (ap (λ (x : Client). behind_all x (list_acts orders (order_turn orders s t).state ts)) (turn_behind orders s t quiet.0)
    ∙ sym (behind-append s.client (turn_acts orders s t) (list_acts orders (order_turn orders s t).state ts)))

pub list_sent : (orders : List PlainCommand) (s : Progress) (ts : List OrderTurned) → AreQuiet orders s ts
    → orders_sent orders s ts ≡ moves_sent (moves_in s.client (list_acts orders s ts))
list_sent orders s [] quiet = refl
list_sent orders s (t ∷ ts) quiet =
    let rest : List Act = list_acts orders (order_turn orders s t).state ts in
    ap (λ (l : List (List ℕ)). l ++ orders_sent orders (order_turn orders s t).state ts) (turn_sent orders s t quiet.0)
    ∙ (ap (λ (l : List (List ℕ)). moves_sent (moves_in s.client (turn_acts orders s t)) ++ l)
    (list_sent orders (order_turn orders s t).state ts quiet.1 ∙ ap (λ (x : Client). moves_sent (moves_in x rest)) (turn_behind orders s t quiet.0))
    ∙ (sym (sent-append (moves_in s.client (turn_acts orders s t)) (moves_in (behind_all s.client (turn_acts orders s t)) rest))
    ∙ ap moves_sent (sym (moves-append s.client (turn_acts orders s t) rest))))

pub list_heard : (orders : List PlainCommand) (s : Progress) (ts : List OrderTurned) → AreQuiet orders s ts
    → datagrams (order_heards ts) ≡ moves_heard (moves_in s.client (list_acts orders s ts))
list_heard orders s [] quiet = refl
list_heard orders s (t ∷ ts) quiet =
    let rest : List Act = list_acts orders (order_turn orders s t).state ts in
    datagrams-append (listed t.heard) (order_heards ts)
    ∙ (ap (λ (l : List (List ℕ)). l ++ datagrams (order_heards ts)) (turn_heard orders s t quiet.0)
    ∙ (ap (λ (l : List (List ℕ)). moves_heard (moves_in s.client (turn_acts orders s t)) ++ l)
    (list_heard orders (order_turn orders s t).state ts quiet.1 ∙ ap (λ (x : Client). moves_heard (moves_in x rest)) (turn_behind orders s t quiet.0))
    ∙ (sym (heard-append (moves_in s.client (turn_acts orders s t)) (moves_in (behind_all s.client (turn_acts orders s t)) rest))
    ∙ ap moves_heard (sym (moves-append s.client (turn_acts orders s t) rest)))))

pub list_timed : (orders : List PlainCommand) (s : Progress) (ts : List OrderTurned) → AreTimed (order_moments ts) (list_acts orders s ts)
list_timed orders s [] = tt
list_timed orders s (t ∷ ts) =
    timed_both (t.moment ∷ []) (order_moments ts) (turn_acts orders s t) (list_acts orders (order_turn orders s t).state ts) (inl refl, gets_timed t.heard t.moment)
    (list_timed orders (order_turn orders s t).state ts)

-- ---- a list that was carried out

-- a turn behind which the list goes on
on_quiet : (orders : List PlainCommand) (s : Progress) (t : OrderTurned) → (order_turn orders s t).end ≡ None → IsQuiet orders s t
on_quiet orders s t on req is = let bad : None ≡ Some (how.NoAnswer req) = sym on ∙ ((ends_as_told orders s t).no_answer req).1 is in cc

last_quiet : (orders : List PlainCommand) (s : Progress) (t : OrderTurned) → IsHeardBy orders s t → IsQuiet orders s t
last_quiet orders s t may req is =
    let k : Client = (next_part orders s t.moment).state.client in
    let up : (ticked_order orders s t.moment).end ≡ ends.NoAnswer req = ap (λ (o : Outcome). (after_tick (ticks t.moment ∷ []) (ticked k t.moment).client o).end) is in
    subst (λ (x : TurnEnd). MayHear x (ticked_order orders s t.moment).send t.heard) up may

quiet_all : (orders : List PlainCommand) (s : Progress) (before : List OrderTurned) (last : OrderTurned) → OrdersGoOn orders s before
    → IsHeardBy orders (orders_after orders s before) last → AreQuiet orders s (before ++ last ∷ [])
quiet_all orders s [] last on may = (last_quiet orders s last may, tt)
quiet_all orders s (t ∷ ts) last on may = (on_quiet orders s t on.0, quiet_all orders (order_turn orders s t).state ts last on.1 may)

module _ (camera : Address) (orders : List PlainCommand) (o n : ControlSide) (end : AcqEnd) (carried : CarriesOut camera orders o n end) where
  abbrev pub all_turns : List OrderTurned
  all_turns = carried.before ++ carried.last ∷ []

  pub carried_quiet : AreQuiet orders (progress o.client 0) all_turns
  carried_quiet = quiet_all orders (progress o.client 0) carried.before carried.last carried.on carried.may_hear

  pub carried_acted : HasActed camera o n (list_acts orders (progress o.client 0) all_turns)
  carried_acted = record {
    client = carried.client ∙ list_behind orders (progress o.client 0) all_turns carried_quiet;
    answers = order_heards all_turns;
    heard = carried.heard;
    came = list_heard orders (progress o.client 0) all_turns carried_quiet;
    sent = subst (λ (l : List (List ℕ)). Adds o.sent n.sent (addressed camera l)) (list_sent orders (progress o.client 0) all_turns carried_quiet) carried.sent;
    moments = order_moments all_turns;
    told = carried.told;
    timed = list_timed orders (progress o.client 0) all_turns;
  }
