-- The turns stop where the last command is acknowledged, and no sooner.
use Rattle.std.proofs.Common.{◌≡◌, ◌⊎◌, ℕ, zero, suc, ◌+◌, ◌<◌, ◌≤◌, Bool, true, false, List, [], ◌∷◌, ◌++◌, Option, Some, None, Result, Ok, Err, refl, ap, sym, ◌∙◌, inl, inr, subst, arith, zero-add}
use Rattle.std.proofs.lemmas.List.{append-nil}
use Rattle.std.proofs.lemmas.Bool.{eqb-true, eqb-false}
use Rattle.std.specs.Prelude.{◌↔◌, ◌≢◌, ◌==◌, if◌then◌else◌, nat_lt, slice_get, option_map, length, IsSome}
use Rattle.gvcp_wire.specs.declared.message.ControlError.{ControlError}
use Rattle.gvcp_wire.specs.Messages.{PlainCommand, PlainAck}
use Rattle.gvcp_wire.specs.Reading.{ack_reading}
use Rattle.gvcp_wire.specs.BodyReading.{pending_reading}
use Rattle.client_machine.specs.declared.outcome.Outcome.{Outcome}
use Rattle.client_machine.specs.declared.outcome.Outcome.TheVariants.{Waiting, Acked, Refused, NoAnswer}
use Rattle.client_machine.specs.Times.{SENDS}
use Rattle.client_machine.specs.Commands.{is_match}
use Rattle.client_machine.specs.Machine.{Asked, Client, Told, new_client, goes_on, outcome_after, submitted_with, is_late, sent_again, ticked_with, ticked, not_waiting, taken, pended, longer, ended_by, received_ack, received_as, received}
use Rattle.client_machine.specs.Events.{Event, ticks, receives}
use Rattle.client_machine.specs.Setup.{setup_commands}
use Rattle.gev_links.specs.Links.{Address, Answer, nothing, failed, came}
use Rattle.gev_control.specs.declared.acq_end.AcqEnd.{AcqEnd}
use Rattle.gev_control.specs.declared.acq_end.AcqEnd.TheVariants as how
use Rattle.gev_control.specs.Controlled.{after_tick}
use Rattle.gev_control.specs.OrderTurns.{Progress, progress, OrderTurned, OrderHeard, submits_next, next_with, next_part, end_at, hears_order, after_send, order_turn}
use Rattle.gev_control.specs.CarriesOut.{HasToWait, orders_after, OrdersGoOn}
use Rattle.gev_control.specs.OrderLaws.{acks, acks_in, tick_outcome, outcomes_of, outcomes_after, heard_outcomes, order_outcomes, outstanding, StopsAtTheLast, WaitsForEach}
use Rattle.gev_control.specs.SetupTurns.{SetupTurned}
use Rattle.gev_control.specs.SetupLaws.{StopsWhenAcknowledged}

-- Of so many commands so many were submitted, and `base` before them. So many were acknowledged: all that were
-- submitted, or all but the one that is outstanding.
abbrev Counts : ℕ → ℕ → Option Asked → ℕ → ℕ → Type 0
Counts size base None acked begun = (acked ≡ begun + base) × (begun < size)
Counts size base (Some asked) acked begun = (acked + 1 ≡ begun + base) × (begun ≤ size)

-- a command is outstanding
record IsOut (size base : ℕ) (c : Client) (acked begun : ℕ) : Type 0 where
  asked : Asked
  is : c.asked ≡ Some asked
  counts : Counts size base (Some asked) acked begun

-- ---- the next command

command_at : (orders : List PlainCommand) (n : ℕ) → n < length orders → (c : PlainCommand) × (slice_get orders n ≡ Some c)
command_at [] n few = absurd (omega (arith, few))
command_at (c ∷ cs) zero few = (c, refl)
command_at (c ∷ cs) (suc n) few = command_at cs n (omega (arith, few))

asks_then : (o : Option Asked) (s : Client) (c : PlainCommand) (moment : ℕ) → o ≡ None → (asked : Asked) × ((submitted_with o s c moment).asked ≡ Some asked)
asks_then None s c moment idle = (_, refl)
asks_then (Some asked) s c moment idle = let bad : ⊥ = cc in absurd bad

next_out : (size base : ℕ) (s : Progress) (moment acked : ℕ) (c : Option PlainCommand) (known : PlainCommand) → c ≡ Some known → s.client.asked ≡ None
    → acked ≡ s.begun + base → s.begun < size → IsOut size base (submits_next c s moment).state.client acked (submits_next c s moment).state.begun
next_out size base s moment acked None known is idle same few = let no : ⊥ = cc in absurd no
next_out size base s moment acked (Some c) known is idle same few = record {
  asked = (asks_then s.client.asked s.client c moment idle).0;
  is = (asks_then s.client.asked s.client c moment idle).1;
  counts = (omega (arith, same), omega (arith, few));
}

begin_out : (base : ℕ) (orders : List PlainCommand) (s : Progress) (moment acked : ℕ) (o : Option Asked) → s.client.asked ≡ o
    → Counts (length orders) base o acked s.begun
    → IsOut (length orders) base (next_with o orders s moment).state.client acked (next_with o orders s moment).state.begun
begin_out base orders s moment acked None idle counts =
    let c = command_at orders s.begun counts.1 in
    next_out (length orders) base s moment acked (slice_get orders s.begun) c.0 c.1 idle counts.0 counts.1
begin_out base orders s moment acked (Some asked) is counts = record { asked = asked; is = is; counts = counts }

-- ---- the tick

-- the command waits on
pub record StillAsks (told : Told) : Type 0 where
  pub asked : Asked
  pub is : told.client.asked ≡ Some asked
  pub waits : told.outcome ≡ Waiting asked.req

abbrev pub TickEnds : Told → Type 0
TickEnds told = StillAsks told ⊎ ((req : ℕ) × (told.outcome ≡ NoAnswer req))

still : (s : Client) (asked : Asked) → s.asked ≡ Some asked → StillAsks (goes_on s)
still s asked is = record { asked = asked; is = is; waits = ap outcome_after is }

tick_late : (s : Client) (moment : ℕ) (asked : Asked) (more late : Bool) → s.asked ≡ Some asked
    → TickEnds (if late then
    (if more then goes_on (record s { asked = Some (sent_again s.limit asked moment) })
    else record { client = record s { asked = None }; outcome = NoAnswer asked.req })
    else goes_on s)
tick_late s moment asked true true is = inl (record { asked = sent_again s.limit asked moment; is = refl; waits = refl })
tick_late s moment asked false true is = inr (asked.req, refl)
tick_late s moment asked more false is = inl (still s asked is)

pub tick_ends : (s : Client) (moment : ℕ) (asked : Asked) → s.asked ≡ Some asked → TickEnds (ticked s moment)
tick_ends s moment asked is =
    subst (λ o. TickEnds (ticked_with o s moment)) (sym is) (tick_late s moment asked (nat_lt asked.sends SENDS) (is_late asked moment) is)

-- ---- the receive

-- the command was acknowledged
pub record IsDone (told : Told) : Type 0 where
  pub acked : told.outcome ≡ Acked
  pub is : told.client.asked ≡ None

abbrev pub ReceiveEnds : Told → Type 0
ReceiveEnds told = StillAsks told ⊎ (IsDone told ⊎ ((status : ℕ) × (told.outcome ≡ Refused status)))

receive_pended : (s : Client) (asked : Asked) (time : Option ℕ) → s.asked ≡ Some asked → ReceiveEnds (pended s asked time)
receive_pended s asked None is = inl (still s asked is)
receive_pended s asked (Some time) is = inl (record { asked = longer asked time; is = refl; waits = refl })

receive_status : (c : Client) (status : ℕ) (b : Bool) → c.asked ≡ None → ReceiveEnds (record { client = c; outcome = if b then Acked else Refused status })
receive_status c status true is = inr (inl (record { acked = refl; is = is }))
receive_status c status false is = inr (inr (status, refl))

receive_answered : (s : Client) (moment : ℕ) (ack : PlainAck) (asked : Asked) (matches same : Bool) → s.asked ≡ Some asked
    → ReceiveEnds (if matches then ended_by s ack moment
    else (if same then pended s asked (pending_reading ack) else goes_on s))
receive_answered s moment ack asked true same is = receive_status (ended_by s ack moment).client ack.status (ack.status == 0) refl
receive_answered s moment ack asked false true is = receive_pended s asked (pending_reading ack) is
receive_answered s moment ack asked false false is = inl (still s asked is)

pub receive_as : (s : Client) (moment : ℕ) (asked : Asked) (reading : Result PlainAck ControlError) → s.asked ≡ Some asked → ReceiveEnds (received_as reading s moment)
receive_as s moment asked (Ok ack) is =
    subst (λ o. ReceiveEnds (received_ack o s ack moment)) (sym is)
    (receive_answered s moment ack asked (is_match asked.code asked.req ack) (ack.req == asked.req) is)
receive_as s moment asked (Err e) is = inl (still s asked is)

-- ---- a turn

-- After so many acknowledges, of which these are the turn's, the setup stops or goes on as it has to.
record EndsWell (size base acked begun : ℕ) (h : OrderHeard) (more : ℕ) : Type 0 where
  on : h.end ≡ None → Counts size base h.client.asked (acked + more) begun
  stops : (h.end ≡ Some how.Stopped) ↔ (acked + more ≡ size + base)

-- an end by anything else than an acknowledge
ends_else : (size base acked begun : ℕ) (c : Client) (es : List Event) (end : AcqEnd) → acked + 1 ≡ begun + base → begun ≤ size → end ≢ how.Stopped
    → EndsWell size base acked begun (record { events = es; client = c; end = Some end }) 0
ends_else size base acked begun c es end is few ne = record {
  on = λ e. let no : ⊥ = cc in absurd no;
  stops = (λ e. let same : end ≡ how.Stopped = cc in absurd (ne same), λ e. absurd (omega (arith, is, few, e)));
}

-- the command is outstanding still
goes_well : (size base acked begun : ℕ) (c : Client) (asked : Asked) (es : List Event) → c.asked ≡ Some asked → acked + 1 ≡ begun + base → begun ≤ size
    → EndsWell size base acked begun (record { events = es; client = c; end = None }) 0
goes_well size base acked begun c asked es is count few = record {
  on = λ e. subst (λ o. Counts size base o (acked + 0) begun) (sym is) (omega (arith, count), few);
  stops = (λ e. let no : ⊥ = cc in absurd no, λ e. absurd (omega (arith, count, few, e)));
}

-- the command was acknowledged: the last one ends the setup
acked_well : (size base acked begun : ℕ) (c : Client) (es : List Event) (last : Bool) → (begun == size) ≡ last → c.asked ≡ None → acked + 1 ≡ begun + base → begun ≤ size
    → EndsWell size base acked begun (record { events = es; client = c; end = if last then Some how.Stopped else None }) 1
acked_well size base acked begun c es true is idle count few = record {
  on = λ e. let no : ⊥ = cc in absurd no;
  stops = (λ e. omega (arith, count, eqb-true begun size is), λ e. refl);
}
acked_well size base acked begun c es false is idle count few = record {
  on = λ e. subst (λ o. Counts size base o (acked + 1) begun) (sym idle) (count, below begun (eqb-false begun size is) few);
  stops = (λ e. let no : ⊥ = cc in absurd no, λ e. absurd (eqb-false begun size is (omega (arith, count, e))));
}
  where
    below : (n : ℕ) → n ≢ size → n ≤ size → n < size
    below n ne le = omega (arith, ne, le)

received_well : (size base acked begun : ℕ) (told : Told) (es : List Event) → ReceiveEnds told → acked + 1 ≡ begun + base → begun ≤ size
    → EndsWell size base acked begun (record { events = es; client = told.client; end = end_at size begun told.outcome }) (acks told.outcome + 0)
received_well size base acked begun told es (inl asks) count few =
    subst (λ o. EndsWell size base acked begun (record { events = es; client = told.client; end = end_at size begun o }) (acks o + 0)) (sym asks.waits)
    (goes_well size base acked begun told.client asks.asked es asks.is count few)
received_well size base acked begun told es (inr (inl done)) count few =
    subst (λ o. EndsWell size base acked begun (record { events = es; client = told.client; end = end_at size begun o }) (acks o + 0)) (sym done.acked)
    (acked_well size base acked begun told.client es (begun == size) refl done.is count few)
received_well size base acked begun told es (inr (inr refused)) count few =
    subst (λ o. EndsWell size base acked begun (record { events = es; client = told.client; end = end_at size begun o }) (acks o + 0)) (sym refused.1)
    (ends_else size base acked begun told.client es (how.Refused refused.0) count few (λ e. cc))

hear_well : (size base acked begun moment : ℕ) (u : Client) (asked : Asked) (heard : Option Answer) → u.asked ≡ Some asked → acked + 1 ≡ begun + base → begun ≤ size
    → EndsWell size base acked begun (hears_order size u begun moment heard) (acks_in (outcomes_of u moment heard))
hear_well size base acked begun moment u asked None is count few = ends_else size base acked begun u [] how.Fault count few (λ e. cc)
hear_well size base acked begun moment u asked (Some failed) is count few = ends_else size base acked begun u [] how.Fault count few (λ e. cc)
hear_well size base acked begun moment u asked (Some nothing) is count few = goes_well size base acked begun u asked [] is count few
hear_well size base acked begun moment u asked (Some (came bytes peer)) is count few =
    received_well size base acked begun (received u bytes moment) (receives bytes moment ∷ []) (receive_as u moment asked (ack_reading bytes) is) count few

-- by the outcome of the tick
ticked_well : (size base acked begun : ℕ) (c : Client) (es : List Event) (t : OrderTurned) (told : Told) → told.client ≡ c → TickEnds told → acked + 1 ≡ begun + base → begun ≤ size
    → EndsWell size base acked begun (after_send size (after_tick es c told.outcome).end (after_tick es c told.outcome) begun t)
    (acks told.outcome + acks_in (outcomes_after (after_tick es c told.outcome).end (after_tick es c told.outcome).state t.moment t.heard))
ticked_well size base acked begun c es t told same (inl asks) count few =
    subst (λ o. EndsWell size base acked begun (after_send size (after_tick es c o).end (after_tick es c o) begun t)
    (acks o + acks_in (outcomes_after (after_tick es c o).end (after_tick es c o).state t.moment t.heard))) (sym asks.waits)
    (subst (EndsWell size base acked begun (hears_order size (taken c) begun t.moment t.heard)) (sym (zero-add (acks_in (outcomes_of (taken c) t.moment t.heard))))
    (hear_well size base acked begun t.moment (taken c) (not_waiting asks.asked) t.heard
    (ap (option_map not_waiting) (ap (λ (k : Client). k.asked) (sym same) ∙ asks.is)) count few))
ticked_well size base acked begun c es t told same (inr given_up) count few =
    subst (λ o. EndsWell size base acked begun (after_send size (after_tick es c o).end (after_tick es c o) begun t)
    (acks o + acks_in (outcomes_after (after_tick es c o).end (after_tick es c o).state t.moment t.heard))) (sym given_up.1)
    (ends_else size base acked begun c [] (how.NoAnswer given_up.0) count few (λ e. cc))

turn_well : (base : ℕ) (orders : List PlainCommand) (s : Progress) (t : OrderTurned) (acked : ℕ) → Counts (length orders) base s.client.asked acked s.begun
    → EndsWell (length orders) base acked (order_turn orders s t).state.begun
    (record { events = []; client = (order_turn orders s t).state.client; end = (order_turn orders s t).end })
    (acks_in (tick_outcome orders s t ∷ heard_outcomes orders s t))
turn_well base orders s t acked counts =
    let part = next_part orders s t.moment in
    let out : IsOut (length orders) base part.state.client acked part.state.begun = begin_out base orders s t.moment acked s.client.asked refl counts in
    let told : Told = ticked part.state.client t.moment in
    let well = ticked_well (length orders) base acked part.state.begun told.client (ticks t.moment ∷ []) t told refl
    (tick_ends part.state.client t.moment out.asked out.is) out.counts.0 out.counts.1
    in
    record { on = well.on; stops = well.stops }

-- ---- all turns

acks-append : (xs ys : List Outcome) → acks_in (xs ++ ys) ≡ acks_in xs + acks_in ys
acks-append [] ys = sym (zero-add (acks_in ys))
acks-append (x ∷ xs) ys = omega (arith, acks-append xs ys)

-- the acknowledges so far, those of a turn by its tick and by what came, and the rest
sum : (a o h r all : ℕ) → all ≡ h + r → (a + (o + h)) + r ≡ a + (o + all)
sum a o h r all is = omega (arith, is)

turn_total : (orders : List PlainCommand) (s : Progress) (t : OrderTurned) (rest : List Outcome) (acked : ℕ)
    → (acked + acks_in (tick_outcome orders s t ∷ heard_outcomes orders s t)) + acks_in rest
    ≡ acked + (acks (tick_outcome orders s t) + acks_in (heard_outcomes orders s t ++ rest))
turn_total orders s t rest acked =
    sum acked (acks (tick_outcome orders s t)) (acks_in (heard_outcomes orders s t)) (acks_in rest) (acks_in (heard_outcomes orders s t ++ rest))
    (acks-append (heard_outcomes orders s t) rest)

stops_over : (base : ℕ) (orders : List PlainCommand) (s : Progress) (before : List OrderTurned) (last : OrderTurned) (acked : ℕ)
    → Counts (length orders) base s.client.asked acked s.begun → OrdersGoOn orders s before
    → ((order_turn orders (orders_after orders s before) last).end ≡ Some how.Stopped)
    ↔ (acked + acks_in (order_outcomes orders s (before ++ last ∷ [])) ≡ length orders + base)
stops_over base orders s [] last acked counts on =
    subst (λ n. ((order_turn orders s last).end ≡ Some how.Stopped) ↔ (acked + n ≡ length orders + base))
    (ap (λ l. acks (tick_outcome orders s last) + acks_in l) (sym (append-nil (heard_outcomes orders s last))))
    (turn_well base orders s last acked counts).stops
stops_over base orders s (t ∷ ts) last acked counts on =
    let here : ℕ = acks_in (tick_outcome orders s t ∷ heard_outcomes orders s t) in
    let rest : List Outcome = order_outcomes orders (order_turn orders s t).state (ts ++ last ∷ []) in
    subst (λ n. ((order_turn orders (orders_after orders (order_turn orders s t).state ts) last).end ≡ Some how.Stopped) ↔ (n ≡ length orders + base))
    (turn_total orders s t rest acked)
    (stops_over base orders (order_turn orders s t).state ts last (acked + here) ((turn_well base orders s t acked counts).on on.0) on.1)

counts_over : (base : ℕ) (orders : List PlainCommand) (s : Progress) (ts : List OrderTurned) (acked : ℕ) → Counts (length orders) base s.client.asked acked s.begun
    → OrdersGoOn orders s ts
    → Counts (length orders) base (orders_after orders s ts).client.asked (acked + acks_in (order_outcomes orders s ts)) (orders_after orders s ts).begun
counts_over base orders s [] acked counts on = subst (λ n. Counts (length orders) base s.client.asked n s.begun) (more acked) counts
  where
    more : (n : ℕ) → n ≡ n + 0
    more n = omega arith
counts_over base orders s (t ∷ ts) acked counts on =
    let here : ℕ = acks_in (tick_outcome orders s t ∷ heard_outcomes orders s t) in
    let u : Progress = (order_turn orders s t).state in
    subst (λ n. Counts (length orders) base (orders_after orders u ts).client.asked n (orders_after orders u ts).begun)
    (turn_total orders s t (order_outcomes orders u ts) acked)
    (counts_over base orders u ts (acked + here) ((turn_well base orders s t acked counts).on on.0) on.1)

-- nothing was submitted of the list yet
counts_first : (orders : List PlainCommand) (s : Client) (o : Option Asked) → s.asked ≡ o → HasToWait orders s → Counts (length orders) (outstanding o) o 0 0
counts_first orders s None idle (inl some) = (refl, some)
counts_first orders s None idle (inr waits) = let bad : false ≡ true = subst IsSome idle waits in absurd (cc)
counts_first orders s (Some asked) is some = (refl, omega arith)

counted : (size base : ℕ) (o : Option Asked) (acked begun : ℕ) → Counts size base o acked begun → acked + outstanding o ≡ begun + base
counted size base None acked begun counts = omega (arith, counts.0)
counted size base (Some asked) acked begun counts = counts.0

pub stops_at_last : (orders : List PlainCommand) (s : Client) (before : List OrderTurned) (last : OrderTurned) → StopsAtTheLast orders s before last
stops_at_last orders s before last some on =
    let count : ℕ = acks_in (order_outcomes orders (progress s 0) (before ++ last ∷ [])) in
    subst (λ n. ((order_turn orders (orders_after orders (progress s 0) before) last).end ≡ Some how.Stopped) ↔ (n ≡ length orders + outstanding s.asked))
    (zero-add count)
    (stops_over (outstanding s.asked) orders (progress s 0) before last 0 (counts_first orders s s.asked refl some) on)

pub waits_for_each : (orders : List PlainCommand) (s : Client) (ts : List OrderTurned) → WaitsForEach orders s ts
waits_for_each orders s ts some on =
    let end : Progress = orders_after orders (progress s 0) ts in
    let count : ℕ = acks_in (order_outcomes orders (progress s 0) ts) in
    counted (length orders) (outstanding s.asked) end.client.asked count end.begun
    (subst (λ n. Counts (length orders) (outstanding s.asked) end.client.asked n end.begun) (zero-add count)
    (counts_over (outstanding s.asked) orders (progress s 0) ts 0 (counts_first orders s s.asked refl some) on))

pub stops_acknowledged : (limit : ℕ) (stream : Address) (before : List SetupTurned) (last : SetupTurned) → StopsWhenAcknowledged limit stream before last
stops_acknowledged limit stream before last on = stops_at_last (setup_commands stream) (new_client limit) before last (inl (omega arith)) on
