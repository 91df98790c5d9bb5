-- While one command alone is carried out, of an idle client, nothing else is outstanding: so what ends it is its own
-- acknowledge.
use Rattle.std.proofs.Common.{◌≡◌, ◌⊎◌, ℕ, ◌+◌, Bool, true, false, List, [], ◌∷◌, Option, Some, None, Result, Ok, Err, refl, ap, sym, ◌∙◌, inl, inr, subst, arith}
use Rattle.std.proofs.lemmas.Bool.{and_parts, eqb-true}
use Rattle.std.specs.Prelude.{◌==◌, if◌then◌else◌, nat_lt, nat_le, ◌&&◌, slice_get, option_map, length}
use Rattle.gvcp_wire.specs.declared.message.ControlError.{ControlError}
use Rattle.gvcp_wire.specs.Messages.{PlainCommand, PlainAck}
use Rattle.gvcp_wire.specs.Reading.{ack_reading}
use Rattle.gvcp_wire.specs.BodyReading.{pending_reading}
use Rattle.client_machine.specs.declared.outcome.Outcome.{Outcome}
use Rattle.client_machine.specs.declared.outcome.Outcome.TheVariants.{Waiting, Acked, Refused, NoAnswer}
use Rattle.client_machine.specs.Times.{SENDS}
use Rattle.client_machine.specs.Commands.{code_of, is_match}
use Rattle.client_machine.specs.Machine.{Asked, Client, Told, IsIdle, goes_on, outcome_after, submitted_with, is_late, sent_again, ticked_with, ticked, not_waiting, taken, pended, longer, ended_by, received_ack, received_as, received}
use Rattle.client_machine.specs.Events.{Event, ticks, receives}
use Rattle.gev_links.specs.Links.{Answer, nothing, failed, came}
use Rattle.gev_control.specs.declared.acq_end.AcqEnd.TheVariants as how
use Rattle.gev_control.specs.Controlled.{ControlTurn, after_tick}
use Rattle.gev_control.specs.OrderTurns.{Progress, progress, OrderTurned, OrderHeard, submits_next, next_with, next_part, end_at, hears_order, after_send, ticked_order, order_turn}
use Rattle.gev_control.specs.CarriesOut.{orders_after, OrdersGoOn}
use Rattle.gev_control.specs.OrderLaws.{IsToldBy}
use Rattle.gev_control.proofs.Acks.{IsDone}
use Rattle.gev_control.proofs.Tellings.{told_last}

-- a command with this code is outstanding
pub record Asking (code : ℕ) (s : Client) : Type 0 where
  pub asked : Asked
  pub is : s.asked ≡ Some asked
  pub code_is : asked.code ≡ code

-- nothing was submitted yet, or the one command is outstanding
abbrev pub AsksOnly : ℕ → Option Asked → ℕ → Type 0
AsksOnly code None begun = begun ≡ 0
AsksOnly code (Some asked) begun = (asked.code ≡ code) × (begun ≡ 1)

-- ---- the command

record Begun (code : ℕ) (p : Progress) : Type 0 where
  asking : Asking code p.client
  one : p.begun ≡ 1

asks_first : (o : Option Asked) (s : Client) (c : PlainCommand) (moment : ℕ) → o ≡ None → Asking (code_of c) (submitted_with o s c moment)
asks_first None s c moment idle = record { asked = _; is = refl; code_is = refl }
asks_first (Some asked) s c moment idle = let bad : ⊥ = cc in absurd bad

submits_one : (c : PlainCommand) (s : Progress) (moment : ℕ) → s.client.asked ≡ None → s.begun ≡ 0
    → Begun (code_of c) (submits_next (slice_get (c ∷ []) s.begun) s moment).state
submits_one c s moment idle none =
    subst (λ (n : ℕ). Begun (code_of c) (submits_next (slice_get (c ∷ []) n) s moment).state) (sym none)
    (record { asking = asks_first s.client.asked s.client c moment idle; one = omega (arith, none) })

begins : (c : PlainCommand) (s : Progress) (moment : ℕ) (o : Option Asked) → s.client.asked ≡ o → AsksOnly (code_of c) o s.begun
    → Begun (code_of c) (next_with o (c ∷ []) s moment).state
begins c s moment None is so = submits_one c s moment is so
begins c s moment (Some asked) is so = record { asking = record { asked = asked; is = is; code_is = so.0 }; one = so.1 }

-- ---- the tick

-- it waits on
record Waits (code : ℕ) (told : Told) : Type 0 where
  asking : Asking code told.client
  req : ℕ
  waits : told.outcome ≡ Waiting req

abbrev TickAsks : ℕ → Told → Type 0
TickAsks code told = Waits code told ⊎ ((req : ℕ) × (told.outcome ≡ NoAnswer req))

still : (code : ℕ) (s : Client) (asked : Asked) → s.asked ≡ Some asked → asked.code ≡ code → Waits code (goes_on s)
still code s asked is same = record { asking = record { asked = asked; is = is; code_is = same }; req = asked.req; waits = ap outcome_after is }

late_asks : (code : ℕ) (s : Client) (moment : ℕ) (asked : Asked) (more late : Bool) → s.asked ≡ Some asked → asked.code ≡ code
    → TickAsks code (if late then
    (if more then goes_on (record s { asked = Some (sent_again s.limit asked moment) })
    else record { client = record s { asked = None }; outcome = NoAnswer asked.req })
    else goes_on s)
late_asks code s moment asked true true is same =
    inl (record { asking = record { asked = sent_again s.limit asked moment; is = refl; code_is = same }; req = asked.req; waits = refl })
late_asks code s moment asked false true is same = inr (asked.req, refl)
late_asks code s moment asked more false is same = inl (still code s asked is same)

tick_asks : (code : ℕ) (s : Client) (moment : ℕ) → Asking code s → TickAsks code (ticked s moment)
tick_asks code s moment a =
    subst (λ (o : Option Asked). TickAsks code (ticked_with o s moment)) (sym a.is)
    (late_asks code s moment a.asked (nat_lt a.asked.sends SENDS) (is_late a.asked moment) a.is a.code_is)

-- ---- the receive

abbrev ReceiveAsks : ℕ → Told → Type 0
ReceiveAsks code told = Waits code told ⊎ (IsDone told ⊎ ((status : ℕ) × (told.outcome ≡ Refused status)))

receive_pended : (code : ℕ) (s : Client) (asked : Asked) (time : Option ℕ) → s.asked ≡ Some asked → asked.code ≡ code → ReceiveAsks code (pended s asked time)
receive_pended code s asked None is same = inl (still code s asked is same)
receive_pended code s asked (Some time) is same =
    inl (record { asking = record { asked = longer asked time; is = refl; code_is = same }; req = asked.req; waits = refl })

receive_status : (code : ℕ) (c : Client) (status : ℕ) (b : Bool) → c.asked ≡ None
    → ReceiveAsks code (record { client = c; outcome = if b then Acked else Refused status })
receive_status code c status true is = inr (inl (record { acked = refl; is = is }))
receive_status code c status false is = inr (inr (status, refl))

receive_answered : (code : ℕ) (s : Client) (moment : ℕ) (ack : PlainAck) (asked : Asked) (matches own : Bool) → s.asked ≡ Some asked → asked.code ≡ code
    → ReceiveAsks code (if matches then ended_by s ack moment
    else (if own then pended s asked (pending_reading ack) else goes_on s))
receive_answered code s moment ack asked true own is same = receive_status code (ended_by s ack moment).client ack.status (ack.status == 0) refl
receive_answered code s moment ack asked false true is same = receive_pended code s asked (pending_reading ack) is same
receive_answered code s moment ack asked false false is same = inl (still code s asked is same)

receive_asks : (code : ℕ) (s : Client) (moment : ℕ) (reading : Result PlainAck ControlError) → Asking code s → ReceiveAsks code (received_as reading s moment)
receive_asks code s moment (Ok ack) a =
    subst (λ (o : Option Asked). ReceiveAsks code (received_ack o s ack moment)) (sym a.is)
    (receive_answered code s moment ack a.asked (is_match a.asked.code a.asked.req ack) (ack.req == a.asked.req) a.is a.code_is)
receive_asks code s moment (Err e) a = inl (still code s a.asked a.is a.code_is)

-- ---- a turn

-- The turns go on with the command outstanding, and stop with none.
record TurnAsks (code begun : ℕ) (h : OrderHeard) : Type 0 where
  on : h.end ≡ None → AsksOnly code h.client.asked begun
  stops : h.end ≡ Some how.Stopped → h.client.asked ≡ None

waits_on : (code begun : ℕ) (c : Client) (es : List Event) → Asking code c → begun ≡ 1
    → TurnAsks code begun (record { events = es; client = c; end = None })
waits_on code begun c es a one = record {
  on = λ e. subst (λ (o : Option Asked). AsksOnly code o begun) (sym a.is) (a.code_is, one);
  stops = λ e. let bad : ⊥ = cc in absurd bad;
}

acked_one : (code begun : ℕ) (c : Client) (es : List Event) → c.asked ≡ None → begun ≡ 1
    → TurnAsks code begun (record { events = es; client = c; end = if begun == 1 then Some how.Stopped else None })
acked_one code begun c es idle one =
    subst (λ (n : ℕ). TurnAsks code n (record { events = es; client = c; end = if n == 1 then Some how.Stopped else None })) (sym one)
    (record { on = λ e. let bad : ⊥ = cc in absurd bad; stops = λ e. idle })

received_one : (code begun : ℕ) (told : Told) (es : List Event) → ReceiveAsks code told → begun ≡ 1
    → TurnAsks code begun (record { events = es; client = told.client; end = end_at 1 begun told.outcome })
received_one code begun told es (inl w) one =
    subst (λ (o : Outcome). TurnAsks code begun (record { events = es; client = told.client; end = end_at 1 begun o })) (sym w.waits)
    (waits_on code begun told.client es w.asking one)
received_one code begun told es (inr (inl done)) one =
    subst (λ (o : Outcome). TurnAsks code begun (record { events = es; client = told.client; end = end_at 1 begun o })) (sym done.acked)
    (acked_one code begun told.client es done.is one)
received_one code begun told es (inr (inr refused)) one =
    subst (λ (o : Outcome). TurnAsks code begun (record { events = es; client = told.client; end = end_at 1 begun o })) (sym refused.1)
    (record { on = λ e. let bad : ⊥ = cc in absurd bad; stops = λ e. let bad : ⊥ = cc in absurd bad })

heard_one : (code begun moment : ℕ) (u : Client) (heard : Option Answer) → Asking code u → begun ≡ 1
    → TurnAsks code begun (hears_order 1 u begun moment heard)
heard_one code begun moment u None a one = record { on = λ e. let bad : ⊥ = cc in absurd bad; stops = λ e. let bad : ⊥ = cc in absurd bad }
heard_one code begun moment u (Some failed) a one = record { on = λ e. let bad : ⊥ = cc in absurd bad; stops = λ e. let bad : ⊥ = cc in absurd bad }
heard_one code begun moment u (Some nothing) a one = waits_on code begun u [] a one
heard_one code begun moment u (Some (came bytes peer)) a one =
    received_one code begun (received u bytes moment) (receives bytes moment ∷ []) (receive_asks code u moment (ack_reading bytes) a) one

taken_asks : (code : ℕ) (c : Client) → Asking code c → Asking code (taken c)
taken_asks code c a = record {
  asked = not_waiting a.asked;
  is = ap (λ (o : Option Asked). option_map not_waiting o) a.is;
  code_is = a.code_is;
}

-- what is outstanding where the receive is made
record Sends (code begun : ℕ) (t : OrderTurned) (turn : ControlTurn) : Type 0 where
  heard : TurnAsks code begun (after_send 1 turn.end turn begun t)
  asks : (after_send 1 turn.end turn begun t).end ≡ Some how.Stopped → Asking code turn.state

ticked_one : (code begun : ℕ) (es : List Event) (t : OrderTurned) (told : Told) → TickAsks code told → begun ≡ 1
    → Sends code begun t (after_tick es told.client told.outcome)
ticked_one code begun es t told (inl w) one =
    subst (λ (o : Outcome). Sends code begun t (after_tick es told.client o)) (sym w.waits)
    (record { heard = heard_one code begun t.moment (taken told.client) t.heard (taken_asks code told.client w.asking) one; asks = λ e. taken_asks code told.client w.asking })
ticked_one code begun es t told (inr lost) one =
    subst (λ (o : Outcome). Sends code begun t (after_tick es told.client o)) (sym lost.1)
    (record {
      heard = record { on = λ e. let bad : ⊥ = cc in absurd bad; stops = λ e. let bad : ⊥ = cc in absurd bad };
      asks = λ e. let bad : ⊥ = cc in absurd bad;
    })

turn_one : (c : PlainCommand) (s : Progress) (t : OrderTurned) → AsksOnly (code_of c) s.client.asked s.begun
    → Sends (code_of c) (next_part (c ∷ []) s t.moment).state.begun t (ticked_order (c ∷ []) s t.moment)
turn_one c s t so =
    let b : Begun (code_of c) (next_part (c ∷ []) s t.moment).state = begins c s t.moment s.client.asked refl so in
    ticked_one (code_of c) (next_part (c ∷ []) s t.moment).state.begun (ticks t.moment ∷ []) t (ticked (next_part (c ∷ []) s t.moment).state.client t.moment)
    (tick_asks (code_of c) (next_part (c ∷ []) s t.moment).state.client t.moment b.asking) b.one

-- ---- all turns

turns_one : (c : PlainCommand) (s : Progress) (ts : List OrderTurned) → AsksOnly (code_of c) s.client.asked s.begun → OrdersGoOn (c ∷ []) s ts
    → AsksOnly (code_of c) (orders_after (c ∷ []) s ts).client.asked (orders_after (c ∷ []) s ts).begun
turns_one c s [] so on = so
turns_one c s (t ∷ ts) so on = turns_one c (order_turn (c ∷ []) s t).state ts ((turn_one c s t so).heard.on on.0) on.1

-- The command was acknowledged by an acknowledge of its own.
pub record Acknowledged (code : ℕ) (s : Client) (heard : Option Answer) (u : Client) : Type 0 where
  pub told : IsToldBy s heard u
  pub code_is : told.answered.ack.code ≡ code + 1
  pub idle : IsIdle u

matches_code : (code : ℕ) (s : Client) (asked : Asked) (ack : PlainAck) → Asking code s → s.asked ≡ Some asked → is_match asked.code asked.req ack ≡ true → ack.code ≡ code + 1
matches_code code s asked ack a is matches =
    let same : asked ≡ a.asked = cc in
    let own : asked.code ≡ code = ap (λ (x : Asked). x.code) same ∙ a.code_is in
    let parts = and_parts ((ack.req == asked.req) && (ack.code == asked.code + 1)) (nat_le (length ack.body) 540) matches in
    let both = and_parts (ack.req == asked.req) (ack.code == asked.code + 1) parts.0 in
    eqb-true ack.code (asked.code + 1) both.1 ∙ ap (λ (n : ℕ). n + 1) own

pub acknowledged : (c : PlainCommand) (s : Client) (before : List OrderTurned) (last : OrderTurned) → IsIdle s → OrdersGoOn (c ∷ []) (progress s 0) before
    → (order_turn (c ∷ []) (orders_after (c ∷ []) (progress s 0) before) last).end ≡ Some how.Stopped
    → Acknowledged (code_of c) (ticked_order (c ∷ []) (orders_after (c ∷ []) (progress s 0) before) last.moment).state last.heard
    (order_turn (c ∷ []) (orders_after (c ∷ []) (progress s 0) before) last).state.client
acknowledged c s before last idle on ends =
    let first : AsksOnly (code_of c) s.asked 0 = subst (λ (o : Option Asked). AsksOnly (code_of c) o 0) (sym idle) refl in
    let so : AsksOnly (code_of c) (orders_after (c ∷ []) (progress s 0) before).client.asked (orders_after (c ∷ []) (progress s 0) before).begun =
    turns_one c (progress s 0) before first on in
    let turn = turn_one c (orders_after (c ∷ []) (progress s 0) before) last so in
    let told : IsToldBy (ticked_order (c ∷ []) (orders_after (c ∷ []) (progress s 0) before) last.moment).state last.heard
    (order_turn (c ∷ []) (orders_after (c ∷ []) (progress s 0) before) last).state.client =
    told_last (c ∷ []) (orders_after (c ∷ []) (progress s 0) before) last ends in
    record {
      told = told;
      code_is =
          matches_code (code_of c) (ticked_order (c ∷ []) (orders_after (c ∷ []) (progress s 0) before) last.moment).state told.answered.asked told.answered.ack
          (turn.asks ends) told.answered.outstanding told.answered.matches;
      idle = turn.heard.stops ends;
    }
