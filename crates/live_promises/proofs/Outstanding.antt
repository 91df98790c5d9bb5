-- The command that is outstanding, through ticks and receives, until an acknowledge ends it or it's given up.
use Rattle.std.proofs.Common.{◌≡◌, ◌≢◌, ◌⊎◌, inl, inr, ℕ, ◌+◌, ◌≤◌, Bool, true, false, List, [], ◌∷◌, ◌++◌, Option, Some, None, Result, Ok, Err, refl, ap, sym, subst, ◌∙◌}
use Rattle.std.proofs.lemmas.Bool.{eqb-true, eqb-false, leb-true}
use Rattle.std.proofs.lemmas.List.{append-nil}
use Rattle.std.specs.Prelude.{◌==◌, if◌then◌else◌, nat_lt, is_some, option_map}
use Rattle.gvcp_wire.specs.declared.message.ControlError.{ControlError}
use Rattle.gvcp_wire.specs.Messages.{PlainAck}
use Rattle.gvcp_wire.specs.Reading.{ack_reading}
use Rattle.gvcp_wire.specs.BodyReading.{pending_reading}
use Rattle.client_machine.specs.declared.outcome.Outcome.{Outcome}
use Rattle.client_machine.specs.declared.outcome.Outcome.TheVariants.{Waiting, Acked, Refused, NoAnswer}
use Rattle.client_machine.specs.Times.{SENDS}
use Rattle.client_machine.specs.Commands.{is_match, heartbeat}
use Rattle.client_machine.specs.Machine.{Asked, Client, Told, outcome_after, goes_on, with_command, is_heartbeat_due, is_late, sent_again, ticked_with, ticked, not_waiting, taken, longer, ended_by, pended, received_ack, received_as, received}
use Rattle.client_machine.specs.Events.{Event, Request, request_of}
use Rattle.gev_links.specs.Links.{Answer, nothing, failed, came}
use Rattle.gev_control.specs.declared.acq_end.AcqEnd.{AcqEnd}
use Rattle.gev_control.specs.declared.acq_end.AcqEnd.TheVariants as how
use Rattle.gev_control.specs.Controlled.{after_tick}
use Rattle.gev_control.specs.OrderTurns.{OrderTurned, end_at, hears_order, after_send}
use Rattle.live_promises.specs.Acts.{Ended, ended_if, ended_as, ended_in}
use Rattle.live_promises.proofs.Lists.{gets_of}

-- a command with this request is outstanding
abbrev pub IsOut : Request → Client → Type 0
IsOut r s = (asked : Asked) × ((s.asked ≡ Some asked) × (request_of asked ≡ r))

-- ---- the tick

pub record StillOut (r : Request) (told : Told) : Type 0 where
  pub asked : Asked
  pub is : told.client.asked ≡ Some asked
  pub of_request : request_of asked ≡ r
  pub req : ℕ
  pub waits : told.outcome ≡ Waiting req

abbrev pub TickOut : Request → Told → Type 0
TickOut r told = StillOut r told ⊎ ((req : ℕ) × (told.outcome ≡ NoAnswer req))

still : (s : Client) (asked : Asked) → s.asked ≡ Some asked → StillOut (request_of asked) (goes_on s)
still s asked is = record { asked = asked; is = is; of_request = refl; req = asked.req; waits = ap outcome_after is }

tick_late : (s : Client) (moment : ℕ) (asked : Asked) (more late : Bool) → s.asked ≡ Some asked
    → TickOut (request_of asked) (if late then
    (if more then goes_on (record s { asked = Some (sent_again s.limit asked moment) })
    else record { client = record s { asked = None }; outcome = NoAnswer asked.req })
    else goes_on s)
tick_late s moment asked true true is = inl (record { asked = sent_again s.limit asked moment; is = refl; of_request = refl; req = asked.req; waits = refl })
tick_late s moment asked false true is = inr (asked.req, refl)
tick_late s moment asked more false is = inl (still s asked is)

tick_asked : (s : Client) (moment : ℕ) (asked : Asked) → s.asked ≡ Some asked → TickOut (request_of asked) (ticked s moment)
tick_asked s moment asked is =
    subst (λ (o : Option Asked). TickOut (request_of asked) (ticked_with o s moment)) (sym is)
    (tick_late s moment asked (nat_lt asked.sends SENDS) (is_late asked moment) is)

pub tick_out : (r : Request) (s : Client) (moment : ℕ) → IsOut r s → TickOut r (ticked s moment)
tick_out r s moment out = subst (λ (x : Request). TickOut x (ticked s moment)) out.1.1 (tick_asked s moment out.0 out.1.0)

-- ---- the receive

-- the acknowledge that ended it
pub record EndsIt (r : Request) (all : List Ended) (told : Told) : Type 0 where
  pub ended : Ended
  pub is : all ≡ ended ∷ []
  pub of_request : request_of ended.asked ≡ r
  pub idle : told.client.asked ≡ None
  pub body : told.client.body ≡ ended.ack.body
  pub outcome : told.outcome ≡ (if ended.ack.status == 0 then Acked else Refused ended.ack.status)

abbrev pub ReceiveOut : Request → List Ended → Told → Type 0
ReceiveOut r all told = (StillOut r told × (all ≡ [])) ⊎ EndsIt r all told

receive_pended : (s : Client) (asked : Asked) (time : Option ℕ) → s.asked ≡ Some asked → ReceiveOut (request_of asked) [] (pended s asked time)
receive_pended s asked None is = inl (still s asked is, refl)
receive_pended s asked (Some time) is = inl (record { asked = longer asked time; is = refl; of_request = refl; req = asked.req; waits = refl }, refl)

receive_matched : (s : Client) (moment : ℕ) (ack : PlainAck) (asked : Asked) (matches same : Bool) → s.asked ≡ Some asked
    → ReceiveOut (request_of asked) (ended_if matches asked ack)
    (if matches then ended_by s ack moment else (if same then pended s asked (pending_reading ack) else goes_on s))
receive_matched s moment ack asked true same is =
    inr (record { ended = record { asked = asked; ack = ack }; is = refl; of_request = refl; idle = refl; body = refl; outcome = refl })
receive_matched s moment ack asked false true is = receive_pended s asked (pending_reading ack) is
receive_matched s moment ack asked false false is = inl (still s asked is, refl)

receive_asked : (s : Client) (moment : ℕ) (asked : Asked) (reading : Result PlainAck ControlError) → s.asked ≡ Some asked
    → ReceiveOut (request_of asked) (ended_as s.asked reading) (received_as reading s moment)
receive_asked s moment asked (Ok ack) is =
    subst (λ (o : Option Asked). ReceiveOut (request_of asked) (ended_as o (Ok ack)) (received_ack o s ack moment)) (sym is)
    (receive_matched s moment ack asked (is_match asked.code asked.req ack) (ack.req == asked.req) is)
receive_asked s moment asked (Err e) is =
    subst (λ (o : Option Asked). ReceiveOut (request_of asked) (ended_as o (Err e)) (goes_on s)) (sym is) (inl (still s asked is, refl))

pub receive_out : (r : Request) (s : Client) (bytes : List ℕ) (moment : ℕ) → IsOut r s → ReceiveOut r (ended_as s.asked (ack_reading bytes)) (received s bytes moment)
receive_out r s bytes moment out =
    subst (λ (x : Request). ReceiveOut x (ended_as s.asked (ack_reading bytes)) (received s bytes moment)) out.1.1
    (receive_asked s moment out.0 (ack_reading bytes) out.1.0)

-- ---- what came of a turn, by its end

-- this acknowledge ended the command
pub record HasEnded (r : Request) (all : List Ended) (u : Client) (status : ℕ) : Type 0 where
  pub ended : Ended
  pub is : all ≡ ended ∷ []
  pub of_request : request_of ended.asked ≡ r
  pub status_is : ended.ack.status ≡ status
  pub body : u.body ≡ ended.ack.body
  pub idle : u.asked ≡ None

-- `whole` is that no send failed, `up` that the command was given up
abbrev pub Came : Request → List Ended → Type 0 → (ℕ → Type 0) → Client → Option AcqEnd → Type 0
Came r all whole up u None = IsOut r u × (all ≡ []) × whole
Came r all whole up u (Some how.Stopped) = HasEnded r all u 0 × whole
Came r all whole up u (Some how.Spent) = ⊥
Came r all whole up u (Some how.Fault) = all ≡ []
Came r all whole up u (Some (how.NoAnswer req)) = (all ≡ []) × up req
Came r all whole up u (Some (how.Refused status)) = HasEnded r all u status × whole × (status ≢ 0)

more_ended : (r : Request) (all others : List Ended) (u : Client) (status : ℕ) → others ≡ all → HasEnded r all u status → HasEnded r others u status
more_ended r all others u status same has = record {
  ended = has.ended;
  is = same ∙ has.is;
  of_request = has.of_request;
  status_is = has.status_is;
  body = has.body;
  idle = has.idle;
}

pub came_so : (r : Request) (all others : List Ended) (whole entire : Type 0) (up over : ℕ → Type 0) (u : Client) (end : Option AcqEnd) → others ≡ all → (whole → entire)
    → ((req : ℕ) → up req → over req) → Came r all whole up u end → Came r others entire over u end
came_so r all others whole entire up over u None same w v so = (so.0, same ∙ so.1, w so.2)
came_so r all others whole entire up over u (Some how.Stopped) same w v so = (more_ended r all others u 0 same so.0, w so.1)
came_so r all others whole entire up over u (Some how.Spent) same w v so = so
came_so r all others whole entire up over u (Some how.Fault) same w v so = same ∙ so
came_so r all others whole entire up over u (Some (how.NoAnswer req)) same w v so = (same ∙ so.0, v req so.1)
came_so r all others whole entire up over u (Some (how.Refused status)) same w v so = (more_ended r all others u status same so.0, w so.1, so.2)

-- ---- the receive of a list's turn

acked_came : (r : Request) (all : List Ended) (whole : Type 0) (up : ℕ → Type 0) (u : Client) (size begun : ℕ) (ended : Ended) (full zero : Bool) → (begun == size) ≡ full → full ≡ true
    → (ended.ack.status == 0) ≡ zero → all ≡ ended ∷ [] → request_of ended.asked ≡ r → u.body ≡ ended.ack.body → u.asked ≡ None → whole
    → Came r all whole up u (end_at size begun (if zero then Acked else Refused ended.ack.status))
acked_came r all whole up u size begun ended full true is filled status same of_request body idle w =
    subst (λ (b : Bool). Came r all whole up u (if b then Some how.Stopped else None)) (sym (is ∙ filled))
    (record { ended = ended; is = same; of_request = of_request; status_is = eqb-true ended.ack.status 0 status; body = body; idle = idle }, w)
acked_came r all whole up u size begun ended full false is filled status same of_request body idle w =
    (record { ended = ended; is = same; of_request = of_request; status_is = refl; body = body; idle = idle }, w, eqb-false ended.ack.status 0 status)

received_came : (r : Request) (all others : List Ended) (up : ℕ → Type 0) (size begun : ℕ) (told : Told) → (begun == size) ≡ true → others ≡ all → ReceiveOut r all told
    → Came r others (true ≡ true) up told.client (end_at size begun told.outcome)
received_came r all others up size begun told full same (inl out) =
    subst (λ (o : Outcome). Came r others (true ≡ true) up told.client (end_at size begun o)) (sym out.0.waits)
    ((out.0.asked, (out.0.is, out.0.of_request)), same ∙ out.1, refl)
received_came r all others up size begun told full same (inr it) =
    subst (λ (o : Outcome). Came r others (true ≡ true) up told.client (end_at size begun o)) (sym it.outcome)
    (acked_came r others (true ≡ true) up told.client size begun it.ended (begun == size) (it.ended.ack.status == 0) refl full refl (same ∙ it.is) it.of_request it.body it.idle refl)

hears_came : (r : Request) (up : ℕ → Type 0) (size begun : ℕ) (c : Client) (moment : ℕ) (heard : Option Answer) → (begun == size) ≡ true → IsOut r c
    → Came r (ended_in c (gets_of heard moment)) (is_some heard ≡ true) up (hears_order size c begun moment heard).client (hears_order size c begun moment heard).end
hears_came r up size begun c moment None full out = refl
hears_came r up size begun c moment (Some failed) full out = refl
hears_came r up size begun c moment (Some nothing) full out = (out, refl, refl)
hears_came r up size begun c moment (Some (came bytes peer)) full out =
    received_came r (ended_as c.asked (ack_reading bytes)) (ended_as c.asked (ack_reading bytes) ++ []) up size begun (received c bytes moment) full
    (append-nil (ended_as c.asked (ack_reading bytes))) (receive_out r c bytes moment out)

-- ---- the turn behind its tick

pub after_came : (r : Request) (size begun : ℕ) (es : List Event) (told : Told) (t : OrderTurned) → (begun == size) ≡ true
    → ((req : ℕ) → told.outcome ≡ NoAnswer req → t.heard ≡ None) → TickOut r told
    → Came r (ended_in (taken told.client) (gets_of t.heard t.moment)) (is_some t.heard ≡ true) (λ req. told.outcome ≡ NoAnswer req)
    (after_send size (after_tick es told.client told.outcome).end (after_tick es told.client told.outcome) begun t).client
    (after_send size (after_tick es told.client told.outcome).end (after_tick es told.client told.outcome) begun t).end
after_came r size begun es told t full quiet (inl out) =
    subst (λ (o : Outcome).
    Came r (ended_in (taken told.client) (gets_of t.heard t.moment)) (is_some t.heard ≡ true) (λ req. told.outcome ≡ NoAnswer req)
    (after_send size (after_tick es told.client o).end (after_tick es told.client o) begun t).client
    (after_send size (after_tick es told.client o).end (after_tick es told.client o) begun t).end) (sym out.waits)
    (hears_came r (λ req. told.outcome ≡ NoAnswer req) size begun (taken told.client) t.moment t.heard full
    (not_waiting out.asked, (ap (option_map not_waiting) out.is, out.of_request)))
after_came r size begun es told t full quiet (inr up) =
    subst (λ (o : Outcome).
    Came r (ended_in (taken told.client) (gets_of t.heard t.moment)) (is_some t.heard ≡ true) (λ req. told.outcome ≡ NoAnswer req)
    (after_send size (after_tick es told.client o).end (after_tick es told.client o) begun t).client
    (after_send size (after_tick es told.client o).end (after_tick es told.client o) begun t).end) (sym up.1)
    (ap (λ (h : Option Answer). ended_in (taken told.client) (gets_of h t.moment)) (quiet up.0 up.1), up.1)

-- ---- the command that is given up

-- what is known of a client whose tick gives its command up
pub record IsUp (s : Client) (moment req : ℕ) : Type 0 where
  pub asked : Asked
  pub outstanding : s.asked ≡ Some asked
  pub req_is : asked.req ≡ req
  pub waited : asked.sent + asked.limit ≤ moment

no_up : (o : Option Asked) (req : ℕ) → outcome_after o ≡ NoAnswer req → ⊥
no_up None req is = cc
no_up (Some asked) req is = cc

late_up : (s : Client) (moment : ℕ) (asked : Asked) (more late : Bool) (req : ℕ) → is_late asked moment ≡ late → s.asked ≡ Some asked
    → (if late then
    (if more then goes_on (record s { asked = Some (sent_again s.limit asked moment) })
    else record { client = record s { asked = None }; outcome = NoAnswer asked.req })
    else goes_on s).outcome ≡ NoAnswer req
    → IsUp s moment req
late_up s moment asked true true req late is up = absurd (no_up (Some (sent_again s.limit asked moment)) req up)
late_up s moment asked false true req late is up = record {
  asked = asked;
  outstanding = is;
  req_is = number up;
  waited = leb-true (asked.sent + asked.limit) moment late;
}
  where
    number : NoAnswer asked.req ≡ NoAnswer req → asked.req ≡ req
    number e = cc
late_up s moment asked more false req late is up = absurd (no_up s.asked req up)

with_up : (s : Client) (moment : ℕ) (o : Option Asked) (req : ℕ) → s.asked ≡ o → (ticked_with o s moment).outcome ≡ NoAnswer req → IsUp s moment req
with_up s moment None req is up = absurd (no_up (if is_heartbeat_due s.ended moment then with_command s heartbeat moment else s).asked req up)
with_up s moment (Some asked) req is up = late_up s moment asked (nat_lt asked.sends SENDS) (is_late asked moment) req refl is up

pub is_up : (s : Client) (moment req : ℕ) → (ticked s moment).outcome ≡ NoAnswer req → IsUp s moment req
is_up s moment req up = with_up s moment s.asked req refl up
