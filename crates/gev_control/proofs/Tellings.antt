-- What the last acknowledge told is what the client gives on.
use Rattle.std.proofs.Common.{◌≡◌, ℕ, Bool, true, false, List, [], ◌∷◌, ◌++◌, Option, Some, None, IsSome, refl, ap, sym, ◌∙◌, subst, inl, inr}
use Rattle.std.specs.Prelude.{if◌then◌else◌, nat_lt, length, option_map}
use Rattle.gvcp_wire.specs.Messages.{PlainCommand}
use Rattle.gvcp_wire.specs.Reading.{ack_reading}
use Rattle.client_machine.specs.declared.outcome.Outcome.{Outcome}
use Rattle.client_machine.specs.declared.outcome.Outcome.TheVariants.{Waiting, Idle, Acked, Refused, NoAnswer}
use Rattle.client_machine.specs.Times.{SENDS}
use Rattle.client_machine.specs.Commands.{heartbeat}
use Rattle.client_machine.specs.Machine.{Asked, Client, Told, goes_on, with_command, is_heartbeat_due, is_late, sent_again, ticked_with, ticked, not_waiting, received}
use Rattle.client_machine.specs.Events.{Event, ticks, receives}
use Rattle.client_machine.specs.Laws.{IsAnswered}
use Rattle.client_machine.proofs.Ends.{ends_exact}
use Rattle.gev_links.specs.Links.{Address, Answer, nothing, failed, came}
use Rattle.gev_control.specs.declared.turn_end.TurnEnd.{TurnEnd}
use Rattle.gev_control.specs.declared.turn_end.TurnEnd.TheVariants as ends
use Rattle.gev_control.specs.declared.acq_end.AcqEnd.TheVariants as how
use Rattle.gev_control.specs.Controlled.{ControlTurn, after_tick, ticks_turn, after_receive, control_of}
use Rattle.gev_control.specs.OrderTurns.{Progress, OrderTurned, next_part, end_at, hears_order, ticked_order, after_send}
use Rattle.gev_control.specs.OrderLaws.{IsToldBy, TellsTheLast}
use Rattle.gev_control.specs.Telling.{TellsTheHeartbeat}
use Rattle.gev_control.proofs.Acks.{TickEnds, tick_ends, ReceiveEnds, receive_as}

-- ---- an acknowledge

body_of : (s : Client) (bytes : List ℕ) (moment : ℕ) (a : IsAnswered s bytes 0) → (received s bytes moment).client.body ≡ a.ack.body
body_of s bytes moment a = rw (a.read, a.outstanding, a.matches) refl

-- the client told that its command was acknowledged, and this is the client later on
told_by : (s : Client) (bytes : List ℕ) (peer : Address) (moment : ℕ) (u : Client) → (received s bytes moment).outcome ≡ Acked
    → u.body ≡ (received s bytes moment).client.body → IsToldBy s (Some (came bytes peer)) u
told_by s bytes peer moment u acked same =
    let a : IsAnswered s bytes 0 = ((ends_exact s).acked bytes moment).0 acked in
    record { bytes = bytes; peer = peer; came_so = refl; answered = a; body = same ∙ body_of s bytes moment a }

-- ---- the end of a list

acked_at : (size begun : ℕ) (o : Outcome) → end_at size begun o ≡ Some how.Stopped → o ≡ Acked
acked_at size begun (Waiting req) e = absurd (cc)
acked_at size begun Idle e = absurd (cc)
acked_at size begun Acked e = refl
acked_at size begun (Refused status) e = absurd (cc)
acked_at size begun (NoAnswer req) e = absurd (cc)

told_heard : (size : ℕ) (s : Client) (begun moment : ℕ) (heard : Option Answer) → (hears_order size s begun moment heard).end ≡ Some how.Stopped
    → IsToldBy s heard (hears_order size s begun moment heard).client
told_heard size s begun moment None e = absurd (cc)
told_heard size s begun moment (Some failed) e = absurd (cc)
told_heard size s begun moment (Some nothing) e = absurd (cc)
told_heard size s begun moment (Some (came bytes peer)) e =
    told_by s bytes peer moment (received s bytes moment).client (acked_at size begun (received s bytes moment).outcome e) refl

told_after : (size : ℕ) (x : TurnEnd) (t : ControlTurn) (begun : ℕ) (turned : OrderTurned) → (after_send size x t begun turned).end ≡ Some how.Stopped
    → IsToldBy t.state turned.heard (after_send size x t begun turned).client
told_after size ends.GoesOn t begun turned e = told_heard size t.state begun turned.moment turned.heard e
told_after size ends.Fault t begun turned e = absurd (cc)
told_after size (ends.NoAnswer req) t begun turned e = absurd (cc)
told_after size (ends.Refused status) t begun turned e = absurd (cc)

pub told_last : (orders : List PlainCommand) (s : Progress) (t : OrderTurned) → TellsTheLast orders s t
told_last orders s t e =
    let made : ControlTurn = ticked_order orders s t.moment in
    told_after (length orders) made.end made (next_part orders s t.moment).state.begun t e

-- ---- a turn of the reader

ticked_body : (s : Client) (moment : ℕ) (o : Option Asked) → (ticked_with o s moment).client.body ≡ s.body
ticked_body s moment None = go (is_heartbeat_due s.ended moment)
  where
    go : (due : Bool) → (if due then with_command s heartbeat moment else s).body ≡ s.body
    go true = refl
    go false = refl
ticked_body s moment (Some asked) = go (is_late asked moment) (nat_lt asked.sends SENDS)
  where
    go : (late more : Bool)
        → (if late then
        (if more then goes_on (record s { asked = Some (sent_again s.limit asked moment) })
        else record { client = record s { asked = None }; outcome = NoAnswer asked.req })
        else goes_on s).client.body ≡ s.body
    go true true = refl
    go true false = refl
    go false more = refl

tick_body : (es : List Event) (c : Client) (o : Outcome) → (after_tick es c o).state.body ≡ c.body
tick_body es c (Waiting req) = refl
tick_body es c Idle = refl
tick_body es c Acked = refl
tick_body es c (Refused status) = refl
tick_body es c (NoAnswer req) = refl

turn_body : (es : List Event) (c : Client) (moment : ℕ) → (ticks_turn es c moment).state.body ≡ c.body
turn_body es c moment =
    tick_body (es ++ ticks moment ∷ []) (ticked c moment).client (ticked c moment).outcome ∙ ticked_body c moment c.asked

out_waits : (c : Client) (asked : Asked) → c.asked ≡ Some asked → option_map not_waiting c.asked ≡ None → ⊥
out_waits c asked is none = let e : Some (not_waiting asked) ≡ None = sym (ap (option_map not_waiting) is) ∙ none in cc

-- the client's tick leaves a command outstanding, or tells that it had no answer
still_out : (es : List Event) (told : Told) → TickEnds told → (after_tick es told.client told.outcome).end ≡ ends.GoesOn
    → (after_tick es told.client told.outcome).state.asked ≡ None → ⊥
still_out es told (inl asks) on none =
    out_waits told.client asks.asked asks.is (subst (λ o. (after_tick es told.client o).state.asked ≡ None) asks.waits none)
still_out es told (inr given_up) on none =
    let e : ends.NoAnswer given_up.0 ≡ ends.GoesOn = subst (λ o. (after_tick es told.client o).end ≡ ends.GoesOn) given_up.1 on in cc

heard_by : (es : List Event) (s : Client) (bytes : List ℕ) (peer : Address) (moment : ℕ) → ReceiveEnds (received s bytes moment)
    → (after_receive es (received s bytes moment).client (received s bytes moment).outcome moment).end ≡ ends.GoesOn
    → (after_receive es (received s bytes moment).client (received s bytes moment).outcome moment).state.asked ≡ None
    → IsToldBy s (Some (came bytes peer)) (after_receive es (received s bytes moment).client (received s bytes moment).outcome moment).state
heard_by es s bytes peer moment (inl asks) on none =
    let c : Client = (received s bytes moment).client in
    absurd (still_out (es ++ ticks moment ∷ []) (ticked c moment) (tick_ends c moment asks.asked asks.is)
    (subst (λ o. (after_receive es c o moment).end ≡ ends.GoesOn) asks.waits on)
    (subst (λ o. (after_receive es c o moment).state.asked ≡ None) asks.waits none))
heard_by es s bytes peer moment (inr (inl done)) on none =
    let c : Client = (received s bytes moment).client in
    told_by s bytes peer moment (after_receive es c (received s bytes moment).outcome moment).state done.acked
    (subst (λ o. (after_receive es c o moment).state.body ≡ c.body) (sym done.acked) (turn_body es c moment))
heard_by es s bytes peer moment (inr (inr refused)) on none =
    let c : Client = (received s bytes moment).client in
    let e : ends.Refused refused.0 ≡ ends.GoesOn = subst (λ o. (after_receive es c o moment).end ≡ ends.GoesOn) refused.1 on in
    absurd (cc)

pub told_heartbeat : (s : Client) (heard : Option Answer) (moment : ℕ) → TellsTheHeartbeat s heard moment
told_heartbeat s heard moment = go s.asked refl heard
  where
    go : (o : Option Asked) → s.asked ≡ o → (h : Option Answer) → IsSome o → (control_of s h moment).end ≡ ends.GoesOn
        → (control_of s h moment).state.asked ≡ None → IsToldBy s h (control_of s h moment).state
    go None is h some on none = let bad : false ≡ true = some in absurd (cc)
    go (Some a) is None some on none = absurd (cc)
    go (Some a) is (Some failed) some on none = absurd (cc)
    go (Some a) is (Some nothing) some on none = absurd (still_out (ticks moment ∷ []) (ticked s moment) (tick_ends s moment a is) on none)
    go (Some a) is (Some (came bytes peer)) some on none =
        heard_by (receives bytes moment ∷ []) s bytes peer moment (receive_as s moment a (ack_reading bytes) is) on none
