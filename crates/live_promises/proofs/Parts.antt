-- The control part of a turn, in the wait for the first leader and of the reader, as acts of the client.
use Rattle.std.proofs.Common.{◌≡◌, ◌≢◌, ◌⊎◌, inl, inr, ℕ, ◌+◌, ◌≤◌, Bool, true, false, List, [], ◌∷◌, ◌++◌, length, Option, Some, None, Result, Ok, Err, IsSome, refl, ap, sym, subst, ◌∙◌, append_assoc, length-append, arith}
use Rattle.std.proofs.lemmas.List.{append-nil}
use Rattle.std.specs.Prelude.{◌==◌, if◌then◌else◌, is_some, option_map}
use Rattle.bootstrap_regs.specs.Addresses.{CCP}
use Rattle.gvcp_wire.specs.declared.message.ControlError.{ControlError}
use Rattle.gvcp_wire.specs.Messages.{PlainCommand, PlainAck}
use Rattle.gvcp_wire.specs.Reading.{ack_reading}
use Rattle.client_machine.specs.declared.outcome.Outcome.{Outcome}
use Rattle.client_machine.specs.declared.outcome.Outcome.TheVariants.{Waiting, Idle, Acked, Refused, NoAnswer}
use Rattle.client_machine.specs.Commands.{heartbeat}
use Rattle.client_machine.specs.Machine.{Asked, Client, goes_on, with_command, is_heartbeat_due, ticked_with, ticked, to_send, not_waiting, taken, received_ack, received_as, received}
use Rattle.client_machine.specs.Events.{Event, ticks, receives, Request, request_of}
use Rattle.client_machine.specs.Laws.{IsAnswered}
use Rattle.client_machine.proofs.Ends.{ends_exact}
use Rattle.control_client.specs.Values.{value_of}
use Rattle.gev_links.specs.Links.{Address, Answer, nothing, failed, came}
use Rattle.gev_control.specs.declared.turn_end.TurnEnd.{TurnEnd}
use Rattle.gev_control.specs.declared.turn_end.TurnEnd.TheVariants as ends
use Rattle.gev_control.specs.Controlled.{EndsAs, after_tick, ticks_turn, after_receive, control_of, listed, sent_by}
use Rattle.gev_control.specs.OrderLaws.{IsToldBy}
use Rattle.gev_control.specs.Telling.{told_value}
use Rattle.gev_control.proofs.Tellings.{told_heartbeat}
use Rattle.camera_control.specs.declared.control_end.ControlEnd.{ControlEnd}
use Rattle.camera_control.specs.declared.control_end.ControlEnd.TheVariants as causes
use Rattle.camera_control.specs.Steps.{is_held, lost_cause}
use Rattle.first_leader.specs.Waiting.{beat_cause}
use Rattle.live_promises.specs.Moves.{sends_all, moves_sent, moves_heard, datagrams}
use Rattle.live_promises.specs.Acts.{Act, turns, gets, behind_all, sent_if, moves_in, AreTimed, NoneLost, Ended, ended_as, ended_in, submitted_if, submitted_in, asked_in}
use Rattle.live_promises.specs.ReceiveCauses.{IsRefused, HasLost}
use Rattle.live_promises.proofs.Acting.{ended-append, whole_both}
use Rattle.live_promises.proofs.Lists.{given_up_idle, taken_idle, ticks_sent}
use Rattle.live_promises.proofs.Outstanding.{IsOut, tick_out, StillOut, receive_out, EndsIt}
use Rattle.live_promises.proofs.Stepping.{GaveUp, gave_later, Outs}
use Rattle.live_promises.proofs.Logs.{Awaited, CauseFrom, refused_later}

-- ---- acts
-- where the command was refused the client doesn't tick
abbrev pub ticks_unless : Outcome → ℕ → Bool → List Act
ticks_unless (Waiting req) moment sent = turns None moment sent ∷ []
ticks_unless Idle moment sent = turns None moment sent ∷ []
ticks_unless Acked moment sent = turns None moment sent ∷ []
ticks_unless (Refused status) moment sent = []
ticks_unless (NoAnswer req) moment sent = turns None moment sent ∷ []

abbrev pub control_acts : Client → Option Answer → ℕ → Bool → List Act
control_acts s None moment sent = []
control_acts s (Some nothing) moment sent = turns None moment sent ∷ []
control_acts s (Some failed) moment sent = []
control_acts s (Some (came bytes peer)) moment sent = gets bytes moment ∷ ticks_unless (received s bytes moment).outcome moment sent

-- what the client had to send was sent
abbrev pub is_on : TurnEnd → Bool
is_on ends.GoesOn = true
is_on ends.Fault = false
is_on (ends.NoAnswer req) = false
is_on (ends.Refused status) = false

-- ---- the client, and the link
tick_state : (es : List Event) (c : Client) (o : Outcome) → ((req : ℕ) → o ≡ NoAnswer req → c.asked ≡ None) → (after_tick es c o).state ≡ taken c
tick_state es c (Waiting req) up = refl
tick_state es c Idle up = refl
tick_state es c Acked up = refl
tick_state es c (Refused status) up = refl
tick_state es c (NoAnswer req) up = sym (taken_idle c (up req refl))

ticks_state : (es : List Event) (s : Client) (moment : ℕ) → (ticks_turn es s moment).state ≡ taken (ticked s moment).client
ticks_state es s moment = tick_state (es ++ ticks moment ∷ []) (ticked s moment).client (ticked s moment).outcome (λ req is. given_up_idle s moment req is)

receive_state : (es : List Event) (c : Client) (o : Outcome) (moment : ℕ) (sent : Bool) → (after_receive es c o moment).state ≡ behind_all c (ticks_unless o moment sent)
receive_state es c (Waiting req) moment sent = ticks_state es c moment
receive_state es c Idle moment sent = ticks_state es c moment
receive_state es c Acked moment sent = ticks_state es c moment
receive_state es c (Refused status) moment sent = refl
receive_state es c (NoAnswer req) moment sent = ticks_state es c moment

pub control_behind : (s : Client) (heard : Option Answer) (moment : ℕ) (sent : Bool) → (control_of s heard moment).state ≡ behind_all s (control_acts s heard moment sent)
control_behind s None moment sent = refl
control_behind s (Some nothing) moment sent = ticks_state [] s moment
control_behind s (Some failed) moment sent = refl
control_behind s (Some (came bytes peer)) moment sent =
    receive_state (receives bytes moment ∷ []) (received s bytes moment).client (received s bytes moment).outcome moment sent

tick_send : (es : List Event) (c : Client) (o : Outcome) → ((req : ℕ) → o ≡ NoAnswer req → c.asked ≡ None) → to_send c.asked ≡ (after_tick es c o).send
tick_send es c (Waiting req) up = refl
tick_send es c Idle up = refl
tick_send es c Acked up = refl
tick_send es c (Refused status) up = refl
tick_send es c (NoAnswer req) up = ap to_send (up req refl)

-- what a tick sends
one_sent : (es : List Event) (s : Client) (moment : ℕ) → moves_sent (moves_in s (turns None moment true ∷ [])) ≡ listed (ticks_turn es s moment).send
one_sent es s moment =
    ticks_sent s (sent_if true (to_send (ticked s moment).client.asked)) [] refl
    ∙ ap listed (tick_send (es ++ ticks moment ∷ []) (ticked s moment).client (ticked s moment).outcome (λ req is. given_up_idle s moment req is))

unless_sent : (es : List Event) (c : Client) (o : Outcome) (moment : ℕ) → moves_sent (moves_in c (ticks_unless o moment true)) ≡ listed (after_receive es c o moment).send
unless_sent es c (Waiting req) moment = one_sent es c moment
unless_sent es c Idle moment = one_sent es c moment
unless_sent es c Acked moment = one_sent es c moment
unless_sent es c (Refused status) moment = refl
unless_sent es c (NoAnswer req) moment = one_sent es c moment

all_sent : (s : Client) (heard : Option Answer) (moment : ℕ) → moves_sent (moves_in s (control_acts s heard moment true)) ≡ listed (control_of s heard moment).send
all_sent s None moment = refl
all_sent s (Some nothing) moment = one_sent [] s moment
all_sent s (Some failed) moment = refl
all_sent s (Some (came bytes peer)) moment =
    unless_sent (receives bytes moment ∷ []) (received s bytes moment).client (received s bytes moment).outcome moment

unless_lost : (c : Client) (o : Outcome) (moment : ℕ) → moves_sent (moves_in c (ticks_unless o moment false)) ≡ []
unless_lost c (Waiting req) moment = refl
unless_lost c Idle moment = refl
unless_lost c Acked moment = refl
unless_lost c (Refused status) moment = refl
unless_lost c (NoAnswer req) moment = refl

none_sent : (s : Client) (heard : Option Answer) (moment : ℕ) → moves_sent (moves_in s (control_acts s heard moment false)) ≡ []
none_sent s None moment = refl
none_sent s (Some nothing) moment = refl
none_sent s (Some failed) moment = refl
none_sent s (Some (came bytes peer)) moment = unless_lost (received s bytes moment).client (received s bytes moment).outcome moment

pub control_sent : (s : Client) (heard : Option Answer) (moment : ℕ) (end : TurnEnd)
    → moves_sent (moves_in s (control_acts s heard moment (is_on end))) ≡ sent_by end (control_of s heard moment).send
control_sent s heard moment ends.GoesOn = all_sent s heard moment
control_sent s heard moment ends.Fault = none_sent s heard moment
control_sent s heard moment (ends.NoAnswer req) = none_sent s heard moment
control_sent s heard moment (ends.Refused status) = none_sent s heard moment

-- what is heard by ticks
sends_hear : (o : Option (List ℕ)) (sent : Bool) → moves_heard (sends_all (sent_if sent o)) ≡ []
sends_hear None true = refl
sends_hear None false = refl
sends_hear (Some bytes) true = refl
sends_hear (Some bytes) false = refl

tick_heard : (s : Client) (moment : ℕ) (sent : Bool) → moves_heard (moves_in s (turns None moment sent ∷ [])) ≡ []
tick_heard s moment sent =
    ap moves_heard (append-nil (sends_all (sent_if sent (to_send (ticked s moment).client.asked)))) ∙ sends_hear (to_send (ticked s moment).client.asked) sent

unless_heard : (c : Client) (o : Outcome) (moment : ℕ) (sent : Bool) → moves_heard (moves_in c (ticks_unless o moment sent)) ≡ []
unless_heard c (Waiting req) moment sent = tick_heard c moment sent
unless_heard c Idle moment sent = tick_heard c moment sent
unless_heard c Acked moment sent = tick_heard c moment sent
unless_heard c (Refused status) moment sent = refl
unless_heard c (NoAnswer req) moment sent = tick_heard c moment sent

pub control_heard : (s : Client) (heard : Option Answer) (moment : ℕ) (sent : Bool) → datagrams (listed heard) ≡ moves_heard (moves_in s (control_acts s heard moment sent))
control_heard s None moment sent = refl
control_heard s (Some nothing) moment sent = sym (tick_heard s moment sent)
control_heard s (Some failed) moment sent = refl
control_heard s (Some (came bytes peer)) moment sent =
    ap (λ (l : List (List ℕ)). bytes ∷ l) (sym (unless_heard (received s bytes moment).client (received s bytes moment).outcome moment sent))

unless_timed : (o : Outcome) (moment : ℕ) (sent : Bool) → AreTimed (moment ∷ []) (ticks_unless o moment sent)
unless_timed (Waiting req) moment sent = (inl refl, tt)
unless_timed Idle moment sent = (inl refl, tt)
unless_timed Acked moment sent = (inl refl, tt)
unless_timed (Refused status) moment sent = tt
unless_timed (NoAnswer req) moment sent = (inl refl, tt)

pub control_timed : (s : Client) (heard : Option Answer) (moment : ℕ) (sent : Bool) → AreTimed (moment ∷ []) (control_acts s heard moment sent)
control_timed s None moment sent = tt
control_timed s (Some nothing) moment sent = (inl refl, tt)
control_timed s (Some failed) moment sent = tt
control_timed s (Some (came bytes peer)) moment sent = (inl refl, unless_timed (received s bytes moment).outcome moment sent)

submits_nothing : (o : Option Asked) → submitted_if o None ≡ []
submits_nothing None = refl
submits_nothing (Some asked) = refl

tick_submits : (s : Client) (moment : ℕ) (sent : Bool) → submitted_in s (turns None moment sent ∷ []) ≡ []
tick_submits s moment sent = ap (λ (l : List PlainCommand). l ++ []) (submits_nothing s.asked)

unless_submits : (c : Client) (o : Outcome) (moment : ℕ) (sent : Bool) → submitted_in c (ticks_unless o moment sent) ≡ []
unless_submits c (Waiting req) moment sent = tick_submits c moment sent
unless_submits c Idle moment sent = tick_submits c moment sent
unless_submits c Acked moment sent = tick_submits c moment sent
unless_submits c (Refused status) moment sent = refl
unless_submits c (NoAnswer req) moment sent = tick_submits c moment sent

pub control_submits : (s : Client) (heard : Option Answer) (moment : ℕ) (sent : Bool) → submitted_in s (control_acts s heard moment sent) ≡ []
control_submits s None moment sent = refl
control_submits s (Some nothing) moment sent = tick_submits s moment sent
control_submits s (Some failed) moment sent = refl
control_submits s (Some (came bytes peer)) moment sent = unless_submits (received s bytes moment).client (received s bytes moment).outcome moment sent

unless_asks : (o : Outcome) (moment : ℕ) (sent : Bool) → asked_in (ticks_unless o moment sent) ≡ []
unless_asks (Waiting req) moment sent = refl
unless_asks Idle moment sent = refl
unless_asks Acked moment sent = refl
unless_asks (Refused status) moment sent = refl
unless_asks (NoAnswer req) moment sent = refl

pub control_asks : (s : Client) (heard : Option Answer) (moment : ℕ) (sent : Bool) → asked_in (control_acts s heard moment sent) ≡ []
control_asks s None moment sent = refl
control_asks s (Some nothing) moment sent = refl
control_asks s (Some failed) moment sent = refl
control_asks s (Some (came bytes peer)) moment sent = unless_asks (received s bytes moment).outcome moment sent

unless_whole : (o : Outcome) (moment : ℕ) → NoneLost (ticks_unless o moment true)
unless_whole (Waiting req) moment = (refl, tt)
unless_whole Idle moment = (refl, tt)
unless_whole Acked moment = (refl, tt)
unless_whole (Refused status) moment = tt
unless_whole (NoAnswer req) moment = (refl, tt)

pub control_whole : (s : Client) (heard : Option Answer) (moment : ℕ) → NoneLost (control_acts s heard moment true)
control_whole s None moment = tt
control_whole s (Some nothing) moment = (refl, tt)
control_whole s (Some failed) moment = tt
control_whole s (Some (came bytes peer)) moment = (refl, unless_whole (received s bytes moment).outcome moment)

-- ---- what is outstanding is a heartbeat
pub outs_out : (P : Request → Type 0) (r : Request) (s : Client) → IsOut r s → P r → Outs P s
outs_out P r s out so asked is =
    let both : Some out.0 ≡ Some asked = sym out.1.0 ∙ is in
    subst P (sym out.1.1 ∙ ap request_of (same both)) so
  where
    same : Some out.0 ≡ Some asked → out.0 ≡ asked
    same e = cc

pub outs_none : (P : Request → Type 0) (s : Client) → s.asked ≡ None → Outs P s
outs_none P s idle asked is = let bad : None ≡ Some asked = sym idle ∙ is in absurd (cc)

receive_idle : (s : Client) (moment : ℕ) (reading : Result PlainAck ControlError) → s.asked ≡ None → (received_as reading s moment).client.asked ≡ None
receive_idle s moment (Ok ack) idle = subst (λ (o : Option Asked). (received_ack o s ack moment).client.asked ≡ None) (sym idle) idle
receive_idle s moment (Err e) idle = idle

pub receive_outs : (P : Request → Type 0) (s : Client) (bytes : List ℕ) (moment : ℕ) → Outs P s → Outs P (received s bytes moment).client
receive_outs P s bytes moment outs = go s.asked refl
  where
    by_end : (asked : Asked) → s.asked ≡ Some asked → ((StillOut (request_of asked) (received s bytes moment)) × (ended_as s.asked (ack_reading bytes) ≡ []))
        ⊎ EndsIt (request_of asked) (ended_as s.asked (ack_reading bytes)) (received s bytes moment) → Outs P (received s bytes moment).client
    by_end asked is (inl out) = outs_out P (request_of asked) (received s bytes moment).client (out.0.asked, (out.0.is, out.0.of_request)) (outs asked is)
    by_end asked is (inr it) = outs_none P (received s bytes moment).client it.idle

    go : (o : Option Asked) → s.asked ≡ o → Outs P (received s bytes moment).client
    go None idle = outs_none P (received s bytes moment).client (receive_idle s moment (ack_reading bytes) idle)
    go (Some asked) is = by_end asked is (receive_out (request_of asked) s bytes moment (asked, (is, refl)))

tick_fresh : (s : Client) (moment : ℕ) (due : Bool) → s.asked ≡ None → Outs (Awaited true) (goes_on (if due then with_command s heartbeat moment else s)).client
tick_fresh s moment true idle = outs_out (Awaited true) _ (with_command s heartbeat moment) (_, (refl, refl)) refl
tick_fresh s moment false idle = outs_none (Awaited true) s idle

pub tick_outs : (s : Client) (moment : ℕ) → Outs (Awaited true) s → Outs (Awaited true) (taken (ticked s moment).client)
tick_outs s moment outs = taken_outs (go s.asked refl)
  where
    taken_outs : Outs (Awaited true) (ticked s moment).client → Outs (Awaited true) (taken (ticked s moment).client)
    taken_outs before asked is = from (ticked s moment).client.asked refl is
      where
        from : (o : Option Asked) → (ticked s moment).client.asked ≡ o → option_map not_waiting (ticked s moment).client.asked ≡ Some asked → Awaited true (request_of asked)
        from None none there = let bad : None ≡ Some asked = sym (ap (option_map not_waiting) none) ∙ there in absurd (cc)
        from (Some x) some there =
            let both : Some (not_waiting x) ≡ Some asked = sym (ap (option_map not_waiting) some) ∙ there in
            subst (Awaited true) (ap request_of (same x both)) (before x some)
          where
            same : (x : Asked) → Some (not_waiting x) ≡ Some asked → not_waiting x ≡ asked
            same x e = cc

    by_end : (asked : Asked) → s.asked ≡ Some asked → StillOut (request_of asked) (ticked s moment) ⊎ ((req : ℕ) × ((ticked s moment).outcome ≡ NoAnswer req))
        → Outs (Awaited true) (ticked s moment).client
    by_end asked is (inl out) = outs_out (Awaited true) (request_of asked) (ticked s moment).client (out.asked, (out.is, out.of_request)) (outs asked is)
    by_end asked is (inr up) = outs_none (Awaited true) (ticked s moment).client (given_up_idle s moment up.0 up.1)

    go : (o : Option Asked) → s.asked ≡ o → Outs (Awaited true) (ticked s moment).client
    go None idle =
        subst (λ (o : Option Asked). Outs (Awaited true) (ticked_with o s moment).client) (sym idle) (tick_fresh s moment (is_heartbeat_due s.ended moment) idle)
    go (Some asked) is = by_end asked is (tick_out (request_of asked) s moment (asked, (is, refl)))

unless_outs : (c : Client) (o : Outcome) (moment : ℕ) (sent : Bool) → Outs (Awaited true) c → Outs (Awaited true) (behind_all c (ticks_unless o moment sent))
unless_outs c (Waiting req) moment sent outs = tick_outs c moment outs
unless_outs c Idle moment sent outs = tick_outs c moment outs
unless_outs c Acked moment sent outs = tick_outs c moment outs
unless_outs c (Refused status) moment sent outs = outs
unless_outs c (NoAnswer req) moment sent outs = tick_outs c moment outs

pub control_outs : (s : Client) (heard : Option Answer) (moment : ℕ) (sent : Bool) → Outs (Awaited true) s → Outs (Awaited true) (behind_all s (control_acts s heard moment sent))
control_outs s None moment sent outs = outs
control_outs s (Some nothing) moment sent outs = tick_outs s moment outs
control_outs s (Some failed) moment sent outs = outs
control_outs s (Some (came bytes peer)) moment sent outs =
    unless_outs (received s bytes moment).client (received s bytes moment).outcome moment sent (receive_outs (Awaited true) s bytes moment outs)

-- ---- how it ended all
-- the acknowledge of the outstanding command
answered_ended : (s : Client) (bytes : List ℕ) (status : ℕ) (a : IsAnswered s bytes status) → ended_as s.asked (ack_reading bytes) ≡ record { asked = a.asked; ack = a.ack } ∷ []
answered_ended s bytes status a = rw (a.outstanding, a.read, a.matches) refl

unless_ended : (c : Client) (o : Outcome) (moment : ℕ) (sent : Bool) → ended_in c (ticks_unless o moment sent) ≡ []
unless_ended c (Waiting req) moment sent = refl
unless_ended c Idle moment sent = refl
unless_ended c Acked moment sent = refl
unless_ended c (Refused status) moment sent = refl
unless_ended c (NoAnswer req) moment sent = refl

came_ended : (s : Client) (bytes : List ℕ) (peer : Address) (moment status : ℕ) (sent : Bool) (a : IsAnswered s bytes status)
    → ended_in s (control_acts s (Some (came bytes peer)) moment sent) ≡ record { asked = a.asked; ack = a.ack } ∷ []
came_ended s bytes peer moment status sent a =
    ap (λ (l : List Ended). ended_as s.asked (ack_reading bytes) ++ l) (unless_ended (received s bytes moment).client (received s bytes moment).outcome moment sent)
    ∙ (append-nil (ended_as s.asked (ack_reading bytes)) ∙ answered_ended s bytes status a)

-- a heartbeat told that control is lost
lost_there : (s : Client) (heard : Option Answer) (moment privilege : ℕ) (sent : Bool) (u : Client) (told : IsToldBy s heard u) → Outs (Awaited true) s
    → value_of u.body ≡ Some privilege → is_held privilege ≡ false → HasLost 0 (ended_in s (control_acts s heard moment sent))
lost_there s heard moment privilege sent u told outs value held = record {
  before = [];
  ended = record { asked = told.answered.asked; ack = told.answered.ack };
  later = [];
  are =
      ap (λ (h : Option Answer). ended_in s (control_acts s h moment sent)) told.came_so
      ∙ came_ended s told.bytes told.peer moment 0 sent told.answered;
  behind = omega arith;
  beats = outs told.answered.asked told.answered.outstanding;
  lost = (
    privilege,
    (ap (λ (n : ℕ). if n == 0 then value_of told.answered.ack.body else None) told.answered.status_is ∙ (ap value_of (sym told.body) ∙ value), held),
  );
}

-- the cause, where one ended all
abbrev pub CausedIf : Client → List Act → Option ControlEnd → Type 0
CausedIf s acts None = NoneLost acts
CausedIf s acts (Some cause) = CauseFrom (ended_in s acts) (NoneLost acts) (λ (req : ℕ). GaveUp req s acts) cause

lost_if : (s : Client) (acts : List Act) (b : Bool) → NoneLost acts → (b ≡ false → HasLost 0 (ended_in s acts)) → CausedIf s acts (if b then None else Some causes.ControlLost)
lost_if s acts true whole lost = whole
lost_if s acts false whole lost = (lost refl, whole)

goes_lost : (s : Client) (heard : Option Answer) (moment : ℕ) (x y : Option Asked) (u : Client) → s.asked ≡ x → u.asked ≡ y → u ≡ (control_of s heard moment).state
    → (control_of s heard moment).end ≡ ends.GoesOn → Outs (Awaited true) s
    → CausedIf s (control_acts s heard moment true) (lost_cause true (told_value (is_some x) y u))
goes_lost s heard moment None y u before after is on outs = control_whole s heard moment
goes_lost s heard moment (Some a) (Some b) u before after is on outs = control_whole s heard moment
goes_lost s heard moment (Some a) None u before after is on outs = value (value_of u.body) refl
  where
    told : IsToldBy s heard u
    told = subst (λ (x : Client). IsToldBy s heard x) (sym is)
        (told_heartbeat s heard moment (subst IsSome (sym before) refl) on (ap (λ (x : Client). x.asked) (sym is) ∙ after))

    value : (v : Option ℕ) → value_of u.body ≡ v → CausedIf s (control_acts s heard moment true) (lost_cause true v)
    value None read = control_whole s heard moment
    value (Some privilege) read =
        lost_if s (control_acts s heard moment true) (is_held privilege) (control_whole s heard moment)
        (λ held. lost_there s heard moment privilege true u told outs read held)

-- the command was refused
tick_refuses : (es : List Event) (c : Client) (o : Outcome) (status : ℕ) → (after_tick es c o).end ≡ ends.Refused status → ⊥
tick_refuses es c (Waiting req) status is = cc
tick_refuses es c Idle status is = cc
tick_refuses es c Acked status is = cc
tick_refuses es c (Refused x) status is = cc
tick_refuses es c (NoAnswer req) status is = cc

receive_refuses : (es : List Event) (c : Client) (o : Outcome) (moment status : ℕ) → (after_receive es c o moment).end ≡ ends.Refused status → o ≡ Refused status
receive_refuses es c (Waiting req) moment status is = absurd (tick_refuses (es ++ ticks moment ∷ []) (ticked c moment).client (ticked c moment).outcome status is)
receive_refuses es c Idle moment status is = absurd (tick_refuses (es ++ ticks moment ∷ []) (ticked c moment).client (ticked c moment).outcome status is)
receive_refuses es c Acked moment status is = absurd (tick_refuses (es ++ ticks moment ∷ []) (ticked c moment).client (ticked c moment).outcome status is)
receive_refuses es c (Refused x) moment status is = let same : x ≡ status = number is in ap (λ (n : ℕ). Refused n) same
  where
    number : ends.Refused x ≡ ends.Refused status → x ≡ status
    number e = cc
receive_refuses es c (NoAnswer req) moment status is = absurd (tick_refuses (es ++ ticks moment ∷ []) (ticked c moment).client (ticked c moment).outcome status is)

refused_whole : (o : Outcome) (moment status : ℕ) (sent : Bool) → o ≡ Refused status → NoneLost (ticks_unless o moment sent)
refused_whole (Waiting req) moment status sent is = let bad : ⊥ = cc in absurd bad
refused_whole Idle moment status sent is = let bad : ⊥ = cc in absurd bad
refused_whole Acked moment status sent is = let bad : ⊥ = cc in absurd bad
refused_whole (Refused x) moment status sent is = tt
refused_whole (NoAnswer req) moment status sent is = let bad : ⊥ = cc in absurd bad

control_refuses : (s : Client) (heard : Option Answer) (moment status : ℕ) (sent : Bool) → (control_of s heard moment).end ≡ ends.Refused status → Outs (Awaited true) s
    → IsRefused CCP status (ended_in s (control_acts s heard moment sent)) × NoneLost (control_acts s heard moment sent)
control_refuses s None moment status sent is outs = let bad : ⊥ = cc in absurd bad
control_refuses s (Some nothing) moment status sent is outs = absurd (tick_refuses (ticks moment ∷ []) (ticked s moment).client (ticked s moment).outcome status is)
control_refuses s (Some failed) moment status sent is outs = let bad : ⊥ = cc in absurd bad
control_refuses s (Some (came bytes peer)) moment status sent is outs =
    let o : (received s bytes moment).outcome ≡ Refused status =
    receive_refuses (receives bytes moment ∷ []) (received s bytes moment).client (received s bytes moment).outcome moment status is in
    let a : IsAnswered s bytes status × (status ≢ 0) = ((ends_exact s).refused bytes moment status).0 o in (
      record {
        before = [];
        ended = record { asked = a.0.asked; ack = a.0.ack };
        later = [];
        are = came_ended s bytes peer moment status sent a.0;
        command = heartbeat;
        of_register = inl refl;
        answers = outs a.0.asked a.0.outstanding;
        status_is = a.0.status_is;
        refused = a.1;
      },
      (refl, refused_whole (received s bytes moment).outcome moment status sent o),
    )

-- the command was given up
tick_gives : (es : List Event) (c : Client) (o : Outcome) (req : ℕ) → (after_tick es c o).end ≡ ends.NoAnswer req → o ≡ NoAnswer req
tick_gives es c (Waiting x) req is = let bad : ⊥ = cc in absurd bad
tick_gives es c Idle req is = let bad : ⊥ = cc in absurd bad
tick_gives es c Acked req is = let bad : ⊥ = cc in absurd bad
tick_gives es c (Refused status) req is = let bad : ⊥ = cc in absurd bad
tick_gives es c (NoAnswer x) req is = let same : x ≡ req = number is in ap (λ (n : ℕ). NoAnswer n) same
  where
    number : ends.NoAnswer x ≡ ends.NoAnswer req → x ≡ req
    number e = cc

one_gives : (es : List Event) (s : Client) (moment req : ℕ) (sent : Bool) → (ticks_turn es s moment).end ≡ ends.NoAnswer req → GaveUp req s (turns None moment sent ∷ [])
one_gives es s moment req sent is = record {
  before = [];
  given = None;
  moment = moment;
  sent = sent;
  later = [];
  are = refl;
  up = tick_gives (es ++ ticks moment ∷ []) (ticked s moment).client (ticked s moment).outcome req is;
  whole = tt;
}

receive_gives : (es : List Event) (c : Client) (o : Outcome) (moment req : ℕ) (sent : Bool) → (after_receive es c o moment).end ≡ ends.NoAnswer req → GaveUp req c (ticks_unless o moment sent)
receive_gives es c (Waiting x) moment req sent is = one_gives es c moment req sent is
receive_gives es c Idle moment req sent is = one_gives es c moment req sent is
receive_gives es c Acked moment req sent is = one_gives es c moment req sent is
receive_gives es c (Refused status) moment req sent is = let bad : ⊥ = cc in absurd bad
receive_gives es c (NoAnswer x) moment req sent is = one_gives es c moment req sent is

control_gives : (s : Client) (heard : Option Answer) (moment req : ℕ) (sent : Bool) → (control_of s heard moment).end ≡ ends.NoAnswer req → GaveUp req s (control_acts s heard moment sent)
control_gives s None moment req sent is = let bad : ⊥ = cc in absurd bad
control_gives s (Some nothing) moment req sent is = one_gives [] s moment req sent is
control_gives s (Some failed) moment req sent is = let bad : ⊥ = cc in absurd bad
control_gives s (Some (came bytes peer)) moment req sent is =
    gave_later req s (gets bytes moment ∷ []) (ticks_unless (received s bytes moment).outcome moment sent) (refl, tt)
    (receive_gives (receives bytes moment ∷ []) (received s bytes moment).client (received s bytes moment).outcome moment req sent is)

pub control_caused : (s : Client) (heard : Option Answer) (moment : ℕ) (end : TurnEnd) (u : Client) → EndsAs end (control_of s heard moment).end → u ≡ (control_of s heard moment).state
    → Outs (Awaited true) s → CausedIf s (control_acts s heard moment (is_on end)) (beat_cause end (told_value (is_some s.asked) u.asked u))
control_caused s heard moment ends.GoesOn u ends_as is outs = goes_lost s heard moment s.asked u.asked u refl refl is ends_as outs
control_caused s heard moment ends.Fault u ends_as is outs = tt
control_caused s heard moment (ends.NoAnswer req) u ends_as is outs = control_gives s heard moment req false ends_as
control_caused s heard moment (ends.Refused status) u ends_as is outs = control_refuses s heard moment status false ends_as outs

-- no heartbeat tells that another application controls the camera
abbrev pub is_other : ControlEnd → Bool
is_other causes.LinkFault = false
is_other (causes.NoAnswer req) = false
is_other (causes.RefusedAt register status) = false
is_other causes.Controlled = true
is_other causes.ControlLost = false

abbrev pub is_other_if : Option ControlEnd → Bool
is_other_if None = false
is_other_if (Some cause) = is_other cause

lost_other : (b : Bool) → is_other_if (if b then None else Some causes.ControlLost) ≡ false
lost_other true = refl
lost_other false = refl

pub beat_other : (end : TurnEnd) (told : Option ℕ) → is_other_if (beat_cause end told) ≡ false
beat_other ends.GoesOn None = refl
beat_other ends.GoesOn (Some privilege) = lost_other (is_held privilege)
beat_other ends.Fault told = refl
beat_other (ends.NoAnswer req) told = refl
beat_other (ends.Refused status) told = refl

-- ---- behind others
pub lost_later : (first all_first : ℕ) (front all : List Ended) → all_first ≤ length front + first → HasLost first all → HasLost all_first (front ++ all)
lost_later first all_first front all few has = record {
  before = front ++ has.before;
  ended = has.ended;
  later = has.later;
  are = ap (λ (l : List Ended). front ++ l) has.are ∙ sym (append_assoc front has.before (has.ended ∷ has.later));
  behind = omega (arith, few, has.behind, length-append front has.before);
  beats = has.beats;
  lost = has.lost;
}

pub lost_sooner : (first : ℕ) (all rest : List Ended) → HasLost first all → HasLost first (all ++ rest)
lost_sooner first all rest has = record {
  before = has.before;
  ended = has.ended;
  later = has.later ++ rest;
  are = ap (λ (l : List Ended). l ++ rest) has.are ∙ append_assoc has.before (has.ended ∷ has.later) rest;
  behind = has.behind;
  beats = has.beats;
  lost = has.lost;
}

pub caused_later : (s : Client) (xs ys : List Act) (cause : Option ControlEnd) → NoneLost xs → CausedIf (behind_all s xs) ys cause → CausedIf s (xs ++ ys) cause
caused_later s xs ys None whole so = whole_both xs ys whole so
caused_later s xs ys (Some causes.LinkFault) whole so = tt
caused_later s xs ys (Some (causes.NoAnswer req)) whole so = gave_later req s xs ys whole so
caused_later s xs ys (Some (causes.RefusedAt register status)) whole so = (
  subst (IsRefused register status) (sym (ended-append s xs ys)) (refused_later register status (ended_in s xs) (ended_in (behind_all s xs) ys) so.0),
  whole_both xs ys whole so.1,
)
caused_later s xs ys (Some causes.Controlled) whole so = whole_both xs ys whole so
caused_later s xs ys (Some causes.ControlLost) whole so = (
  subst (HasLost 0) (sym (ended-append s xs ys)) (lost_later 0 0 (ended_in s xs) (ended_in (behind_all s xs) ys) (omega arith) so.0),
  whole_both xs ys whole so.1,
)
