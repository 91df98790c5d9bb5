-- Each outcome that ends a command comes at its own events.
use Rattle.std.proofs.Common.{◌≡◌, ◌⊎◌, ℕ, Bool, true, false, List, Option, Some, None, Result, Ok, Err, refl, ap, sym, ◌∙◌, inl, inr, subst}
use Rattle.std.specs.Prelude.{◌≢◌, ◌==◌, if◌then◌else◌, nat_lt}
use Rattle.std.proofs.lemmas.Bool.{eqb-true, eqb-false, ne_eqb}
use Rattle.gvcp_wire.specs.declared.message.ControlError.{ControlError}
use Rattle.gvcp_wire.specs.Messages.{PlainAck}
use Rattle.gvcp_wire.specs.Reading.{ack_reading}
use Rattle.gvcp_wire.specs.BodyReading.{pending_reading}
use Rattle.client_machine.specs.declared.outcome.Outcome.{Outcome}
use Rattle.client_machine.specs.declared.outcome.Outcome.TheVariants.{Acked, Refused, NoAnswer}
use Rattle.client_machine.specs.Times.{SENDS}
use Rattle.client_machine.specs.Commands.{is_match, heartbeat}
use Rattle.client_machine.specs.Machine.{Asked, Client, goes_on, outcome_after, ack_outcome, with_command, is_heartbeat_due, is_late, sent_again, ticked_with, ticked, pended, ended_by, received_ack, received_as, received}
use Rattle.client_machine.specs.Laws.{IsAnswered, EndsAreExact}

-- the outcome tells only whether a command is outstanding
pub record TellsState (outcome : Outcome) : Type 0 where
  pub asked : Option Asked
  pub told : outcome ≡ outcome_after asked

not_refused : (x : Outcome) (status : ℕ) → TellsState x → x ≢ Refused status
not_refused x status t h = go t.asked (sym t.told ∙ h)
  where
    go : (o : Option Asked) → outcome_after o ≢ Refused status
    go None e = cc
    go (Some asked) e = cc

not_acked : (x : Outcome) → TellsState x → x ≢ Acked
not_acked x t h = go t.asked (sym t.told ∙ h)
  where
    go : (o : Option Asked) → outcome_after o ≢ Acked
    go None e = cc
    go (Some asked) e = cc

not_no_answer : (x : Outcome) (req : ℕ) → TellsState x → x ≢ NoAnswer req
not_no_answer x req t h = go t.asked (sym t.told ∙ h)
  where
    go : (o : Option Asked) → outcome_after o ≢ NoAnswer req
    go None e = cc
    go (Some asked) e = cc

-- ---- ticks

-- a tick tells the state, or that a command had no answer
abbrev pub TickTells : Outcome → Type 0
TickTells x = TellsState x ⊎ ((req : ℕ) × (x ≡ NoAnswer req))

tick_tells_late : (s : Client) (moment : ℕ) (asked : Asked) (more late : Bool)
    → TickTells (if late then
    (if more then goes_on (record s { asked = Some (sent_again s.limit asked moment) })
    else record { client = record s { asked = None }; outcome = NoAnswer asked.req })
    else goes_on s).outcome
tick_tells_late s moment asked true true = inl (record { asked = Some (sent_again s.limit asked moment); told = refl })
tick_tells_late s moment asked false true = inr (asked.req, refl)
tick_tells_late s moment asked more false = inl (record { asked = s.asked; told = refl })

tick_tells : (s : Client) (moment : ℕ) (before : Option Asked) → TickTells (ticked_with before s moment).outcome
tick_tells s moment None =
    inl (record { asked = (if is_heartbeat_due s.ended moment then with_command s heartbeat moment else s).asked; told = refl })
tick_tells s moment (Some asked) = tick_tells_late s moment asked (nat_lt asked.sends SENDS) (is_late asked moment)

no_tick_refuses : (x : Outcome) (status : ℕ) → TickTells x → x ≢ Refused status
no_tick_refuses x status (inl t) h = not_refused x status t h
no_tick_refuses x status (inr n) h = let e : NoAnswer n.0 ≡ Refused status = sym n.1 ∙ h in cc

no_tick_acks : (x : Outcome) → TickTells x → x ≢ Acked
no_tick_acks x (inl t) h = not_acked x t h
no_tick_acks x (inr n) h = let e : NoAnswer n.0 ≡ Acked = sym n.1 ∙ h in cc

-- ---- arrivals

-- bytes end the command as a matching acknowledge, or the outcome tells the state
pub record EndsIt (s : Client) (bytes : List ℕ) (outcome : Outcome) : Type 0 where
  pub status : ℕ
  pub answered : IsAnswered s bytes status
  pub told : outcome ≡ ack_outcome status

abbrev pub ArrivalTells : Client → List ℕ → Outcome → Type 0
ArrivalTells s bytes x = TellsState x ⊎ EndsIt s bytes x

arrival_pended : (s : Client) (bytes : List ℕ) (asked : Asked) (time : Option ℕ) → ArrivalTells s bytes (pended s asked time).outcome
arrival_pended s bytes asked None = inl (record { asked = s.asked; told = refl })
arrival_pended s bytes asked (Some time) = inl (record { asked = (pended s asked (Some time)).client.asked; told = refl })

arrival_answered : (s : Client) (bytes : List ℕ) (moment : ℕ) (ack : PlainAck) (asked : Asked) (matches same : Bool)
    → ack_reading bytes ≡ Ok ack → s.asked ≡ Some asked → is_match asked.code asked.req ack ≡ matches
    → ArrivalTells s bytes (if matches then ended_by s ack moment
    else (if same then pended s asked (pending_reading ack) else goes_on s)).outcome
arrival_answered s bytes moment ack asked true same r e m = inr (record {
  status = ack.status;
  answered = record { asked = asked; ack = ack; outstanding = e; read = r; matches = m; status_is = refl };
  told = refl;
})
arrival_answered s bytes moment ack asked false true r e m = arrival_pended s bytes asked (pending_reading ack)
arrival_answered s bytes moment ack asked false false r e m = inl (record { asked = s.asked; told = refl })

arrival_ack : (s : Client) (bytes : List ℕ) (moment : ℕ) (ack : PlainAck) (before : Option Asked) → ack_reading bytes ≡ Ok ack → s.asked ≡ before
    → ArrivalTells s bytes (received_ack before s ack moment).outcome
arrival_ack s bytes moment ack None r e = inl (record { asked = s.asked; told = refl })
arrival_ack s bytes moment ack (Some asked) r e =
    arrival_answered s bytes moment ack asked (is_match asked.code asked.req ack) (ack.req == asked.req) r e refl

arrival_tells : (s : Client) (bytes : List ℕ) (moment : ℕ) (reading : Result PlainAck ControlError) → ack_reading bytes ≡ reading
    → ArrivalTells s bytes (received_as reading s moment).outcome
arrival_tells s bytes moment (Ok ack) r = arrival_ack s bytes moment ack s.asked r refl
arrival_tells s bytes moment (Err x) r = inl (record { asked = s.asked; told = refl })

-- the outcome at a matching acknowledge
answered-outcome : (s : Client) (bytes : List ℕ) (moment status : ℕ) → IsAnswered s bytes status → (received s bytes moment).outcome ≡ ack_outcome status
answered-outcome s bytes moment status a = rw (a.read, a.outstanding, a.matches) (ap ack_outcome a.status_is)

ack_outcome-refused : (status : ℕ) → status ≢ 0 → ack_outcome status ≡ Refused status
ack_outcome-refused status ne = rw (ne_eqb status 0 ne) refl

refused_status : (found status : ℕ) → ack_outcome found ≡ Refused status → (found ≡ status) × (status ≢ 0)
refused_status found status h = go (found == 0) refl h
  where
    go : (b : Bool) → (found == 0) ≡ b → (if b then Acked else Refused found) ≡ Refused status → (found ≡ status) × (status ≢ 0)
    go true e x = absurd (cc)
    go false e x = let same : found ≡ status = cc in (same, λ z. eqb-false found 0 e (same ∙ z))

acked_status : (found : ℕ) → ack_outcome found ≡ Acked → found ≡ 0
acked_status found h = go (found == 0) refl h
  where
    go : (b : Bool) → (found == 0) ≡ b → (if b then Acked else Refused found) ≡ Acked → found ≡ 0
    go true e x = eqb-true found 0 e
    go false e x = absurd (cc)

refused_from : (s : Client) (bytes : List ℕ) (x : Outcome) (status : ℕ) → ArrivalTells s bytes x → x ≡ Refused status
    → IsAnswered s bytes status × (status ≢ 0)
refused_from s bytes x status (inl t) h = absurd (not_refused x status t h)
refused_from s bytes x status (inr d) h =
    let found = refused_status d.status status (sym d.told ∙ h) in
    (subst (λ (n : ℕ). IsAnswered s bytes n) found.0 d.answered, found.1)

acked_from : (s : Client) (bytes : List ℕ) (x : Outcome) → ArrivalTells s bytes x → x ≡ Acked → IsAnswered s bytes 0
acked_from s bytes x (inl t) h = absurd (not_acked x t h)
acked_from s bytes x (inr d) h = subst (λ (n : ℕ). IsAnswered s bytes n) (acked_status d.status (sym d.told ∙ h)) d.answered

never_given_up : (s : Client) (bytes : List ℕ) (x : Outcome) (req : ℕ) → ArrivalTells s bytes x → x ≢ NoAnswer req
never_given_up s bytes x req (inl t) h = not_no_answer x req t h
never_given_up s bytes x req (inr d) h = go (d.status == 0) (sym d.told ∙ h)
  where
    go : (b : Bool) → (if b then Acked else Refused d.status) ≢ NoAnswer req
    go true e = cc
    go false e = cc

pub ends_exact : (s : Client) → EndsAreExact s
ends_exact s = record {
  refused = λ bytes moment status. (
    refused_from s bytes (received s bytes moment).outcome status (arrival_tells s bytes moment (ack_reading bytes) refl),
    λ a. answered-outcome s bytes moment status a.0 ∙ ack_outcome-refused status a.1,
  );
  acked = λ bytes moment. (
    acked_from s bytes (received s bytes moment).outcome (arrival_tells s bytes moment (ack_reading bytes) refl),
    λ a. answered-outcome s bytes moment 0 a,
  );
  no_tick_refuses = λ moment status. no_tick_refuses (ticked s moment).outcome status (tick_tells s moment s.asked);
  no_tick_acks = λ moment. no_tick_acks (ticked s moment).outcome (tick_tells s moment s.asked);
  only_ticks_give_up = λ bytes moment req.
      never_given_up s bytes (received s bytes moment).outcome req (arrival_tells s bytes moment (ack_reading bytes) refl);
}
