-- The outstanding command was sent as often as its record says, and wasn't acknowledged since.
use Rattle.std.proofs.Common.{◌≡◌, ℕ, ◌≤◌, Bool, true, false, List, [], ◌∷◌, Option, Some, None, Result, Ok, Err, refl, subst, arith}
use Rattle.std.specs.Prelude.{nat_lt, ◌==◌, ◌≢◌, if◌then◌else◌, option_map}
use Rattle.std.proofs.lemmas.Bool.{ltb-true, ltb-false}
use Rattle.gvcp_wire.specs.declared.message.ControlError.{ControlError}
use Rattle.gvcp_wire.specs.Messages.{PlainCommand, PlainAck}
use Rattle.gvcp_wire.specs.Reading.{ack_reading}
use Rattle.gvcp_wire.specs.BodyReading.{pending_reading}
use Rattle.client_machine.specs.declared.outcome.Outcome.TheVariants.{NoAnswer}
use Rattle.client_machine.specs.Times.{SENDS}
use Rattle.client_machine.specs.Commands.{is_match, heartbeat}
use Rattle.client_machine.specs.Machine.{Asked, goes_on, with_command, submitted_with, is_heartbeat_due, is_late, sent_again, ticked_with, not_waiting, outcome_after, pended, ended_by, received_ack, received_as}
use Rattle.client_machine.specs.Events.{Event, submits, ticks, takes, receives, after, request_of}
use Rattle.client_machine.specs.Laws.{HasWaited, first, again, meanwhile, HadNoAnswer, NoAnswerComesLast}

abbrev pub IsWaited : ℕ → Option Asked → List Event → Type 0
IsWaited limit None es = Unit {0}
IsWaited limit (Some asked) es = HasWaited limit (request_of asked) asked.sends es × (asked.sends ≤ 3)

waited_submits : (limit : ℕ) (es : List Event) (c : PlainCommand) (moment : ℕ) (before : Option Asked) → (after limit es).asked ≡ before → IsWaited limit before es
    → IsWaited limit (submitted_with before (after limit es) c moment).asked (submits c moment ∷ es)
waited_submits limit es c moment None e w = (first (submits c moment) es (rw e refl), omega arith)
waited_submits limit es c moment (Some asked) e w = rw e (meanwhile asked.sends (submits c moment) es w.0 (rw e refl) refl, w.1)

waited_idle : (limit : ℕ) (es : List Event) (moment : ℕ) (due : Bool) → (after limit es).asked ≡ None → is_heartbeat_due (after limit es).ended moment ≡ due
    → IsWaited limit (if due then with_command (after limit es) heartbeat moment else after limit es).asked (ticks moment ∷ es)
waited_idle limit es moment true e d = (first (ticks moment) es (rw (e, d) refl), omega arith)
waited_idle limit es moment false e d = rw e tt

waited_again : (limit : ℕ) (es : List Event) (moment : ℕ) (asked : Asked) (more : Bool) → (after limit es).asked ≡ Some asked → is_late asked moment ≡ true
    → nat_lt asked.sends SENDS ≡ more → HasWaited limit (request_of asked) asked.sends es
    → IsWaited limit (if more then goes_on (record (after limit es) { asked = Some (sent_again (after limit es).limit asked moment) })
    else record { client = record (after limit es) { asked = None }; outcome = NoAnswer asked.req }).client.asked (ticks moment ∷ es)
waited_again limit es moment asked true e late m w =
    (again asked.sends (ticks moment) es w (rw (e, late, m) refl), omega (arith, ltb-true asked.sends SENDS m))
waited_again limit es moment asked false e late m w = tt

waited_late : (limit : ℕ) (es : List Event) (moment : ℕ) (asked : Asked) (late : Bool) → (after limit es).asked ≡ Some asked → is_late asked moment ≡ late
    → IsWaited limit (Some asked) es
    → IsWaited limit (if late then
    (if nat_lt asked.sends SENDS then goes_on (record (after limit es) { asked = Some (sent_again (after limit es).limit asked moment) })
    else record { client = record (after limit es) { asked = None }; outcome = NoAnswer asked.req })
    else goes_on (after limit es)).client.asked (ticks moment ∷ es)
waited_late limit es moment asked true e l w = waited_again limit es moment asked (nat_lt asked.sends SENDS) e l refl w.0
waited_late limit es moment asked false e l w = rw e (meanwhile asked.sends (ticks moment) es w.0 (rw (e, l) refl) refl, w.1)

waited_ticks : (limit : ℕ) (es : List Event) (moment : ℕ) (before : Option Asked) → (after limit es).asked ≡ before → IsWaited limit before es
    → IsWaited limit (ticked_with before (after limit es) moment).client.asked (ticks moment ∷ es)
waited_ticks limit es moment None e w = waited_idle limit es moment (is_heartbeat_due (after limit es).ended moment) e refl
waited_ticks limit es moment (Some asked) e w = waited_late limit es moment asked (is_late asked moment) e refl w

waited_takes : (limit : ℕ) (es : List Event) (before : Option Asked) → (after limit es).asked ≡ before → IsWaited limit before es
    → IsWaited limit (option_map not_waiting before) (takes ∷ es)
waited_takes limit es None e w = tt
waited_takes limit es (Some asked) e w = (meanwhile asked.sends takes es w.0 refl refl, w.1)

-- an event that leaves the command as it is, but for the limit
waited_receives : (limit : ℕ) (es : List Event) (bytes : List ℕ) (moment : ℕ) (ack : PlainAck) (asked : Asked) → ack_reading bytes ≡ Ok ack
    → is_match asked.code asked.req ack ≡ false → IsWaited limit (Some asked) es → IsWaited limit (Some asked) (receives bytes moment ∷ es)
waited_receives limit es bytes moment ack asked r m w = (meanwhile asked.sends (receives bytes moment) es w.0 refl (rw (r, m) refl), w.1)

waited_pended : (limit : ℕ) (es : List Event) (bytes : List ℕ) (moment : ℕ) (asked : Asked) (time : Option ℕ) → (after limit es).asked ≡ Some asked
    → IsWaited limit (Some asked) (receives bytes moment ∷ es) → IsWaited limit (pended (after limit es) asked time).client.asked (receives bytes moment ∷ es)
waited_pended limit es bytes moment asked None e w = rw e w
waited_pended limit es bytes moment asked (Some time) e w = w

waited_answered : (limit : ℕ) (es : List Event) (bytes : List ℕ) (moment : ℕ) (ack : PlainAck) (asked : Asked) (matches same : Bool)
    → ack_reading bytes ≡ Ok ack → (after limit es).asked ≡ Some asked → is_match asked.code asked.req ack ≡ matches → IsWaited limit (Some asked) es
    → IsWaited limit (if matches then ended_by (after limit es) ack moment
    else (if same then pended (after limit es) asked (pending_reading ack) else goes_on (after limit es))).client.asked (receives bytes moment ∷ es)
waited_answered limit es bytes moment ack asked true same r e m w = tt
waited_answered limit es bytes moment ack asked false true r e m w =
    waited_pended limit es bytes moment asked (pending_reading ack) e (waited_receives limit es bytes moment ack asked r m w)
waited_answered limit es bytes moment ack asked false false r e m w = rw e (waited_receives limit es bytes moment ack asked r m w)

waited_ack : (limit : ℕ) (es : List Event) (bytes : List ℕ) (moment : ℕ) (ack : PlainAck) (before : Option Asked) → ack_reading bytes ≡ Ok ack
    → (after limit es).asked ≡ before → IsWaited limit before es → IsWaited limit (received_ack before (after limit es) ack moment).client.asked (receives bytes moment ∷ es)
waited_ack limit es bytes moment ack None r e w = rw e tt
waited_ack limit es bytes moment ack (Some asked) r e w =
    waited_answered limit es bytes moment ack asked (is_match asked.code asked.req ack) (ack.req == asked.req) r e refl w

waited_refused : (limit : ℕ) (es : List Event) (bytes : List ℕ) (moment : ℕ) (x : ControlError) (before : Option Asked) → ack_reading bytes ≡ Err x
    → (after limit es).asked ≡ before → IsWaited limit before es → IsWaited limit before (receives bytes moment ∷ es)
waited_refused limit es bytes moment x None r e w = tt
waited_refused limit es bytes moment x (Some asked) r e w = (meanwhile asked.sends (receives bytes moment) es w.0 refl (rw r refl), w.1)

waited_received : (limit : ℕ) (es : List Event) (bytes : List ℕ) (moment : ℕ) (reading : Result PlainAck ControlError) → ack_reading bytes ≡ reading
    → IsWaited limit (after limit es).asked es → IsWaited limit (received_as reading (after limit es) moment).client.asked (receives bytes moment ∷ es)
waited_received limit es bytes moment (Ok ack) r w = waited_ack limit es bytes moment ack (after limit es).asked r refl w
waited_received limit es bytes moment (Err x) r w = waited_refused limit es bytes moment x (after limit es).asked r refl w

pub waited : (limit : ℕ) (es : List Event) → IsWaited limit (after limit es).asked es
waited limit [] = tt
waited limit (submits c moment ∷ es) = waited_submits limit es c moment (after limit es).asked refl (waited limit es)
waited limit (ticks moment ∷ es) = waited_ticks limit es moment (after limit es).asked refl (waited limit es)
waited limit (takes ∷ es) = waited_takes limit es (after limit es).asked refl (waited limit es)
waited limit (receives bytes moment ∷ es) = waited_received limit es bytes moment (ack_reading bytes) refl (waited limit es)

-- ---- no answer

not_no_answer : (o : Option Asked) (req : ℕ) → outcome_after o ≢ NoAnswer req
not_no_answer None req h = cc
not_no_answer (Some asked) req h = cc

given_up : (limit : ℕ) (es : List Event) (asked : Asked) (req : ℕ) → IsWaited limit (Some asked) es → nat_lt asked.sends SENDS ≡ false
    → NoAnswer asked.req ≡ NoAnswer req → HadNoAnswer limit es req
given_up limit es asked req w m e =
    let thrice : asked.sends ≡ 3 = omega (arith, ltb-false asked.sends SENDS m, w.1) in
    let same : asked.req ≡ req = cc in
    record {
      request = request_of asked;
      req_is = same;
      waited = subst (λ (n : ℕ). HasWaited limit (request_of asked) n es) thrice w.0;
    }

unless_more : (limit : ℕ) (es : List Event) (moment req : ℕ) (asked : Asked) (more : Bool) → nat_lt asked.sends SENDS ≡ more → IsWaited limit (Some asked) es
    → (if more then goes_on (record (after limit es) { asked = Some (sent_again (after limit es).limit asked moment) })
    else record { client = record (after limit es) { asked = None }; outcome = NoAnswer asked.req }).outcome ≡ NoAnswer req → HadNoAnswer limit es req
unless_more limit es moment req asked true m w h = absurd (not_no_answer (Some (sent_again (after limit es).limit asked moment)) req h)
unless_more limit es moment req asked false m w h = given_up limit es asked req w m h

unless_early : (limit : ℕ) (es : List Event) (moment req : ℕ) (asked : Asked) (late : Bool) → IsWaited limit (Some asked) es
    → (if late then
    (if nat_lt asked.sends SENDS then goes_on (record (after limit es) { asked = Some (sent_again (after limit es).limit asked moment) })
    else record { client = record (after limit es) { asked = None }; outcome = NoAnswer asked.req })
    else goes_on (after limit es)).outcome ≡ NoAnswer req → HadNoAnswer limit es req
unless_early limit es moment req asked true w h = unless_more limit es moment req asked (nat_lt asked.sends SENDS) refl w h
unless_early limit es moment req asked false w h = absurd (not_no_answer (after limit es).asked req h)

unless_idle : (limit : ℕ) (es : List Event) (moment req : ℕ) (before : Option Asked) → IsWaited limit before es
    → (ticked_with before (after limit es) moment).outcome ≡ NoAnswer req → HadNoAnswer limit es req
unless_idle limit es moment req None w h =
    absurd (not_no_answer (if is_heartbeat_due (after limit es).ended moment then with_command (after limit es) heartbeat moment else after limit es).asked req h)
unless_idle limit es moment req (Some asked) w h = unless_early limit es moment req asked (is_late asked moment) w h

pub no_answer_last : (limit : ℕ) (es : List Event) (moment req : ℕ) → NoAnswerComesLast limit es moment req
no_answer_last limit es moment req h = unless_idle limit es moment req (after limit es).asked (waited limit es) h
