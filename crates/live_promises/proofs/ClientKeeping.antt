-- What the moves so far say of the command that is outstanding, through each step of the client.
use Rattle.std.proofs.Common.{◌≡◌, ◌⊎◌, ℕ, ◌+◌, ◌<◌, ◌≤◌, Bool, true, false, List, [], ◌∷◌, ◌++◌, Option, Some, None, Result, Ok, Err, refl, ap, sym, ◌∙◌, inl, inr, subst, arith}
use Rattle.std.proofs.lemmas.Bool.{ltb-true, ltb-false, leb-true}
use Rattle.std.specs.Prelude.{⊤, ◌==◌, if◌then◌else◌, nat_lt, nat_le, option_map}
use Rattle.gvcp_wire.specs.declared.message.ControlError.{ControlError}
use Rattle.gvcp_wire.specs.Messages.{PlainCommand, PlainAck}
use Rattle.gvcp_wire.specs.Control.{plain}
use Rattle.gvcp_wire.specs.Reading.{ack_reading}
use Rattle.gvcp_wire.specs.BodyReading.{pending_reading}
use Rattle.client_machine.specs.declared.outcome.Outcome.TheVariants.{NoAnswer}
use Rattle.client_machine.specs.Times.{SENDS}
use Rattle.client_machine.specs.Commands.{code_of, head_for, next_req, is_match, heartbeat}
use Rattle.client_machine.specs.Machine.{Asked, Client, Told, goes_on, outcome_after, with_command, submitted_with, is_heartbeat_due, is_late, sent_again, ticked_with, ticked, to_send, not_waiting, pended, ended_by, received_ack, received_as, received}
use Rattle.client_machine.specs.Events.{Request, request_of, new_request, is_answer}
use Rattle.gev_control.specs.Controlled.{listed}
use Rattle.live_promises.specs.Moves.{Move, sends, hears, sends_all, is_answering, later_moves}
use Rattle.live_promises.specs.ClientCauses.{HasSent, first, again, meanwhile, IsUnanswered}

pub later-append : (ms xs ys : List Move) → later_moves ms (xs ++ ys) ≡ later_moves (later_moves ms xs) ys
later-append ms [] ys = refl
later-append ms (x ∷ xs) ys = later-append (x ∷ ms) xs ys

-- the request is that of a command under its number
abbrev pub IsOfCommand : Request → Type 0
IsOfCommand r = (command : PlainCommand) × (r ≡ new_request r.req command)

-- Between two turns: the command that is outstanding was sent as often as it counts, three times at most.
abbrev pub Kept : Option Asked → List Move → Type 0
Kept None ms = ⊤
Kept (Some asked) ms = (asked.waits ≡ false) × (asked.sends ≤ 3) × HasSent (request_of asked) asked.sends ms × IsOfCommand (request_of asked)

-- Before its send the last one may be due.
abbrev pub DueBy : Bool → Asked → List Move → Type 0
DueBy false asked ms = HasSent (request_of asked) asked.sends ms
DueBy true asked ms = (asked.sends ≡ 1) ⊎ ((n : ℕ) × ((asked.sends ≡ n + 1) × HasSent (request_of asked) n ms))

abbrev pub Due : Option Asked → List Move → Type 0
Due None ms = ⊤
Due (Some asked) ms = (asked.sends ≤ 3) × DueBy asked.waits asked ms × IsOfCommand (request_of asked)

-- ---- a move that is no answer

pub kept_on : (o : Option Asked) (m : Move) (ms : List Move) → ((asked : Asked) → o ≡ Some asked → is_answering (request_of asked) m ≡ false) → Kept o ms → Kept o (m ∷ ms)
kept_on None m ms other kept = tt
kept_on (Some asked) m ms other kept = (kept.0, kept.1, meanwhile asked.sends m ms kept.2 (other asked refl), kept.3)

pub kept_sends : (o : Option Asked) (xs : List (List ℕ)) (ms : List Move) → Kept o ms → Kept o (later_moves ms (sends_all xs))
kept_sends o [] ms kept = kept
kept_sends o (x ∷ xs) ms kept = kept_sends o xs (sends x ∷ ms) (kept_on o (sends x) ms (λ asked is. refl) kept)

-- ---- the send

take_one : (b : Bool) (asked : Asked) (ms : List Move) → asked.sends ≤ 3 → DueBy b asked ms → IsOfCommand (request_of asked)
    → Kept (Some (not_waiting asked)) (later_moves ms (sends_all (listed (if b then Some asked.bytes else None))))
take_one true asked ms few (inl one) command =
    (refl, few, subst (λ n. HasSent (request_of asked) n (sends asked.bytes ∷ ms)) (sym one) (first ms), command)
take_one true asked ms few (inr more) command =
    (refl, few, subst (λ n. HasSent (request_of asked) n (sends asked.bytes ∷ ms)) (sym more.1.0) (again more.0 ms more.1.1), command)
take_one false asked ms few sent command = (refl, few, sent, command)

pub take_kept : (o : Option Asked) (ms : List Move) → Due o ms → Kept (option_map not_waiting o) (later_moves ms (sends_all (listed (to_send o))))
take_kept None ms due = tt
take_kept (Some asked) ms due = take_one asked.waits asked ms due.0 due.1 due.2

-- ---- the tick

-- Its send may be due, or it had no answer.
abbrev pub TickCame : Told → List Move → Type 0
TickCame told ms =
    (Due told.client.asked ms × (told.outcome ≡ outcome_after told.client.asked))
    ⊎ ((req : ℕ) × ((told.outcome ≡ NoAnswer req) × IsUnanswered req ms))

tick_idle : (s : Client) (moment : ℕ) (ms : List Move) (b : Bool) → s.asked ≡ None → TickCame (goes_on (if b then with_command s heartbeat moment else s)) ms
tick_idle s moment ms true idle = inl ((omega arith, inl refl, (heartbeat, refl)), refl)
tick_idle s moment ms false idle = inl (subst (λ o. Due o ms) (sym idle) tt, refl)

tick_late : (s : Client) (moment : ℕ) (ms : List Move) (asked : Asked) (more late : Bool) → nat_lt asked.sends 3 ≡ more → s.asked ≡ Some asked
    → Kept (Some asked) ms
    → TickCame (if late then
    (if more then goes_on (record s { asked = Some (sent_again s.limit asked moment) })
    else record { client = record s { asked = None }; outcome = NoAnswer asked.req })
    else goes_on s) ms
tick_late s moment ms asked true true few is kept = inl ((below asked.sends (ltb-true asked.sends 3 few), inr (asked.sends, (refl, kept.2)), kept.3), refl)
  where
    below : (n : ℕ) → n < 3 → n + 1 ≤ 3
    below n lt = omega (arith, lt)
tick_late s moment ms asked false true few is kept =
    inr (
      asked.req,
      (
        refl,
        record {
          command = kept.3.0;
          sent =
              subst (λ r. HasSent r 3 ms) kept.3.1
              (subst (λ n. HasSent (request_of asked) n ms) (three asked.sends (ltb-false asked.sends 3 few) kept.1) kept.2);
        },
      ),
    )
  where
    three : (n : ℕ) → 3 ≤ n → n ≤ 3 → n ≡ 3
    three n lo hi = omega (arith, lo, hi)
tick_late s moment ms asked more false few is kept =
    inl (subst (λ o. Due o ms) (sym is) (kept.1, subst (λ b. DueBy b asked ms) (sym kept.0) kept.2, kept.3), refl)

pub tick_kept : (s : Client) (moment : ℕ) (ms : List Move) (o : Option Asked) → s.asked ≡ o → Kept o ms → TickCame (ticked_with o s moment) ms
tick_kept s moment ms None idle kept = tick_idle s moment ms (is_heartbeat_due s.ended moment) idle
tick_kept s moment ms (Some asked) is kept = tick_late s moment ms asked (nat_lt asked.sends SENDS) (is_late asked moment) refl is kept

-- a command that was submitted at the same moment isn't late
tick_new : (k : Client) (asked : Asked) (moment : ℕ) (ms : List Move) (more late : Bool) → late ≡ false → Due k.asked ms
    → TickCame (if late then
    (if more then goes_on (record k { asked = Some (sent_again k.limit asked moment) })
    else record { client = record k { asked = None }; outcome = NoAnswer asked.req })
    else goes_on k) ms
tick_new k asked moment ms more true early due = let no_way : ⊥ = cc in absurd no_way
tick_new k asked moment ms more false early due = inl (due, refl)

not_late : (limit moment : ℕ) (b : Bool) → 0 < limit → nat_le (moment + limit) moment ≡ b → b ≡ false
not_late limit moment true some is = absurd (later moment (leb-true (moment + limit) moment is))
  where
    later : (n : ℕ) → n + limit ≤ n → ⊥
    later n le = omega (arith, some, le)
not_late limit moment false some is = refl

pub new_tick : (s : Client) (c : PlainCommand) (moment : ℕ) (ms : List Move) (o : Option Asked) → 0 < s.limit → o ≡ None
    → TickCame (ticked (submitted_with o s c moment) moment) ms
new_tick s c moment ms None some idle =
    tick_new (with_command s c moment)
    (record {
      code = code_of c;
      req = next_req s.last_req;
      bytes = plain (head_for (next_req s.last_req) c) c;
      sends = 1;
      sent = moment;
      limit = s.limit;
      waits = true;
    })
    moment ms (nat_lt 1 SENDS) (nat_le (moment + s.limit) moment) (not_late s.limit moment (nat_le (moment + s.limit) moment) some refl) (omega arith, inl refl, (c, refl))
new_tick s c moment ms (Some asked) some idle = let no_way : ⊥ = cc in absurd no_way

-- ---- the receive

receive_answered : (s : Client) (bytes : List ℕ) (moment : ℕ) (ms : List Move) (ack : PlainAck) (asked : Asked) (matches same : Bool) (time : Option ℕ)
    → ack_reading bytes ≡ Ok ack → is_match asked.code asked.req ack ≡ matches → s.asked ≡ Some asked → Kept (Some asked) ms
    → Kept (if matches then ended_by s ack moment else (if same then pended s asked time else goes_on s)).client.asked (hears bytes ∷ ms)
receive_answered s bytes moment ms ack asked true same time read found is kept = tt
receive_answered s bytes moment ms ack asked false true (Some time) read found is kept =
    (kept.0, kept.1, meanwhile asked.sends (hears bytes) ms kept.2 (ap (is_answer (request_of asked)) read ∙ found), kept.3)
receive_answered s bytes moment ms ack asked false same time read found is kept = go same time
  where
    on : Kept s.asked (hears bytes ∷ ms)
    on = subst (λ o. Kept o (hears bytes ∷ ms)) (sym is)
        (kept.0, kept.1, meanwhile asked.sends (hears bytes) ms kept.2 (ap (is_answer (request_of asked)) read ∙ found), kept.3)

    go : (b : Bool) (t : Option ℕ) → Kept (if b then pended s asked t else goes_on s).client.asked (hears bytes ∷ ms)
    go true None = on
    go true (Some time) = (kept.0, kept.1, meanwhile asked.sends (hears bytes) ms kept.2 (ap (is_answer (request_of asked)) read ∙ found), kept.3)
    go false t = on

receive_ack : (s : Client) (bytes : List ℕ) (moment : ℕ) (ms : List Move) (ack : PlainAck) (o : Option Asked) → ack_reading bytes ≡ Ok ack → s.asked ≡ o
    → Kept o ms → Kept (received_ack o s ack moment).client.asked (hears bytes ∷ ms)
receive_ack s bytes moment ms ack None read idle kept = subst (λ o. Kept o (hears bytes ∷ ms)) (sym idle) tt
receive_ack s bytes moment ms ack (Some asked) read is kept =
    receive_answered s bytes moment ms ack asked (is_match asked.code asked.req ack) (ack.req == asked.req) (pending_reading ack) read refl is kept

receive_as : (s : Client) (bytes : List ℕ) (moment : ℕ) (ms : List Move) (reading : Result PlainAck ControlError) → ack_reading bytes ≡ reading → Kept s.asked ms
    → Kept (received_as reading s moment).client.asked (hears bytes ∷ ms)
receive_as s bytes moment ms (Ok ack) read kept = receive_ack s bytes moment ms ack s.asked read refl kept
receive_as s bytes moment ms (Err e) read kept = kept_on s.asked (hears bytes) ms (λ asked is. ap (is_answer (request_of asked)) read) kept

pub receive_kept : (s : Client) (bytes : List ℕ) (moment : ℕ) (ms : List Move) → Kept s.asked ms → Kept (received s bytes moment).client.asked (hears bytes ∷ ms)
receive_kept s bytes moment ms kept = receive_as s bytes moment ms (ack_reading bytes) refl kept
