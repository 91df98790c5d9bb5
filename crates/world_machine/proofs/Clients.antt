-- What a client submitted fits the client: its members are numbered from 1 on, and what is outstanding or was sent is among them.
use Rattle.std.proofs.Common.{◌≡◌, ◌⊎◌, ℕ, suc, ◌^◌, ◌<◌, ◌≤◌, Bool, true, false, List, [], ◌∷◌, ◌++◌, length, Option, Some, None, Result, Ok, Err, refl, sym, ap, ◌∙◌, subst, inl, inr, arith, length-append}
use Rattle.std.specs.Prelude.{◌==◌, nat_lt, if◌then◌else◌, option_map}
use Rattle.std.proofs.lemmas.Bool.{ne_eqb}
use Rattle.gvcp_wire.specs.declared.message.CommandHead.{CommandHead}
use Rattle.gvcp_wire.specs.declared.message.ControlError.{ControlError}
use Rattle.gvcp_wire.specs.Messages.{PlainCommand, read_reg, write_reg, read_mem, write_mem, other, PlainAck}
use Rattle.gvcp_wire.specs.Control.{plain}
use Rattle.gvcp_wire.specs.Reading.{command_reading, ack_reading}
use Rattle.gvcp_wire.proofs.Commands.{reads_command}
use Rattle.gvcp_wire.proofs.Written.{is_written_command}
use Rattle.gvcp_wire.specs.BodyReading.{pending_reading}
use Rattle.client_machine.specs.declared.outcome.Outcome.TheVariants.{NoAnswer}
use Rattle.client_machine.specs.Times.{SENDS}
use Rattle.client_machine.specs.Commands.{code_of, head_for, IsAccess, next_req, heartbeat, is_match}
use Rattle.client_machine.specs.Machine.{Asked, Client, goes_on, with_command, submitted_with, is_heartbeat_due, is_late, sent_again, ticked_with, not_waiting, to_send, pended, ended_by, received_ack, received_as}
use Rattle.client_machine.specs.Events.{new_request, submitted_at}
use Rattle.client_machine.specs.Events as clients
use Rattle.world_machine.specs.Schedule.{heartbeat_at, submission_of, taken_by, with_last, bytes_of, IsSubmission}
use Rattle.world_machine.proofs.Lists.{At, at_more, at_last, at_push_cases, AreDistinct, AreSubmitted, submitted_push}

-- ---- what fits

-- the bytes are read as a register or memory command with this request number
pub record IsNumbered (bytes : List ℕ) (n : ℕ) : Type 0 where
  pub command : PlainCommand
  pub access : IsAccess command
  pub read : command_reading bytes ≡ Ok (head_for n command, command)

-- the outstanding command was submitted
pub record IsAsked (subs : List (List ℕ)) (asked : Asked) : Type 0 where
  pub place : ℕ
  pub req_is : asked.req ≡ suc place
  pub at : At subs place asked.bytes
  pub code : 128 ≤ asked.code

abbrev pub AskedFits : List (List ℕ) → Option Asked → Type 0
AskedFits subs None = Unit {0}
AskedFits subs (Some asked) = IsAsked subs asked

pub record ClientFits (subs sent : List (List ℕ)) (s : Client) : Type 0 where
  pub numbered : (i : ℕ) (x : List ℕ) → At subs i x → IsNumbered x (suc i)
  pub last : s.last_req ≡ length subs
  pub asked : AskedFits subs s.asked
  pub were_submitted : AreSubmitted subs sent

abbrev number_of : Result (CommandHead × PlainCommand) ControlError → ℕ
number_of (Ok x) = x.0.req
number_of (Err e) = 0

same_number : (bytes : List ℕ) (m n : ℕ) → IsNumbered bytes m → IsNumbered bytes n → m ≡ n
same_number bytes m n p q = sym (ap number_of p.read) ∙ ap number_of q.read

-- so no command was submitted at two places
pub distinct : (subs sent : List (List ℕ)) (s : Client) → ClientFits subs sent s → AreDistinct subs
distinct subs sent s f i j x at also =
    let same : suc i ≡ suc j = same_number x (suc i) (suc j) (f.numbered i x at) (f.numbered j x also) in
    omega arith

-- ---- a submission

next_is : (n : ℕ) → n < 65535 → next_req n ≡ suc n
next_is n h = rw (ne_eqb n 65535 (omega arith)) (omega arith)

-- the code of a register or memory command
record HasCode (c : PlainCommand) : Type 0 where
  some : 128 ≤ code_of c
  low : code_of c < 2 ^ 16

has_code : (c : PlainCommand) → IsAccess c → HasCode c
has_code (read_reg addresses) a = record { some = omega arith; low = omega arith }
has_code (write_reg pairs) a = record { some = omega arith; low = omega arith }
has_code (read_mem address count) a = record { some = omega arith; low = omega arith }
has_code (write_mem address bytes) a = record { some = omega arith; low = omega arith }
has_code (other code body) a = absurd a

numbered_plain : (c : PlainCommand) (n : ℕ) → IsSubmission c → 1 ≤ n → n < 2 ^ 16 → IsNumbered (plain (head_for n c) c) n
numbered_plain c n h some low = record {
  command = c;
  access = h.command.access;
  read = ((reads_command (plain (head_for n c) c)).given (head_for n c) c).1
      ((is_written_command (head_for n c) c).read_again (h.command.command n some)
      (record { flags = omega arith; code = (has_code c h.command.access).low; request = low; body = h.widths }));
}

heartbeat_submits : IsSubmission heartbeat
heartbeat_submits = record {
  command = record {
    access = tt;
    command = λ req some. record { request = some; allowed = (refl, record { count = 1; some = omega arith; few = omega arith; whole = refl }); fits = omega arith };
  };
  widths = tt;
}

client_submits : (subs sent : List (List ℕ)) (s : Client) (c : PlainCommand) (moment : ℕ) → IsSubmission c → length (subs ++ plain (head_for (next_req s.last_req) c) c ∷ []) < 32767
    → ClientFits subs sent s → ClientFits (subs ++ plain (head_for (next_req s.last_req) c) c ∷ []) sent (with_command s c moment)
client_submits subs sent s c moment h few f = record {
  numbered = λ i x at. new i x (at_push_cases subs bytes i x at);
  last = counted;
  asked = record { place = length subs; req_is = next; at = at_last subs bytes; code = (has_code c h.command.access).some };
  were_submitted = λ x among. let p = f.were_submitted x among in (p.0, at_more subs (bytes ∷ []) p.0 x p.1);
}
  where
    bytes : List ℕ
    bytes = plain (head_for (next_req s.last_req) c) c

    longer : length (subs ++ bytes ∷ []) ≡ suc (length subs)
    longer = omega (arith, length-append subs (bytes ∷ []))

    next : next_req s.last_req ≡ suc (length subs)
    next = let low : s.last_req < 65535 = omega (arith, f.last, few, longer) in next_is s.last_req low ∙ ap suc f.last

    counted : next_req s.last_req ≡ length (subs ++ bytes ∷ [])
    counted = next ∙ sym longer

    numbered : IsNumbered bytes (next_req s.last_req)
    numbered = numbered_plain c (next_req s.last_req) h (omega (arith, next)) (omega (arith, few, counted))

    new : (i : ℕ) (x : List ℕ) → At subs i x ⊎ ((i ≡ length subs) × (bytes ≡ x)) → IsNumbered x (suc i)
    new i x (inl p) = f.numbered i x p
    new i x (inr p) =
        let number : next_req s.last_req ≡ suc i = next ∙ ap suc (sym p.0) in
        subst (λ (m : ℕ). IsNumbered x m) number (subst (λ (b : List ℕ). IsNumbered b (next_req s.last_req)) p.1 numbered)

-- ---- each event

-- what is submitted by an event is a command that the wire has
abbrev pub Submits : clients.Event → Type 0
Submits (clients.submits c moment) = IsSubmission c
Submits (clients.ticks moment) = Unit {0}
Submits clients.takes = Unit {0}
Submits (clients.receives bytes moment) = Unit {0}

with_asked : (subs sent : List (List ℕ)) (s t : Client) → t.last_req ≡ s.last_req → AskedFits subs t.asked → ClientFits subs sent s → ClientFits subs sent t
with_asked subs sent s t same asked f = record { numbered = f.numbered; last = same ∙ f.last; asked = asked; were_submitted = f.were_submitted }

fits_submits : (subs sent : List (List ℕ)) (s : Client) (c : PlainCommand) (moment : ℕ) (before : Option Asked) → IsSubmission c
    → length (with_last subs (option_map bytes_of (submitted_at before s c))) < 32767 → ClientFits subs sent s
    → ClientFits (with_last subs (option_map bytes_of (submitted_at before s c))) sent (submitted_with before s c moment)
fits_submits subs sent s c moment None h few f = client_submits subs sent s c moment h few f
fits_submits subs sent s c moment (Some asked) h few f = f

fits_idle : (subs sent : List (List ℕ)) (s : Client) (moment : ℕ) (due : Bool)
    → length (with_last subs (option_map bytes_of (if due then Some (new_request (next_req s.last_req) heartbeat) else None))) < 32767 → ClientFits subs sent s
    → ClientFits (with_last subs (option_map bytes_of (if due then Some (new_request (next_req s.last_req) heartbeat) else None))) sent
    (if due then with_command s heartbeat moment else s)
fits_idle subs sent s moment true few f = client_submits subs sent s heartbeat moment heartbeat_submits few f
fits_idle subs sent s moment false few f = f

fits_late : (subs sent : List (List ℕ)) (s : Client) (moment : ℕ) (asked : Asked) (late more : Bool) → IsAsked subs asked → ClientFits subs sent s
    → ClientFits subs sent (if late then
    (if more then goes_on (record s { asked = Some (sent_again s.limit asked moment) })
    else record { client = record s { asked = None }; outcome = NoAnswer asked.req })
    else goes_on s).client
fits_late subs sent s moment asked true true a f =
    with_asked subs sent s (record s { asked = Some (sent_again s.limit asked moment) }) refl (record { place = a.place; req_is = a.req_is; at = a.at; code = a.code }) f
fits_late subs sent s moment asked true false a f = with_asked subs sent s (record s { asked = None }) refl tt f
fits_late subs sent s moment asked false more a f = f

fits_ticks : (subs sent : List (List ℕ)) (s : Client) (moment : ℕ) (before : Option Asked) → AskedFits subs before
    → length (with_last subs (option_map bytes_of (heartbeat_at before s moment))) < 32767 → ClientFits subs sent s
    → ClientFits (with_last subs (option_map bytes_of (heartbeat_at before s moment))) sent (ticked_with before s moment).client
fits_ticks subs sent s moment None a few f = fits_idle subs sent s moment (is_heartbeat_due s.ended moment) few f
fits_ticks subs sent s moment (Some asked) a few f = fits_late subs sent s moment asked (is_late asked moment) (nat_lt asked.sends SENDS) a f

fits_takes : (subs sent : List (List ℕ)) (s : Client) (before : Option Asked) → AskedFits subs before → ClientFits subs sent s
    → ClientFits subs (with_last sent (to_send before)) (record s { asked = option_map not_waiting before })
fits_takes subs sent s None a f = with_asked subs sent s (record s { asked = None }) refl tt f
fits_takes subs sent s (Some asked) a f = go asked.waits
  where
    go : (b : Bool) → ClientFits subs (with_last sent (if b then Some asked.bytes else None)) (record s { asked = Some (not_waiting asked) })
    go true = record {
      numbered = f.numbered;
      last = f.last;
      asked = record { place = a.place; req_is = a.req_is; at = a.at; code = a.code };
      were_submitted = submitted_push subs sent asked.bytes a.place f.were_submitted a.at;
    }
    go false =
        with_asked subs sent s (record s { asked = Some (not_waiting asked) }) refl (record { place = a.place; req_is = a.req_is; at = a.at; code = a.code }) f

fits_pended : (subs sent : List (List ℕ)) (s : Client) (asked : Asked) (time : Option ℕ) → IsAsked subs asked → ClientFits subs sent s
    → ClientFits subs sent (pended s asked time).client
fits_pended subs sent s asked None a f = f
fits_pended subs sent s asked (Some time) a f = record {
  numbered = f.numbered;
  last = f.last;
  asked = record { place = a.place; req_is = a.req_is; at = a.at; code = a.code };
  were_submitted = f.were_submitted;
}

fits_answered : (subs sent : List (List ℕ)) (s : Client) (ack : PlainAck) (moment : ℕ) (asked : Asked) (matches same : Bool) → IsAsked subs asked → ClientFits subs sent s
    → ClientFits subs sent (if matches then ended_by s ack moment else (if same then pended s asked (pending_reading ack) else goes_on s)).client
fits_answered subs sent s ack moment asked true same a f = record { numbered = f.numbered; last = f.last; asked = tt; were_submitted = f.were_submitted }
fits_answered subs sent s ack moment asked false true a f = fits_pended subs sent s asked (pending_reading ack) a f
fits_answered subs sent s ack moment asked false false a f = f

fits_ack : (subs sent : List (List ℕ)) (s : Client) (ack : PlainAck) (moment : ℕ) (before : Option Asked) → AskedFits subs before → ClientFits subs sent s
    → ClientFits subs sent (received_ack before s ack moment).client
fits_ack subs sent s ack moment None a f = f
fits_ack subs sent s ack moment (Some asked) a f =
    fits_answered subs sent s ack moment asked (is_match asked.code asked.req ack) (ack.req == asked.req) a f

fits_received : (subs sent : List (List ℕ)) (s : Client) (moment : ℕ) (r : Result PlainAck ControlError) → ClientFits subs sent s
    → ClientFits subs sent (received_as r s moment).client
fits_received subs sent s moment (Ok ack) f = fits_ack subs sent s ack moment s.asked f.asked f
fits_received subs sent s moment (Err e) f = f

pub client_step : (subs sent : List (List ℕ)) (s : Client) (e : clients.Event) → Submits e
    → length (with_last subs (option_map bytes_of (submission_of s e))) < 32767 → ClientFits subs sent s
    → ClientFits (with_last subs (option_map bytes_of (submission_of s e))) (with_last sent (taken_by s e)) (clients.step s e)
client_step subs sent s (clients.submits c moment) h few f = fits_submits subs sent s c moment s.asked h few f
client_step subs sent s (clients.ticks moment) h few f = fits_ticks subs sent s moment s.asked f.asked few f
client_step subs sent s clients.takes h few f = fits_takes subs sent s s.asked f.asked f
client_step subs sent s (clients.receives bytes moment) h few f = fits_received subs sent s moment (ack_reading bytes) f
