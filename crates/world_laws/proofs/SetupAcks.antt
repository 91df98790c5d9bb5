-- No acknowledge that a camera gives says that a command takes longer.
use Rattle.std.proofs.Common.{◌≡◌, ℕ, ◌^◌, ◌<◌, Bool, true, false, List, [], take, drop, length, Option, Some, None, Ok, refl, sym, subst, ap, ◌∙◌, arith}
use Rattle.std.specs.Prelude.{◌≢◌, if◌then◌else◌}
use Rattle.wire_fields.proofs.InOrder.{fields_read}
use Rattle.gev_types.specs.declared.peer.Peer.{Peer}
use Rattle.gvcp_wire.specs.Codes.{PENDING_ACK}
use Rattle.gvcp_wire.specs.declared.message.CommandHead.{CommandHead}
use Rattle.gvcp_wire.specs.declared.status.Status.{Status}
use Rattle.gvcp_wire.specs.declared.status.Status.TheVariants.{Success}
use Rattle.gvcp_wire.specs.Status.{status_code}
use Rattle.gvcp_wire.specs.Flags.{has_flag}
use Rattle.gvcp_wire.specs.Messages.{PlainAck}
use Rattle.gvcp_wire.specs.Reading.{ack_reading}
use Rattle.gvcp_wire.specs.Answer.{ack_fields, plain_ack}
use Rattle.gvcp_wire.proofs.Answers.{reads_ack}
use Rattle.gvcp_wire.specs.Bodies.{no_pending, no_pending_size}
use Rattle.gvcp_wire.proofs.Pendings.{reads_pending}
use Rattle.bootstrap_regs.specs.Addresses.{DISCOVERY_WORDS}
use Rattle.control_privilege.specs.Control.{is_primary}
use Rattle.camera_machine.specs.Words.{bytes_of}
use Rattle.camera_machine.specs.Camera.{Camera, is_open, has_lost, looked, released}
use Rattle.camera_machine.specs.Access.{Write, written}
use Rattle.camera_machine.specs.Stream.{framed, next_frame, with_frame}
use Rattle.camera_machine.specs.Commands.{Executed, Answered, ack_code, ack_for, kept_of, finished, is_access, renewed, commanded}
use Rattle.camera_machine.proofs.Walk.{written_is, writes_keep, writes_in, executes, executes_is, register_code, Replies, nothing, again, refused, discovered, heard_is}
use Rattle.world_machine.proofs.Acks.{code_read}
use Rattle.world_laws.specs.Setup.{IsPrompt, IsPromptAck, IsPromptKept}

-- ---- reading what was written

prompt_code : (y : PlainAck) → y.code < 2 ^ 16 → y.code ≢ PENDING_ACK → IsPrompt (plain_ack y)
prompt_code y low not_so ack e = (reads_pending ack).none.1 (no_pending (λ p. not_so (sym (code_read y ack low e) ∙ p)))

body_read : (bytes : List ℕ) (ack : PlainAck) → ack_reading bytes ≡ Ok ack → drop 8 bytes ≡ ack.body
body_read bytes ack e =
    let a = ((reads_ack bytes).given ack).0 e in
    let (status_fits, status_is, (code_fits, code_is, (length_fits, length_is, (request_fits, request_is, body_is)))) =
    fields_read 0 (ack_fields ack (length ack.body)) ack.body bytes a.header in
    body_is

prompt_empty : (y : PlainAck) → y.body ≡ [] → IsPrompt (plain_ack y)
prompt_empty y empty ack e =
    let read : y.body ≡ ack.body = body_read (plain_ack y) ack e in
    let none : 0 ≡ length ack.body = ap length (sym empty ∙ read) in
    (reads_pending ack).none.1 (no_pending_size (λ p. omega arith))

-- an acknowledge of another command than that before PENDING
ack_of_code : (head : CommandHead) (status : Status) (body : List ℕ) → head.code ≢ 136 → IsPromptAck (ack_for head status body)
ack_of_code head status body other_code = go (has_flag 0x01 head.flags)
  where
    y : PlainAck
    y = record { status = status_code status; code = ack_code head.code; req = head.req; body = body }

    go : (b : Bool) → IsPromptAck (if b then Some (plain_ack y) else None)
    go true = prompt_code y (omega arith) (λ e. other_code (omega arith))
    go false = tt

empty_ack : (head : CommandHead) (status : Status) → IsPromptAck (ack_for head status [])
empty_ack head status = go (has_flag 0x01 head.flags)
  where
    y : PlainAck
    y = record { status = status_code status; code = ack_code head.code; req = head.req; body = [] }

    go : (b : Bool) → IsPromptAck (if b then Some (plain_ack y) else None)
    go true = prompt_empty y refl
    go false = tt

-- ---- what is kept

kept_written : (s : Camera) (peer : Peer) (moment : ℕ) (w : Write) → IsPromptKept s.kept → IsPromptKept (written s peer moment w).kept
kept_written s peer moment w h = written_is (λ t c. IsPromptKept t.kept) s peer moment w (λ here. tt) (λ here z. h) h (λ c q. h)

pub kept_looked : (s : Camera) (moment : ℕ) → IsPromptKept s.kept → IsPromptKept (looked s moment).kept
kept_looked s moment h = go (has_lost s moment)
  where
    go : (b : Bool) → IsPromptKept (if b then released s else s).kept
    go true = tt
    go false = h

pub kept_framed : (s : Camera) → IsPromptKept s.kept → IsPromptKept (framed s).kept
kept_framed s h = go (is_open s)
  where
    go : (b : Bool) → IsPromptKept (if b then with_frame s (next_frame s) else s).kept
    go true = h
    go false = h

-- ---- what is answered

-- What is answered and what is kept after it say no such thing.
pub record IsPromptAnswer (a : Answered) : Type 0 where
  pub ack : IsPromptAck a.ack
  pub kept : IsPromptKept a.camera.kept

answer_finished : (was_primary : Bool) (peer : Peer) (bytes : List ℕ) (head : CommandHead) (e : Executed) → head.code ≢ 136 → IsPromptKept e.camera.kept
    → IsPromptAnswer (finished was_primary peer bytes head e)
answer_finished was_primary peer bytes head e other_code h = record { ack = ack; kept = go (is_primary e.camera.holder peer) }
  where
    ack : IsPromptAck (ack_for head e.status e.body)
    ack = ack_of_code head e.status e.body other_code

    go : (b : Bool) → IsPromptKept (if b then Some (kept_of bytes head e) else e.camera.kept)
    go true = ack
    go false = h

answer_replies : (s : Camera) (head : CommandHead) (ack : Option (List ℕ)) → IsPromptKept s.kept → Replies s head ack → IsPromptAck ack
answer_replies s head _ h nothing = tt
answer_replies s head _ h (again k e) = subst IsPromptKept e h
answer_replies s head _ h (refused status ne) = empty_ack head status
answer_replies s head _ h (discovered d) = ack_of_code head Success (bytes_of (take DISCOVERY_WORDS s.words)) (λ e. omega arith)

no_pending_code : (code : ℕ) → is_access code ≡ true → code ≢ 136
no_pending_code code a e = let none : is_access 136 ≡ true = subst (λ (n : ℕ). is_access n ≡ true) e a in absurd (cc)

-- ---- whatever reaches the camera

pub answer_commanded : (s : Camera) (peer : Peer) (bytes : List ℕ) (moment : ℕ) → IsPromptKept s.kept → IsPromptAnswer (commanded s peer bytes moment)
answer_commanded s peer bytes moment h =
    heard_is IsPromptAnswer (looked s moment) peer bytes moment (record { ack = tt; kept = has }) (record {
      replies = λ head ack is. record { ack = answer_replies t head ack has is; kept = has };
      asks = λ r p e. record { ack = tt; kept = has };
      acts = λ head c e is. answer_finished (is_primary t.holder peer) peer bytes head (executes t peer moment c)
          (no_pending_code head.code (register_code bytes head c e is))
          (executes_is (λ x. IsPromptKept x.camera.kept) t peer moment c (λ status body. has)
          (λ each. writes_keep (λ v cs. IsPromptKept v.kept) peer moment (λ v cs w e k. kept_written v peer moment w k) t (writes_in c) has));
    })
  where
    t : Camera
    t = renewed (looked s moment) peer moment

    has : IsPromptKept t.kept
    has = kept_looked s moment h
