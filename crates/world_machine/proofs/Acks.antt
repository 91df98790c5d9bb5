-- What the acknowledges that a camera writes are read as.
use Rattle.std.proofs.Common.{◌≡◌, ◌⊎◌, ℕ, ◌^◌, ◌<◌, Bool, true, false, List, length, Option, Some, None, Result, Ok, Err, refl, sym, ap, ◌∙◌, inl, inr, arith}
use Rattle.std.specs.Prelude.{◌≢◌, nat_lt, if◌then◌else◌}
use Rattle.wire_fields.specs.Fields.{number_at}
use Rattle.gvcp_wire.specs.Codes.{DISCOVERY_CMD, DISCOVERY_ACK}
use Rattle.gvcp_wire.specs.declared.message.CommandHead.{CommandHead}
use Rattle.gvcp_wire.specs.declared.message.ControlError.{ControlError}
use Rattle.gvcp_wire.specs.declared.message.ControlError.TheVariants.{Short}
use Rattle.gvcp_wire.specs.declared.status.Status.{Status}
use Rattle.gvcp_wire.specs.declared.status.Status.TheVariants.{Success, PacketResend, NotImplemented, InvalidParameter, InvalidAddress, WriteProtect, BadAlignment, AccessDenied, Busy, PacketUnavailable, InvalidHeader, PacketNotYetAvailable, PacketAndPrevRemovedFromMemory, PacketRemovedFromMemory}
use Rattle.gvcp_wire.specs.Status.{status_code}
use Rattle.gvcp_wire.specs.Flags.{has_flag}
use Rattle.gvcp_wire.specs.Messages.{PlainAck}
use Rattle.gvcp_wire.specs.Reading.{body_reading, ack_of, ack_reading}
use Rattle.gvcp_wire.specs.Answer.{plain_ack}
use Rattle.camera_machine.specs.Camera.{Kept}
use Rattle.camera_machine.specs.Commands.{ack_code, ack_for}

-- ---- statuses

pub low_status : (status : Status) → status_code status < 2 ^ 16
low_status Success = omega arith
low_status PacketResend = omega arith
low_status NotImplemented = omega arith
low_status InvalidParameter = omega arith
low_status InvalidAddress = omega arith
low_status WriteProtect = omega arith
low_status BadAlignment = omega arith
low_status AccessDenied = omega arith
low_status Busy = omega arith
low_status PacketUnavailable = omega arith
low_status InvalidHeader = omega arith
low_status PacketNotYetAvailable = omega arith
low_status PacketAndPrevRemovedFromMemory = omega arith
low_status PacketRemovedFromMemory = omega arith

pub success_is : (status : Status) → status_code status ≡ 0 → status ≡ Success
success_is Success e = refl
success_is PacketResend e = absurd (omega arith)
success_is NotImplemented e = absurd (omega arith)
success_is InvalidParameter e = absurd (omega arith)
success_is InvalidAddress e = absurd (omega arith)
success_is WriteProtect e = absurd (omega arith)
success_is BadAlignment e = absurd (omega arith)
success_is AccessDenied e = absurd (omega arith)
success_is Busy e = absurd (omega arith)
success_is PacketUnavailable e = absurd (omega arith)
success_is InvalidHeader e = absurd (omega arith)
success_is PacketNotYetAvailable e = absurd (omega arith)
success_is PacketAndPrevRemovedFromMemory e = absurd (omega arith)
success_is PacketRemovedFromMemory e = absurd (omega arith)

-- ---- reading what was written

-- the numbers of an acknowledge that is read
record HasNumbers (bytes : List ℕ) (ack : PlainAck) : Type 0 where
  status : ack.status ≡ number_at 0 2 bytes
  code : ack.code ≡ number_at 2 2 bytes
  req : ack.req ≡ number_at 6 2 bytes

numbers_of : (bytes : List ℕ) (ack : PlainAck) → ack_reading bytes ≡ Ok ack → HasNumbers bytes ack
numbers_of bytes ack = go (nat_lt (length bytes) 8) (body_reading bytes)
  where
    parts : (given : PlainAck) (r : Result PlainAck ControlError) → r ≡ Ok given → r ≡ Ok ack → given ≡ ack
    parts given r p q = cc

    go : (short : Bool) (r : Result (List ℕ) ControlError) → (if short then Err (Short (length bytes)) else ack_of bytes r) ≡ Ok ack → HasNumbers bytes ack
    go true r e = absurd (cc)
    go false (Err x) e = absurd (cc)
    go false (Ok body) e =
        let same = parts (record { status = number_at 0 2 bytes; code = number_at 2 2 bytes; req = number_at 6 2 bytes; body = body }) (ack_of bytes (Ok body)) refl e in
        record {
          status = sym (ap (λ (a : PlainAck). a.status) same);
          code = sym (ap (λ (a : PlainAck). a.code) same);
          req = sym (ap (λ (a : PlainAck). a.req) same);
        }

status_written : (y : PlainAck) → y.status < 2 ^ 16 → number_at 0 2 (plain_ack y) ≡ y.status
unfolding number_at
status_written y h = omega arith

code_written : (y : PlainAck) → y.code < 2 ^ 16 → number_at 2 2 (plain_ack y) ≡ y.code
unfolding number_at
code_written y h = omega arith

req_written : (y : PlainAck) → y.req < 2 ^ 16 → number_at 6 2 (plain_ack y) ≡ y.req
unfolding number_at
req_written y h = omega arith

pub status_read : (y ack : PlainAck) → y.status < 2 ^ 16 → ack_reading (plain_ack y) ≡ Ok ack → ack.status ≡ y.status
status_read y ack h e = (numbers_of (plain_ack y) ack e).status ∙ status_written y h

pub code_read : (y ack : PlainAck) → y.code < 2 ^ 16 → ack_reading (plain_ack y) ≡ Ok ack → ack.code ≡ y.code
code_read y ack h e = (numbers_of (plain_ack y) ack e).code ∙ code_written y h

pub req_read : (y ack : PlainAck) → y.req < 2 ^ 16 → ack_reading (plain_ack y) ≡ Ok ack → ack.req ≡ y.req
req_read y ack h e = (numbers_of (plain_ack y) ack e).req ∙ req_written y h

-- ---- acknowledges of what is no register or memory command

-- Whatever it's read as, it reports no success, or that of DISCOVERY.
pub record IsForeign (bytes : List ℕ) : Type 0 where
  pub reads : (ack : PlainAck) → ack_reading bytes ≡ Ok ack → ack.status ≡ 0 → ack.code ≡ DISCOVERY_ACK

-- an answer to what isn't executed: none, the kept one, or a foreign one
pub data QuietAck (kept : Option Kept) (o : Option (List ℕ)) : Type 0 where
  no_ack : o ≡ None → QuietAck kept o
  kept_ack : (k : Kept) → kept ≡ Some k → o ≡ k.ack → QuietAck kept o
  foreign_ack : (bytes : List ℕ) → o ≡ Some bytes → IsForeign bytes → QuietAck kept o

foreign_written : (head : CommandHead) (status : Status) (body : List ℕ) → (status_code status ≢ 0) ⊎ (head.code ≡ DISCOVERY_CMD)
    → IsForeign (plain_ack (record { status = status_code status; code = ack_code head.code; req = head.req; body = body }))
foreign_written head status body why = record { reads = go why }
  where
    y : PlainAck
    y = record { status = status_code status; code = ack_code head.code; req = head.req; body = body }

    low_code : ack_code head.code < 2 ^ 16
    low_code = omega arith

    go : (status_code status ≢ 0) ⊎ (head.code ≡ DISCOVERY_CMD) → (ack : PlainAck) → ack_reading (plain_ack y) ≡ Ok ack → ack.status ≡ 0 → ack.code ≡ DISCOVERY_ACK
    go (inl ne) ack e zero_is = absurd (ne (sym (status_read y ack (low_status status) e) ∙ zero_is))
    go (inr discovers) ack e zero_is = code_read y ack low_code e ∙ ap ack_code discovers

pub foreign_for : (kept : Option Kept) (head : CommandHead) (status : Status) (body : List ℕ) → (status_code status ≢ 0) ⊎ (head.code ≡ DISCOVERY_CMD)
    → QuietAck kept (ack_for head status body)
foreign_for kept head status body why = go (has_flag 0x01 head.flags)
  where
    go : (b : Bool) → QuietAck kept (if b then Some (plain_ack (record { status = status_code status; code = ack_code head.code; req = head.req; body = body })) else None)
    go true = foreign_ack _ refl (foreign_written head status body why)
    go false = no_ack refl
