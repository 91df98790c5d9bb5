-- The laws of requests: which numbers they have, what they ask for, and which numbers a client's commands have.
use Rattle.std.specs.Prelude.{◌≡◌, ◌≢◌, ℕ, ◌+◌, ◌^◌, ◌<◌, ◌≤◌, Bool, true, false, List, [], ◌∷◌, slice_index, Option, Some, None}
use Rattle.gvcp_wire.specs.Flags.{has_flag}
use Rattle.gvcp_wire.specs.Control.{Control, plain}
use Rattle.gvcp_wire.specs.declared.resend.Resend.{Resend}
use Rattle.gvcp_wire.specs.Bodies.{IsWithin, IsResend, resend_head, resend_body, resend_command}
use Rattle.gvsp_std.specs.Asking.{IsStandardResend}
use Rattle.client_machine.specs.Commands.{acknowledge_flag}
use Rattle.client_machine.specs.Machine.{Asked}
use Rattle.client_machine.specs.Events.{Event, after, Request, sends_of}
use Rattle.packet_requests.specs.declared.id_mode.IdMode.{IdMode}
use Rattle.packet_requests.specs.Requests.{request_number, is_standard, command_in, control_request}

-- ---- numbers

-- A number below 32,768 grows by so much, and one from there on stays: none is lower than 32,768.
pub record HasTheBit (number : ℕ) : Type 0 where
  pub low : number < 2 ^ 15 → request_number number ≡ number + 2 ^ 15
  pub high : 2 ^ 15 ≤ number → request_number number ≡ number
  pub from : 2 ^ 15 ≤ request_number number
  pub fits : request_number number < 2 ^ 16

abbrev pub NumbersHaveTheBit : Type 0
NumbersHaveTheBit = (number : ℕ) → number < 2 ^ 16 → HasTheBit number

-- ---- packets

-- The command with extended identifiers is read as these packets.
pub record IsExtendedResend (bytes : List ℕ) (number : ℕ) (resend : Resend) : Type 0 where
  pub command : Control bytes (resend_head number) (resend_command resend)
  pub body : IsResend (resend_head number) (resend_body resend) resend

-- The bytes are the command with this number for these packets, in the standard form or in the extended one.
abbrev pub IsCommandIn : Bool → List ℕ → ℕ → Resend → Type 0
IsCommandIn true bytes number resend = IsStandardResend bytes number resend
IsCommandIn false bytes number resend = IsExtendedResend bytes number resend

-- The bytes ask for what the receiver's request asks for, with its number and the bit in it, and for no acknowledge.
pub record AsksTheSame (ids : IdMode) (number : ℕ) (resend : Resend) (bytes : List ℕ) : Type 0 where
  pub is : bytes ≡ command_in (is_standard ids resend) (request_number number) resend
  pub read_again : IsCommandIn (is_standard ids resend) bytes (request_number number) resend
  pub unacknowledged : has_flag acknowledge_flag (slice_index bytes 1) ≡ false

-- the bytes of a receiver's request with this number for these packets
abbrev pub receiver_request : ℕ → Resend → List ℕ
receiver_request number resend = plain (resend_head number) (resend_command resend)

abbrev pub RequestsAskTheSame : Type 0
RequestsAskTheSame =
    (ids : IdMode) (number : ℕ) (resend : Resend) → number < 2 ^ 16 → IsWithin resend
    → AsksTheSame ids number resend (control_request ids (receiver_request number resend))

-- ---- a client's commands

-- One more begins where none is outstanding and bytes are made to wait.
abbrev pub with_begun : Option Asked → Option Request → ℕ → ℕ
with_begun None (Some request) n = n + 1
with_begun None None n = n
with_begun (Some asked) request n = n

-- how many commands of a client began in these events, heartbeats too
abbrev pub begun : ℕ → List Event → ℕ
begun limit [] = 0
begun limit (e ∷ es) = with_begun (after limit es).asked (sends_of (after limit es) e) (begun limit es)

-- What a client sends among its first 32,767 commands has no request's number. The numbers of later ones, up to 65,535, may
-- be a request's.
abbrev pub KeepsApart : ℕ → Event → List Event → Type 0
KeepsApart limit e es =
    (request : Request) (number : ℕ) → sends_of (after limit es) e ≡ Some request → begun limit (e ∷ es) < 2 ^ 15
    → request.req ≢ request_number number
