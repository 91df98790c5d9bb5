-- How the client's fields stand for the machine's state.
use Rattle.std.specs.Prelude.{◌≡◌, ℕ, ◌+◌, ◌^◌, ◌≤◌, List, length, take, Option, Some, None, IfSome}
use Rattle.gvcp_wire.specs.declared.codes.TheConstants.{HEADER_SIZE, MAX_BODY_SIZE}
use Rattle.client_machine.specs.Times.{SENDS}
use Rattle.client_machine.specs.Machine.{Asked}
use Rattle.control_client.specs.declared.sending.Sending.{Sending}

-- the outstanding command, whose bytes are the first ones of the kept message
abbrev pub asked_of : Option Sending → List ℕ → Option Asked
asked_of None message = None
asked_of (Some x) message = Some (record {
  code = x.code;
  req = x.req;
  bytes = take x.len message;
  sends = x.sends;
  sent = x.sent;
  limit = x.limit;
  waits = x.waits;
})

-- The bytes are within the message, and the numbers within their bounds.
pub record IsSending (x : Sending) : Type 0 where
  pub len : x.len ≤ HEADER_SIZE + MAX_BODY_SIZE
  pub sends : x.sends ≤ SENDS
  pub limit : x.limit ≤ 2 ^ 64

-- What each client keeps.
pub record IsClient (asked : Option Sending) (message body : List ℕ) (body_len : ℕ) : Type 0 where
  pub sending : IfSome asked IsSending
  pub message_size : length message ≡ HEADER_SIZE + MAX_BODY_SIZE
  pub body_size : length body ≡ MAX_BODY_SIZE
  pub body_fits : body_len ≤ MAX_BODY_SIZE
