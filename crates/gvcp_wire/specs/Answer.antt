-- Which bytes are which acknowledge, and which bytes are none (GigE Vision 2.0, GVCP acknowledge header).
use Rattle.std.specs.Prelude.{◌≡◌, ◌≢◌, ℕ, ◌-◌, ◌^◌, ◌<◌, ◌≤◌, List, [], ◌∷◌, ◌++◌, length, min}
use Rattle.wire_fields.specs.Fields.{HasFields, spelled}
use Rattle.gvcp_wire.specs.declared.message.ControlError.{ControlError}
use Rattle.gvcp_wire.specs.declared.message.ControlError.TheVariants.{Short, Key, ZeroReq, Length, Form}
use Rattle.gvcp_wire.specs.Messages.{PlainAck}

-- the fields of an acknowledge's header with this length, each with its number of bytes
abbrev pub ack_fields : PlainAck → ℕ → List (ℕ × ℕ)
ack_fields ack len = (2, ack.status) ∷ (2, ack.code) ∷ (2, len) ∷ (2, ack.req) ∷ []

-- The bytes are the acknowledge's header, with this length, and its body.
abbrev pub IsAnswerOf : List ℕ → PlainAck → ℕ → Type 0
IsAnswerOf bytes ack len = HasFields bytes (ack_fields ack len) ack.body

-- ---- the wire relation of acknowledges

pub record Answer (bytes : List ℕ) (ack : PlainAck) : Type 0 where
  pub header : IsAnswerOf bytes ack (length ack.body)
  pub request : 1 ≤ ack.req

-- ---- refusals, each where the earlier ones don't hold

pub record AnswersNoRequest (bytes : List ℕ) : Type 0 where
  pub ack : PlainAck
  pub len : ℕ
  pub header : IsAnswerOf bytes ack len
  pub zero : ack.req ≡ 0

-- The number of bytes after the header is told up to the largest of 32 bits.
pub record AnswersOtherLength (bytes : List ℕ) (field real : ℕ) : Type 0 where
  pub ack : PlainAck
  pub header : IsAnswerOf bytes ack field
  pub request : 1 ≤ ack.req
  pub wrong : field ≢ length ack.body
  pub told : real ≡ min (length ack.body) (2 ^ 32 - 1)

abbrev pub AnswerRefused : List ℕ → ControlError → Type 0
AnswerRefused bytes (Short len) = (length bytes < 8) × (len ≡ length bytes)
AnswerRefused bytes (Key key) = ⊥
AnswerRefused bytes ZeroReq = AnswersNoRequest bytes
AnswerRefused bytes (Length field real) = AnswersOtherLength bytes field real
AnswerRefused bytes (Form head) = ⊥

-- ---- the plain spelling

abbrev pub plain_ack : PlainAck → List ℕ
plain_ack ack = spelled (ack_fields ack (length ack.body)) ++ ack.body

-- The numbers are within their fields, the length's too.
pub record IsAck (ack : PlainAck) : Type 0 where
  pub status : ack.status < 2 ^ 16
  pub code : ack.code < 2 ^ 16
  pub req : ack.req < 2 ^ 16
  pub request : 1 ≤ ack.req
  pub fits : length ack.body < 2 ^ 16
