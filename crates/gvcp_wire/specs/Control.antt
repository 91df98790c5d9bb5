-- Which bytes are which command, and which bytes are none (GigE Vision 2.0, GVCP command header and
-- the commands DISCOVERY, PACKETRESEND, READREG, WRITEREG, READMEM and WRITEMEM).
use Rattle.std.specs.Prelude.{◌≡◌, ◌≢◌, ℕ, ◌-◌, ◌^◌, ◌<◌, ◌≤◌, List, [], ◌∷◌, ◌++◌, length, min, IsTrue}
use Rattle.wire_fields.specs.Fields.{HasFields, spelled}
use Rattle.gvcp_wire.specs.Codes.{KEY, MAX_BODY_SIZE, DISCOVERY_CMD, PACKETRESEND_CMD, READREG_CMD, WRITEREG_CMD, READMEM_CMD, WRITEMEM_CMD}
use Rattle.gvcp_wire.specs.declared.message.CommandHead.{CommandHead}
use Rattle.gvcp_wire.specs.declared.message.ControlError.{ControlError}
use Rattle.gvcp_wire.specs.declared.message.ControlError.TheVariants.{Short, Key, ZeroReq, Length, Form}
use Rattle.gvcp_wire.specs.Flags.{has_flag}
use Rattle.gvcp_wire.specs.Items.{AreItems}
use Rattle.gvcp_wire.specs.Messages.{PlainCommand, read_reg, write_reg, read_mem, write_mem, other}

-- the fields of a command's header with this first byte and this length, each with its number of bytes
abbrev pub header_fields : ℕ → CommandHead → ℕ → List (ℕ × ℕ)
header_fields key head len = (1, key) ∷ (1, head.flags) ∷ (2, head.code) ∷ (2, len) ∷ (2, head.req) ∷ []

-- The bytes are such a header, and a body.
abbrev pub IsCommandOf : List ℕ → ℕ → CommandHead → ℕ → List ℕ → Type 0
IsCommandOf bytes key head len body = HasFields bytes (header_fields key head len) body

-- ---- bodies

abbrev pub read_mem_fields : ℕ → ℕ → ℕ → List (ℕ × ℕ)
read_mem_fields address reserved count = (4, address) ∷ (2, reserved) ∷ (2, count) ∷ []

-- An address, a reserved field, and a count.
pub record IsReadMem (body : List ℕ) (address count : ℕ) : Type 0 where
  pub reserved : ℕ
  pub fields : HasFields body (read_mem_fields address reserved count) []

abbrev pub write_mem_fields : ℕ → List (ℕ × ℕ)
write_mem_fields address = (4, address) ∷ []

-- An address, and the bytes that go there.
abbrev pub IsWriteMem : List ℕ → ℕ → List ℕ → Type 0
IsWriteMem body address bytes = HasFields body (write_mem_fields address) bytes

-- the body's bytes say what the command says
abbrev pub IsBody : List ℕ → PlainCommand → Type 0
IsBody body (read_reg addresses) = body ≡ addresses
IsBody body (write_reg pairs) = body ≡ pairs
IsBody body (read_mem address count) = IsReadMem body address count
IsBody body (write_mem address bytes) = IsWriteMem body address bytes
IsBody body (other code rest) = body ≡ rest

-- Which bodies a command may have that the parser gives as it stands: one case for DISCOVERY, one for
-- PACKETRESEND, and one for each code that the table of commands doesn't have.
pub data IsOther (head : CommandHead) (body : List ℕ) : Type 0 where
  discovery : head.code ≡ DISCOVERY_CMD → body ≡ [] → IsOther head body
  packet_resend : head.code ≡ PACKETRESEND_CMD → length body ≡ 20 → IsTrue (has_flag 0x10 head.flags) → IsOther head body
  unknown : head.code ≢ DISCOVERY_CMD → head.code ≢ PACKETRESEND_CMD → head.code ≢ READREG_CMD → head.code ≢ WRITEREG_CMD
      → head.code ≢ READMEM_CMD → head.code ≢ WRITEMEM_CMD → IsOther head body

-- the table of commands: the code of each, and what it holds
abbrev pub IsInTable : CommandHead → PlainCommand → Type 0
IsInTable head (read_reg addresses) = (head.code ≡ READREG_CMD) × AreItems 4 135 addresses
IsInTable head (write_reg pairs) = (head.code ≡ WRITEREG_CMD) × AreItems 8 67 pairs
IsInTable head (read_mem address count) = head.code ≡ READMEM_CMD
IsInTable head (write_mem address bytes) = (head.code ≡ WRITEMEM_CMD) × AreItems 4 134 bytes
IsInTable head (other code body) = (head.code ≡ code) × IsOther head body

-- The body has the form of the command: it isn't too long, the table allows the command under this
-- header, and the body's bytes are the command's.
pub record HasForm (head : CommandHead) (body : List ℕ) (command : PlainCommand) : Type 0 where
  pub fits : length body ≤ MAX_BODY_SIZE
  pub allowed : IsInTable head command
  pub spelled : IsBody body command

-- ---- the wire relation of commands

pub record Control (bytes : List ℕ) (head : CommandHead) (command : PlainCommand) : Type 0 where
  pub body : List ℕ
  pub header : IsCommandOf bytes KEY head (length body) body
  pub request : 1 ≤ head.req
  pub form : HasForm head body command

-- ---- refusals, each where the earlier ones don't hold

pub record HasOtherKey (bytes : List ℕ) (key : ℕ) : Type 0 where
  pub head : CommandHead
  pub len : ℕ
  pub body : List ℕ
  pub header : IsCommandOf bytes key head len body
  pub wrong : key ≢ KEY

pub record HasNoRequest (bytes : List ℕ) : Type 0 where
  pub head : CommandHead
  pub len : ℕ
  pub body : List ℕ
  pub header : IsCommandOf bytes KEY head len body
  pub zero : head.req ≡ 0

-- The number of bytes after the header is told up to the largest of 32 bits.
pub record HasOtherLength (bytes : List ℕ) (field real : ℕ) : Type 0 where
  pub head : CommandHead
  pub body : List ℕ
  pub header : IsCommandOf bytes KEY head field body
  pub request : 1 ≤ head.req
  pub wrong : field ≢ length body
  pub told : real ≡ min (length body) (2 ^ 32 - 1)

pub record HasNoForm (bytes : List ℕ) (head : CommandHead) : Type 0 where
  pub body : List ℕ
  pub header : IsCommandOf bytes KEY head (length body) body
  pub request : 1 ≤ head.req
  pub none : (command : PlainCommand) → HasForm head body command → ⊥

abbrev pub Refused : List ℕ → ControlError → Type 0
Refused bytes (Short len) = (length bytes < 8) × (len ≡ length bytes)
Refused bytes (Key key) = HasOtherKey bytes key
Refused bytes ZeroReq = HasNoRequest bytes
Refused bytes (Length field real) = HasOtherLength bytes field real
Refused bytes (Form head) = HasNoForm bytes head

-- ---- the plain spelling: reserved fields 0, and nothing after the form

abbrev pub plain_body : PlainCommand → List ℕ
plain_body (read_reg addresses) = addresses
plain_body (write_reg pairs) = pairs
plain_body (read_mem address count) = spelled (read_mem_fields address 0 count)
plain_body (write_mem address bytes) = spelled (write_mem_fields address) ++ bytes
plain_body (other code body) = body

-- a header and a body after it
abbrev pub with_header : CommandHead → List ℕ → List ℕ
with_header head body = spelled (header_fields KEY head (length body)) ++ body

abbrev pub plain : CommandHead → PlainCommand → List ℕ
plain head command = with_header head (plain_body command)

-- The parser gives such commands.
pub record IsCommand (head : CommandHead) (command : PlainCommand) : Type 0 where
  pub request : 1 ≤ head.req
  pub allowed : IsInTable head command
  pub fits : length (plain_body command) ≤ MAX_BODY_SIZE

-- The numbers are within their fields.
abbrev pub HasWidths : PlainCommand → Type 0
HasWidths (read_reg addresses) = Unit {0}
HasWidths (write_reg pairs) = Unit {0}
HasWidths (read_mem address count) = (address < 2 ^ 32) × (count < 2 ^ 16)
HasWidths (write_mem address bytes) = address < 2 ^ 32
HasWidths (other code body) = Unit {0}

pub record AreWithin (head : CommandHead) (command : PlainCommand) : Type 0 where
  pub flags : head.flags < 2 ^ 8
  pub code : head.code < 2 ^ 16
  pub request : head.req < 2 ^ 16
  pub body : HasWidths command
