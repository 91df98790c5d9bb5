-- Which values may be written where, and why a write is refused, in the standard's words (GigE Vision
-- 2.0, bootstrap registers). The ranges of values are this project's choice.
use Rattle.std.specs.Prelude.{◌≡◌, ◌≢◌, ℕ, ◌+◌, ◌*◌, ◌%◌, ◌^◌, ◌<◌, ◌≤◌, Option, Some, None}
use Rattle.gvcp_wire.specs.declared.status.Status.{Status}
use Rattle.gvcp_wire.specs.declared.status.Status.TheVariants.{InvalidParameter, InvalidAddress, WriteProtect, BadAlignment}
use Rattle.bootstrap_regs.specs.Addresses.{HEARTBEAT_TIMEOUT, CCP, SCP0, SCPS0, SCPD0, SCDA0, END}

-- A size of 576 to 9000 bytes in the low 16 bits, and the flag 'do not fragment' or not.
pub record IsPacketSize (value : ℕ) : Type 0 where
  pub size : ℕ
  pub do_not_fragment : ℕ
  pub parts : value ≡ 2 ^ 30 * do_not_fragment + size
  pub flag : do_not_fragment ≤ 1
  pub least : 576 ≤ size
  pub most : size ≤ 9000

-- The value may be written to the word at this address.
pub data MayBeWritten (address value : ℕ) : Type 0 where
  user_defined_name : 0x00E8 ≤ address → address < 0x00F8 → MayBeWritten address value
  heartbeat_timeout : address ≡ HEARTBEAT_TIMEOUT → 500 ≤ value → value ≤ 60000 → MayBeWritten address value
  -- release, exclusive access, control access
  privilege : address ≡ CCP → value ≤ 2 → MayBeWritten address value
  stream_port : address ≡ SCP0 → value ≤ 65535 → MayBeWritten address value
  packet_size : address ≡ SCPS0 → IsPacketSize value → MayBeWritten address value
  packet_delay : address ≡ SCPD0 → MayBeWritten address value
  destination : address ≡ SCDA0 → MayBeWritten address value

-- some value may be written there
abbrev pub IsWritable : ℕ → Type 0
IsWritable address = (value : ℕ) × MayBeWritten address value

-- an address of a word
pub record IsWordAddress (address : ℕ) : Type 0 where
  pub aligned : address % 4 ≡ 0
  pub inside : address < END

-- Why a write is refused with this status, or done: each cause where the earlier ones don't hold.
abbrev pub CauseOf : ℕ → ℕ → Option Status → Type 0
CauseOf address value (Some BadAlignment) = address % 4 ≢ 0
CauseOf address value (Some InvalidAddress) = (address % 4 ≡ 0) × (END ≤ address)
CauseOf address value (Some WriteProtect) = IsWordAddress address × (IsWritable address → ⊥)
CauseOf address value (Some InvalidParameter) = IsWordAddress address × IsWritable address × (MayBeWritten address value → ⊥)
CauseOf address value None = IsWordAddress address × MayBeWritten address value
CauseOf address value (Some other) = ⊥
