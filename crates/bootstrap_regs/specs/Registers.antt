-- What the table of the bootstrap registers (GigE Vision 2.0) says of each address.
use Rattle.std.specs.Prelude.{ℕ, ◌-◌, ◌*◌, ◌/◌, ◌%◌, ◌^◌, Bool, true, false, ◌&&◌, ◌==◌, nat_le, nat_lt, find, Option, Some, None, if◌then◌else◌}
use Rattle.wire_fields.specs.Fields.{number_at}
use Rattle.gvcp_wire.specs.declared.status.Status.{Status}
use Rattle.gvcp_wire.specs.declared.status.Status.TheVariants.{InvalidParameter, InvalidAddress, WriteProtect, BadAlignment}
use Rattle.bootstrap_regs.specs.declared.table.Initial.{Initial}
use Rattle.bootstrap_regs.specs.declared.table.Initial.TheVariants.{Number, Text}
use Rattle.bootstrap_regs.specs.declared.table.Writable.{Writable}
use Rattle.bootstrap_regs.specs.declared.table.Writable.TheVariants.{No, Any, Between, PacketSize}
use Rattle.bootstrap_regs.specs.declared.table.Register.{Register}
use Rattle.bootstrap_regs.specs.Addresses.{END}
use Rattle.bootstrap_regs.specs.Table.{TABLE}

-- whether a byte of the register has this address
abbrev pub covers : Register → ℕ → Bool
covers r address = nat_le r.address address && nat_lt ((address - r.address) / 4) r.words

-- the register to which the byte with this address belongs
unfoldable pub register_at : ℕ → Option Register
register_at address = find (λ r. covers r address) TABLE

-- ---- what the words hold at first

-- the word of a register that comes after so many others of it
abbrev pub word_in : Initial → ℕ → ℕ
word_in (Number number) place = if place == 0 then number else 0
word_in (Text text) place = if nat_lt place 2 then number_at (4 * place) 4 text else 0

abbrev pub initial_in : Option Register → ℕ → ℕ
initial_in None address = 0
initial_in (Some r) address = word_in r.initial ((address - r.address) / 4)

-- what the word at an address holds at first
abbrev pub initial_at : ℕ → ℕ
initial_at address = initial_in (register_at address) address

-- ---- which words and values there are

-- Why there is no word at this address: first its alignment, then the end of the register space.
abbrev pub address_refusal : ℕ → Option Status
address_refusal address =
    if address % 4 == 0 then (if nat_lt address END then None else Some InvalidAddress) else Some BadAlignment

-- A packet size of 576 to 9000 in the low 16 bits. Of the bits above these only 'do not fragment', the
-- second highest, may be set.
abbrev pub is_packet_size : ℕ → Bool
is_packet_size value =
    nat_lt value (2 ^ 31) && (value / 2 ^ 16 % 2 ^ 14 == 0) && nat_le 576 (value % 2 ^ 16) && nat_le (value % 2 ^ 16) 9000

abbrev pub allows : Writable → ℕ → Bool
allows No value = false
allows Any value = true
allows (Between least most) value = nat_le least value && nat_le value most
allows PacketSize value = is_packet_size value

-- first the protection of the register, then its values
abbrev pub refused_by : Writable → ℕ → Option Status
refused_by No value = Some WriteProtect
refused_by Any value = None
refused_by (Between least most) value = if allows (Between least most) value then None else Some InvalidParameter
refused_by PacketSize value = if allows PacketSize value then None else Some InvalidParameter

abbrev pub refused_in : Option Register → ℕ → Option Status
refused_in None value = Some WriteProtect
refused_in (Some r) value = refused_by r.writable value

-- why this value can't be written to the word at this address
abbrev pub value_refusal : ℕ → ℕ → Option Status
value_refusal address value = refused_in (register_at address) value
