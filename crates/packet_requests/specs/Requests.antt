-- Packet resend commands on a control link on which a client's commands go too (GigE Vision 2.0 and 1.x, GVCP PACKETRESEND command).
use Rattle.std.specs.Prelude.{ℕ, ◌^◌, ◌&&◌, nat_le, nat_lt, Bool, true, false, List, drop}
use Rattle.std.specs.Int.RustNames.{bit_or}
use Rattle.wire_fields.specs.Fields.{number_at, spelled}
use Rattle.gvcp_wire.specs.Control.{plain}
use Rattle.gvcp_wire.specs.declared.resend.Resend.{Resend}
use Rattle.gvcp_wire.specs.Bodies.{resend_head, resend_command}
use Rattle.gvcp_wire.specs.BodyReading.{resend_at}
use Rattle.gvsp_std.specs.Asking.{std_resend_fields}
use Rattle.packet_requests.specs.declared.id_mode.IdMode.{IdMode}
use Rattle.packet_requests.specs.declared.id_mode.IdMode.TheVariants.{Standard, Extended}

-- the highest bit of a request number
abbrev pub request_bit : ℕ
request_bit = 0x8000

-- The number of a request on such a link: the receiver's own, with the bit set.
abbrev pub request_number : ℕ → ℕ
request_number number = bit_or number request_bit

-- what the 28 bytes of the command with extended identifiers ask for
abbrev pub asked_in : List ℕ → Resend
asked_in bytes = resend_at (drop 8 bytes)

-- the standard form has room for the packet ids, and an id for the block
abbrev pub is_narrow : Resend → Bool
is_narrow resend = nat_le 1 resend.block && nat_lt resend.first (2 ^ 24) && nat_lt resend.last (2 ^ 24)

-- whether a camera whose stream has such identifiers is asked in the standard form
abbrev pub is_standard : IdMode → Resend → Bool
is_standard Standard resend = is_narrow resend
is_standard Extended resend = false

-- the command with this number that asks for these packets: in the standard form, of 12 bytes behind the header, or in
-- the extended one, of 20
abbrev pub command_in : Bool → ℕ → Resend → List ℕ
command_in true number resend = spelled (std_resend_fields number resend)
command_in false number resend = plain (resend_head number) (resend_command resend)

-- what a receiver's request, the 28 bytes of the command with extended identifiers, is on such a link
abbrev pub control_request : IdMode → List ℕ → List ℕ
control_request ids bytes =
    command_in (is_standard ids (asked_in bytes)) (request_number (number_at 6 2 bytes)) (asked_in bytes)
