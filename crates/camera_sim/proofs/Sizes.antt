-- The sizes of commands.
use Rattle.std.proofs.Common.{◌≡◌, ℕ, ◌+◌, List, [], ◌∷◌, ◌++◌, length, ap, arith, length-append}
use Rattle.wire_fields.specs.Fields.{HasFields, width_of}
use Rattle.gvcp_wire.specs.declared.message.CommandHead.{CommandHead}
use Rattle.gvcp_wire.specs.Codes.{KEY}
use Rattle.gvcp_wire.specs.Messages.{PlainCommand, read_reg, write_reg, read_mem, write_mem, other}
use Rattle.gvcp_wire.specs.Control.{Control, IsInTable, header_fields}
use Rattle.camera_sim.specs.Doing.{HasRoom}
use Rattle.camera_sim.specs.Obeying.{IsMessage}

length_fields : (bytes : List ℕ) (fields : List (ℕ × ℕ)) (rest : List ℕ) → HasFields bytes fields rest → length bytes ≡ width_of fields + length rest
length_fields bytes [] rest h =
    let same : length bytes ≡ length rest = ap length h in
    omega arith
length_fields bytes ((width, x) ∷ fields) rest h =
    let parts : length bytes ≡ length (h.1.field ++ h.0) = ap length h.1.parts in
    omega (arith, parts, length-append h.1.field h.0, h.1.wide, length_fields h.0 fields rest h.2)

has_room : (head : CommandHead) (c : PlainCommand) → IsInTable head c → HasRoom c
has_room head (read_reg addresses) h = omega (arith, h.1.few, h.1.whole)
has_room head (write_reg pairs) h = omega (arith, h.1.few, h.1.whole)
has_room head (read_mem address count) h = tt
has_room head (write_mem address data_bytes) h = omega (arith, h.1.few, h.1.whole)
has_room head (other code body) h = tt

-- a command has the size that a message may have
pub is_message : (bytes : List ℕ) (head : CommandHead) (c : PlainCommand) → Control bytes head c → IsMessage bytes c
is_message bytes head c h = record {
  bytes_fit = omega (arith, length_fields bytes (header_fields KEY head (length h.body)) h.body h.header, h.form.fits);
  room = has_room head c h.form.allowed;
}
