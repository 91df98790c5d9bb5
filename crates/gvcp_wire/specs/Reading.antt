-- What the parsers give, computed.
use Rattle.std.specs.Prelude.{ℕ, ◌-◌, ◌*◌, ◌%◌, ◌^◌, Bool, true, ◌&&◌, ◌==◌, nat_lt, nat_le, List, length, drop, slice_index, min, Option, Some, None, Result, Ok, Err, if◌then◌else◌}
use Rattle.std.specs.Borrow.{Bor}
use Rattle.wire_fields.specs.Fields.{number_at}
use Rattle.gvcp_wire.specs.Codes.{KEY, MAX_BODY_SIZE, DISCOVERY_CMD, PACKETRESEND_CMD, READREG_CMD, WRITEREG_CMD, READMEM_CMD, WRITEMEM_CMD}
use Rattle.gvcp_wire.specs.declared.message.Ack.{Ack}
use Rattle.gvcp_wire.specs.declared.message.Command.{Command}
use Rattle.gvcp_wire.specs.declared.message.CommandHead.{CommandHead}
use Rattle.gvcp_wire.specs.declared.message.ControlError.{ControlError}
use Rattle.gvcp_wire.specs.declared.message.ControlError.TheVariants.{Short, Key, ZeroReq, Length, Form}
use Rattle.gvcp_wire.specs.Flags.{has_flag}
use Rattle.gvcp_wire.specs.Messages.{PlainCommand, read_reg, write_reg, read_mem, write_mem, other, PlainAck, view, ack_view}

-- whether the bytes are items of one size, from 1 to a largest number of them
abbrev pub are_items : ℕ → ℕ → List ℕ → Bool
are_items size most bytes = nat_le 1 (length bytes) && nat_le (length bytes) (size * most) && (length bytes % size == 0)

abbrev pub given_if : Bool → PlainCommand → Option PlainCommand
given_if allowed command = if allowed then Some command else None

-- whether the body of a command that is given as it stands has the form of its code
abbrev pub is_other : CommandHead → List ℕ → Bool
is_other head body =
    if head.code == DISCOVERY_CMD then length body == 0
    else (if head.code == PACKETRESEND_CMD then (length body == 20) && has_flag 0x10 head.flags else true)

abbrev pub read_reg_in : List ℕ → Option PlainCommand
read_reg_in body = given_if (are_items 4 135 body) (read_reg body)

abbrev pub write_reg_in : List ℕ → Option PlainCommand
write_reg_in body = given_if (are_items 8 67 body) (write_reg body)

abbrev pub read_mem_in : List ℕ → Option PlainCommand
read_mem_in body = given_if (length body == 8) (read_mem (number_at 0 4 body) (number_at 6 2 body))

abbrev pub write_mem_in : List ℕ → Option PlainCommand
write_mem_in body =
    given_if (nat_le 4 (length body) && are_items 4 134 (drop 4 body)) (write_mem (number_at 0 4 body) (drop 4 body))

abbrev pub other_in : CommandHead → List ℕ → Option PlainCommand
other_in head body = given_if (is_other head body) (other head.code body)

-- the command that a body of at most 540 bytes has the form of
abbrev pub in_table : CommandHead → List ℕ → Option PlainCommand
in_table head body =
    if head.code == READREG_CMD then read_reg_in body
    else (if head.code == WRITEREG_CMD then write_reg_in body
    else (if head.code == READMEM_CMD then read_mem_in body
    else (if head.code == WRITEMEM_CMD then write_mem_in body
    else other_in head body)))

-- the command that a body has the form of
abbrev pub command_in : CommandHead → List ℕ → Option PlainCommand
command_in head body = if nat_lt MAX_BODY_SIZE (length body) then None else in_table head body

abbrev pub or_form : CommandHead → Option PlainCommand → Result (CommandHead × PlainCommand) ControlError
or_form head None = Err (Form head)
or_form head (Some command) = Ok (head, command)

-- a number of bytes, up to the largest of 32 bits
abbrev pub told : ℕ → ℕ
told len = min len (2 ^ 32 - 1)

-- what follows a header of 8 bytes whose request number and length field are right
abbrev pub body_reading : List ℕ → Result (List ℕ) ControlError
body_reading bytes =
    if number_at 6 2 bytes == 0 then Err ZeroReq
    else (if number_at 4 2 bytes == length (drop 8 bytes) then Ok (drop 8 bytes)
    else Err (Length (number_at 4 2 bytes) (told (length (drop 8 bytes)))))

abbrev pub head_at : List ℕ → CommandHead
head_at bytes = record { flags = slice_index bytes 1; code = number_at 2 2 bytes; req = number_at 6 2 bytes }

abbrev pub command_of : CommandHead → Result (List ℕ) ControlError → Result (CommandHead × PlainCommand) ControlError
command_of head (Ok body) = or_form head (command_in head body)
command_of head (Err e) = Err e

-- the command that the bytes are, or why they are none
abbrev pub command_reading : List ℕ → Result (CommandHead × PlainCommand) ControlError
command_reading bytes =
    if nat_lt (length bytes) 8 then Err (Short (length bytes))
    else (if slice_index bytes 0 == KEY then command_of (head_at bytes) (body_reading bytes)
    else Err (Key (slice_index bytes 0)))

abbrev pub ack_of : List ℕ → Result (List ℕ) ControlError → Result PlainAck ControlError
ack_of bytes (Ok body) = Ok (record { status = number_at 0 2 bytes; code = number_at 2 2 bytes; req = number_at 6 2 bytes; body = body })
ack_of bytes (Err e) = Err e

-- the acknowledge that the bytes are, or why they are none
abbrev pub ack_reading : List ℕ → Result PlainAck ControlError
ack_reading bytes = if nat_lt (length bytes) 8 then Err (Short (length bytes)) else ack_of bytes (body_reading bytes)

-- ---- what a parser gave, without where it lies in memory

abbrev pub seen : Result (CommandHead × Command) ControlError → Result (CommandHead × PlainCommand) ControlError
seen (Ok given) = Ok (given.0, view given.1)
seen (Err e) = Err e

abbrev pub ack_seen : Result Ack ControlError → Result PlainAck ControlError
ack_seen (Ok ack) = Ok (ack_view ack)
ack_seen (Err e) = Err e

abbrev pub body_seen : Result (Bor (List ℕ)) ControlError → Result (List ℕ) ControlError
body_seen (Ok body) = Ok body.now
body_seen (Err e) = Err e
