-- What packets, requests and the client's commands are read as.
use Rattle.std.proofs.Common.{◌≡◌, ℕ, ◌%◌, ◌^◌, ◌<◌, List, [], ◌++◌, length, drop, Bool, true, false, Some, None, Result, Ok, Err, refl, sym, ap, subst, ◌∙◌, arith}
use Rattle.std.specs.Prelude.{◌==◌, ◌&&◌, nat_lt, if◌then◌else◌, slice_index}
use Rattle.byteorder.specs.Endian.{big_bytes}
use Rattle.byteorder.specs.Numbers.{big_from-bytes}
use Rattle.wire_fields.specs.Fields.{number_at, spelled}
use Rattle.stream_packets.specs.declared.fields.Head.{Head}
use Rattle.stream_packets.specs.Packets.{StreamPacket, leader, payload, trailer, notice, head_of}
use Rattle.gvsp_wire.specs.Wire.{Stream, HasHeader, leader_format, trailer_format, payload_format, image_payload, leader_fields, trailer_fields}
use Rattle.gvsp_wire.specs.Plain.{plain, plain_header}
use Rattle.gvsp_wire.specs.Reading.{packet_of}
use Rattle.gvsp_wire.proofs.Calling.{packet_stream}
use Rattle.gvsp_wire.proofs.Headers.{header_read}
use Rattle.gvcp_wire.specs.declared.message.CommandHead.{CommandHead}
use Rattle.gvcp_wire.specs.declared.message.ControlError.{ControlError}
use Rattle.gvcp_wire.specs.declared.message.ControlError.TheVariants.{Short, Key, ZeroReq, Length}
use Rattle.gvcp_wire.specs.Codes.{KEY, MAX_BODY_SIZE, PACKETRESEND_CMD, READREG_CMD, WRITEREG_CMD}
use Rattle.gvcp_wire.specs.Control as control
use Rattle.gvcp_wire.specs.Control.{packet_resend}
use Rattle.gvcp_wire.specs.Flags.{has_flag}
use Rattle.gvcp_wire.specs.Messages.{PlainCommand, read_reg, write_reg, other}
use Rattle.gvcp_wire.specs.Reading.{given_if, command_in, or_form, command_of, command_reading}
use Rattle.gvcp_wire.specs.Reading as reading
use Rattle.gvcp_wire.proofs.Commands.{reads_command}
use Rattle.gvcp_wire.proofs.Written.{is_written_command}
use Rattle.gvcp_wire.specs.declared.resend.Resend.{Resend}
use Rattle.gvcp_wire.specs.Bodies.{resend_body, resend_head, resend_command}
use Rattle.gvcp_wire.specs.BodyReading.{resend_at}
use Rattle.bootstrap_regs.specs.Addresses.{SCPS0}
use Rattle.client_machine.specs.Commands.{head_for, heartbeat}
use Rattle.world_machine.specs.Schedule.{IsNoAccess}
use Rattle.camera_machine.specs.Sending.{asked_in}
use Rattle.world_machine.specs.ClientTurn.{write_of}
use Rattle.acquisition_machine.specs.Machine.{Request, request_bytes}
use Rattle.acquisition_machine.specs.Sound.{IsRequestNumber}
use Rattle.world_laws.specs.Sizes.{PACKET_SIZE, WritesSize, ReadsSize}
use Rattle.world_laws.specs.Tail.{IsOfSetup}
use Rattle.world_laws.proofs.TailBlocks.{IsOf}

-- ---- packets

header_block : (bytes : List ℕ) (format : ℕ) (h : Head) (body : List ℕ) → HasHeader bytes format h body → h.block ≡ number_at 8 8 bytes
header_block bytes format h body has = ap (λ (g : Head). g.block) (header_read bytes format h body has).head

stream_block : (bytes : List ℕ) (x : StreamPacket) → Stream bytes x → (head_of x).block ≡ number_at 8 8 bytes
stream_block bytes (leader h i) s = header_block bytes leader_format h s.body s.packet.has_block.header
stream_block bytes (payload h d) s = header_block bytes payload_format h d s.packet.has_block.header
stream_block bytes (trailer h y) s = header_block bytes trailer_format h s.body s.packet.has_block.header
stream_block bytes (notice h) s = header_block bytes s.format h s.ignored s.has_block.header

header_spells : (h : Head) (format : ℕ) (body : List ℕ) → number_at 8 8 (plain_header h format ++ body) ≡ h.block % 2 ^ 64
unfolding number_at
header_spells h format body = big_from-bytes 8 h.block (big_bytes 4 h.id ++ body)

plain_block : (x : StreamPacket) → number_at 8 8 (plain x) ≡ (head_of x).block % 2 ^ 64
unfolding number_at
plain_block (leader h i) = header_spells h leader_format (spelled (leader_fields 0 0 image_payload i))
plain_block (payload h d) = header_spells h payload_format d
plain_block (trailer h y) = header_spells h trailer_format (spelled (trailer_fields 0 image_payload y))
plain_block (notice h) = header_spells h payload_format []

-- what a spelled packet is read as has its block id
read_block : (x y : StreamPacket) → packet_of (plain x) ≡ Some y → (head_of y).block ≡ (head_of x).block % 2 ^ 64
read_block x y e = stream_block (plain x) y (packet_stream (plain x) y e) ∙ plain_block x

pub spelled_is_of : (P : ℕ → Type 0) (x : StreamPacket) → (head_of x).block < 2 ^ 64 → P (head_of x).block → IsOf P (plain x)
spelled_is_of P x low h y e =
    let same : (head_of x).block ≡ (head_of y).block = omega (arith, read_block x y e) in
    subst P same h

-- whatever the packet, its block id is read as one of 64 bits
pub spelled_is_low : (x : StreamPacket) → IsOf (λ b. b < 2 ^ 64) (plain x)
spelled_is_low x y e = omega (arith, read_block x y e)

-- ---- what bytes are read as by their code

-- P holds of what the bytes are read as where it holds of every refusal and of what their body says.
by_code : (P : Result (CommandHead × PlainCommand) ControlError → Type 0) (bytes : List ℕ) → ((e : ControlError) → P (Err e))
    → P (or_form (reading.head_at bytes) (command_in (reading.head_at bytes) (drop 8 bytes))) → P (command_reading bytes)
by_code P bytes refused said =
    go (nat_lt (length bytes) 8) (slice_index bytes 0 == KEY) (number_at 6 2 bytes == 0) (number_at 4 2 bytes == length (drop 8 bytes))
  where
    go : (short keyed unnumbered whole : Bool)
        → P (if short then Err (Short (length bytes)) else (if keyed
        then command_of (reading.head_at bytes) (if unnumbered then Err ZeroReq else (if whole then Ok (drop 8 bytes) else Err (Length (number_at 4 2 bytes) (reading.told (length (drop 8 bytes))))))
        else Err (Key (slice_index bytes 0))))
    go true keyed unnumbered whole = refused _
    go false true true whole = refused _
    go false true false true = said
    go false true false false = refused _
    go false false unnumbered whole = refused _

code_spelled : (head : CommandHead) (c : PlainCommand) → head.code < 2 ^ 16 → number_at 2 2 (control.plain head c) ≡ head.code
unfolding number_at
code_spelled head c low = omega arith

-- ---- requests

request_read : (r : Request) → IsRequestNumber r.number → command_reading (request_bytes r) ≡ Ok (resend_head r.number, resend_command r.resend)
request_read r n =
    let low : r.number < 2 ^ 16 = let most = n.at_most in omega arith in
    ((reads_command (request_bytes r)).given (resend_head r.number) (resend_command r.resend)).1
    ((is_written_command (resend_head r.number) (resend_command r.resend)).read_again
    (record { request = n.from_one; allowed = (refl, packet_resend refl refl refl); fits = omega arith })
    (record { flags = omega arith; code = omega arith; request = low; body = tt }))

-- a request is read as one for packets of its block
pub request_asks : (r : Request) → IsRequestNumber r.number → asked_in (command_reading (request_bytes r)) ≡ Some (resend_at (resend_body r.resend))
request_asks r n = ap asked_in (request_read r n)

pub request_block : (r : Resend) → r.block < 2 ^ 64 → (resend_at (resend_body r)).block ≡ r.block
unfolding number_at
request_block r low = omega (arith, big_from-bytes 8 r.block [])

pub request_size : (r : Request) → IsRequestNumber r.number → ReadsSize (command_reading (request_bytes r))
request_size r n = subst ReadsSize (sym (request_read r n)) tt

-- a command with this code is no register or memory command
no_access : (head : CommandHead) (body : List ℕ) → head.code ≡ PACKETRESEND_CMD → IsNoAccess (or_form head (command_in head body))
no_access head body e = rw e (either _ (nat_lt MAX_BODY_SIZE (length body)) ((length body == 20) && has_flag 0x10 head.flags))
  where
    either : (h : CommandHead) (long allowed : Bool) → IsNoAccess (or_form h (if long then None else given_if allowed (other PACKETRESEND_CMD body)))
    either h true allowed = tt
    either h false true = λ a. a
    either h false false = tt

-- whatever the request's number
pub request_is_no_access : (r : Request) → IsNoAccess (command_reading (request_bytes r))
request_is_no_access r =
    by_code IsNoAccess (request_bytes r) (λ e. tt)
    (no_access (reading.head_at (request_bytes r)) (drop 8 (request_bytes r)) (code_spelled (resend_head r.number) (resend_command r.resend) (omega arith)))

-- ---- commands of the client

-- a body of WRITEREG whose writes leave the packet size
write_is_of_setup : (head : CommandHead) (body : List ℕ) → head.code ≡ WRITEREG_CMD → WritesSize (write_reg body)
    → (asked_in (or_form head (command_in head body)) ≡ None) × ReadsSize (or_form head (command_in head body))
write_is_of_setup head body e w = rw e (either _ (nat_lt MAX_BODY_SIZE (length body)) (reading.are_items 8 67 body))
  where
    either : (h : CommandHead) (long allowed : Bool) → (asked_in (or_form h (if long then None else given_if allowed (write_reg body))) ≡ None)
        × ReadsSize (or_form h (if long then None else given_if allowed (write_reg body)))
    either h true allowed = (refl, tt)
    either h false true = (refl, w)
    either h false false = (refl, tt)

read_is_of_setup : (head : CommandHead) (body : List ℕ) → head.code ≡ READREG_CMD
    → (asked_in (or_form head (command_in head body)) ≡ None) × ReadsSize (or_form head (command_in head body))
read_is_of_setup head body e = rw e (either _ (nat_lt MAX_BODY_SIZE (length body)) (reading.are_items 4 135 body))
  where
    either : (h : CommandHead) (long allowed : Bool) → (asked_in (or_form h (if long then None else given_if allowed (read_reg body))) ≡ None)
        × ReadsSize (or_form h (if long then None else given_if allowed (read_reg body)))
    either h true allowed = (refl, tt)
    either h false true = (refl, tt)
    either h false false = (refl, tt)

-- what both say of a reading
abbrev AreOfSetup : Result (CommandHead × PlainCommand) ControlError → Type 0
AreOfSetup r = (asked_in r ≡ None) × ReadsSize r

of_setup : (bytes : List ℕ) → AreOfSetup (command_reading bytes) → IsOfSetup bytes
of_setup bytes h = record { no_packets = h.0; size = h.1 }

pub heartbeat_is : (req : ℕ) → IsOfSetup (control.plain (head_for req heartbeat) heartbeat)
heartbeat_is req =
    let bytes = control.plain (head_for req heartbeat) heartbeat in
    of_setup bytes (by_code AreOfSetup bytes (λ e. (refl, tt)) (read_is_of_setup (reading.head_at bytes) (drop 8 bytes) (code_spelled (head_for req heartbeat) heartbeat (omega arith))))

-- the one write that the body holds
one_write : (address value : ℕ) → address < 2 ^ 32 → value < 2 ^ 32 → (address ≡ SCPS0 → value ≡ PACKET_SIZE) → WritesSize (write_of address value)
unfolding number_at
one_write address value a v h = (
  λ e.
      let is : value ≡ PACKET_SIZE = h (omega (arith, big_from-bytes 4 address (big_bytes 4 value), e)) in
      omega (arith, big_from-bytes 4 value [], is),
  tt,
)

pub write_is : (req address value : ℕ) → address < 2 ^ 32 → value < 2 ^ 32 → (address ≡ SCPS0 → value ≡ PACKET_SIZE) → IsOfSetup (control.plain (head_for req (write_of address value)) (write_of address value))
write_is req address value a v h =
    let c = write_of address value in
    let bytes = control.plain (head_for req c) c in
    of_setup bytes (by_code AreOfSetup bytes (λ e. (refl, tt)) (write_is_of_setup (reading.head_at bytes) (drop 8 bytes) (code_spelled (head_for req c) c (omega arith)) (one_write address value a v h)))
