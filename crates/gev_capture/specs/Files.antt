-- What the bytes of a capture are: a pcap file (the classic format of libpcap) or a pcapng file, record
-- after record, with the packets that were captured and how the capture ends.
use Rattle.std.specs.Prelude.{ℕ, zero, suc, ◌+◌, ◌-◌, ◌*◌, ◌/◌, ◌%◌, ◌^◌, ◌==◌, ◌&&◌, ◌||◌, nat_le, nat_lt, min, List, [], ◌∷◌, ◌++◌, length, take, drop, slice_index, slice_get, slice_set, Bool, Option, Some, None, if◌then◌else◌}
use Rattle.gev_capture.specs.declared.order.Order.{Order}
use Rattle.gev_capture.specs.declared.order.Order.TheVariants.{Big, Little}
use Rattle.gev_capture.specs.declared.kind.CaptureKind.{CaptureKind}
use Rattle.gev_capture.specs.declared.kind.CaptureKind.TheVariants.{Magic, Version, Length, Interface}
use Rattle.gev_capture.specs.declared.form.SectionInterface.{SectionInterface}
use Rattle.gev_capture.specs.Numbers.{number}

-- A packet as it was captured: its time in nanoseconds, rounded down, its link type and its bytes.
pub record Frame : Type 0 where
  pub time : ℕ
  pub link : ℕ
  pub bytes : List ℕ

-- What a record tells of packets.
pub data Packet : Type 0 where
  -- one was captured
  captured : Frame → Packet
  -- the capturing program has dropped so many of an interface's: as it told of the interface before, 0 where it
  -- hadn't, and as it tells now
  dropped : ℕ → ℕ → Packet

-- What is known of the format behind the records so far.
pub data Format : Type 0 where
  -- nothing was read
  fresh : Format
  -- a pcap file: its byte order, the parts of a second, and the link type
  classic : Order → ℕ → ℕ → Format
  -- a section of a pcapng file: its byte order, its interfaces, and the time of the last packet
  section : Order → List SectionInterface → ℕ → Format

-- What the bytes that are left begin with.
pub data Told : Type 0 where
  -- nothing yet: at least so many bytes are needed
  wants : ℕ → Told
  -- a record that is refused
  refused : CaptureKind → Told
  -- a record of so many bytes, the format behind it, and the packet in it
  given : ℕ → Format → Option Packet → Told

-- so many bytes are needed for what comes next
abbrev pub need : ℕ → List ℕ → Told → Told
need n bytes next = if nat_lt (length bytes) n then wants n else next

-- this is needed for what comes next
abbrev pub test : Bool → CaptureKind → Told → Told
test good kind next = if good then next else refused kind

-- the n bytes from a place on, as a packet
abbrev pub packet_at : ℕ → ℕ → ℕ → ℕ → List ℕ → Packet
packet_at time link at n bytes = captured (record { time = time; link = link; bytes = take n (drop at bytes) })

-- ---- pcap

-- The magic number, read with its most significant byte first, tells the byte order and the parts of a second.
abbrev pub classic_magic : ℕ → Option (Order × ℕ)
classic_magic magic =
    if magic == 0xA1B2C3D4 then Some (Big, 1000000)
    else if magic == 0xD4C3B2A1 then Some (Little, 1000000)
    else if magic == 0xA1B23C4D then Some (Big, 1000000000)
    else if magic == 0x4D3CB2A1 then Some (Little, 1000000000)
    else None

-- the file's header, whose version 2 is known, and of whose link type the low 16 bits count
abbrev pub classic_header : Order → ℕ → List ℕ → Told
classic_header order parts bytes =
    need 24 bytes
    (test (number order 4 2 bytes == 2) Version
    (given 24 (classic order parts (number order 20 4 bytes % 2 ^ 16)) None))

-- seconds, and parts of a second
abbrev pub classic_time : Order → ℕ → List ℕ → ℕ
classic_time order parts bytes = number order 0 4 bytes * 1000000000 + number order 4 4 bytes * 1000000000 / parts

-- a record with n captured bytes behind its header of 16
abbrev pub classic_record : Order → ℕ → ℕ → ℕ → List ℕ → Told
classic_record order parts link n bytes =
    test (nat_le n 262144) Length
    (need (16 + n) bytes
    (given (16 + n) (classic order parts link) (Some (packet_at (classic_time order parts bytes) link 16 n bytes))))

abbrev pub told_classic : Order → ℕ → ℕ → List ℕ → Told
told_classic order parts link bytes = need 16 bytes (classic_record order parts link (number order 8 4 bytes) bytes)

-- ---- pcapng: the options of an interface

-- how many bytes the first option has, with its padding
abbrev pub option_size : Order → List ℕ → ℕ
option_size order bytes = 4 + (number order 2 2 bytes + 3) / 4 * 4

-- the first option tells the resolution: it has the code 9 and one byte
abbrev pub is_resolution : Order → List ℕ → Bool
is_resolution order bytes = number order 0 2 bytes == 9 && number order 2 2 bytes == 1

abbrev pub with_option : Order → ℕ → List ℕ → ℕ
with_option order r bytes = if is_resolution order bytes then slice_index bytes 4 else r

-- no option stands there: none fits, or the code 0 ends them
abbrev pub has_ended : Order → List ℕ → Bool
has_ended order bytes =
    nat_lt (length bytes) 4 || number order 0 2 bytes == 0 || nat_lt (length bytes) (4 + number order 2 2 bytes)

-- The resolution by the options, the last that tells it, else r. The first number only counts down.
abbrev pub resolution : ℕ → Order → ℕ → List ℕ → ℕ
resolution zero order r bytes = r
resolution (suc more) order r bytes =
    if has_ended order bytes then r
    else resolution more order (with_option order r bytes) (drop (option_size order bytes) bytes)

-- the parts of a second by a resolution: a power of ten, or from 128 on of two; any other is that of 6
abbrev pub parts_of : ℕ → ℕ
parts_of r = if nat_le r 19 then 10 ^ r else if nat_le 128 r && nat_le r 191 then 2 ^ (r - 128) else 1000000

-- the options of a block of so many bytes, behind the 8 bytes of an interface's body
abbrev pub options_in : ℕ → List ℕ → List ℕ
options_in total bytes = take (total - 4 - 16) (drop 16 bytes)

abbrev pub interface_in : Order → ℕ → List ℕ → SectionInterface
interface_in order total bytes = record {
  link = number order 8 2 bytes;
  most = number order 12 4 bytes;
  parts = parts_of (resolution (length (options_in total bytes)) order 6 (options_in total bytes));
  dropped = 0;
}

-- ---- pcapng: blocks

-- the byte order of a section, by its magic number read with the most significant byte first
abbrev pub byte_order : ℕ → Option Order
byte_order magic = if magic == 0x1A2B3C4D then Some Big else if magic == 0x4D3C2B1A then Some Little else None

-- a block's total length
abbrev pub is_total : ℕ → ℕ → Bool
is_total least total = total % 4 == 0 && nat_le least total && nat_le total 1048576

-- The block is there, and its two total lengths are one.
abbrev pub whole : Order → ℕ → ℕ → List ℕ → Told → Told
whole order least total bytes next =
    test (is_total least total) Length
    (need total bytes
    (test (number order (total - 4) 4 bytes == total) Length next))

-- an interface, at most the 256th of its section
abbrev pub interface_block : Order → List SectionInterface → ℕ → ℕ → List ℕ → Told
interface_block order interfaces time total bytes =
    test (nat_le 20 total) Length
    (test (nat_lt (length interfaces) 256) Interface
    (given total (section order (interfaces ++ interface_in order total bytes ∷ []) time) None))

-- the time of an enhanced packet: 64 bits of parts of a second
abbrev pub block_time : Order → ℕ → List ℕ → ℕ
block_time order parts bytes = (number order 12 4 bytes * 2 ^ 32 + number order 16 4 bytes) * 1000000000 / parts

abbrev pub on_interface : Order → List SectionInterface → ℕ → ℕ → Option SectionInterface → List ℕ → Told
on_interface order interfaces total n None bytes = refused Interface
on_interface order interfaces total n (Some interface) bytes =
    given total (section order interfaces (block_time order interface.parts bytes))
    (Some (packet_at (block_time order interface.parts bytes) interface.link 28 n bytes))

-- with n captured bytes, which fit the rest of the body, of interface i
abbrev pub counted_packet : Order → List SectionInterface → ℕ → ℕ → ℕ → List ℕ → Told
counted_packet order interfaces total i n bytes =
    test (nat_le n 262144) Length
    (test (nat_le (32 + n) total) Length
    (on_interface order interfaces total n (slice_get interfaces i) bytes))

abbrev pub packet_block : Order → List SectionInterface → ℕ → ℕ → List ℕ → Told
packet_block order interfaces total i bytes =
    test (nat_le 32 total) Length (counted_packet order interfaces total i (number order 20 4 bytes) bytes)

-- how many bytes of a simple packet were captured, where its block has room for so many
abbrev pub simple_count : ℕ → ℕ → ℕ → ℕ
simple_count most original room = if most == 0 then min original room else min most (min original room)

abbrev pub simple_sized : Order → List SectionInterface → ℕ → ℕ → ℕ → ℕ → List ℕ → Told
simple_sized order interfaces time total link n bytes =
    test (nat_le n 262144) Length (given total (section order interfaces time) (Some (packet_at time link 12 n bytes)))

abbrev pub simple_on : Order → List SectionInterface → ℕ → ℕ → Option SectionInterface → List ℕ → Told
simple_on order interfaces time total None bytes = refused Interface
simple_on order interfaces time total (Some interface) bytes =
    simple_sized order interfaces time total interface.link (simple_count interface.most (number order 8 4 bytes) (total - 16)) bytes

-- a simple packet, of the first interface, at the time of the packet before it
abbrev pub simple_block : Order → List SectionInterface → ℕ → ℕ → List ℕ → Told
simple_block order interfaces time total bytes =
    test (nat_le 16 total) Length (simple_on order interfaces time total (slice_get interfaces 0) bytes)

-- ---- pcapng: the statistics of an interface

-- the first option tells how many packets were dropped: it has the code 5 and eight bytes
abbrev pub is_dropped : Order → List ℕ → Bool
is_dropped order bytes = number order 0 2 bytes == 5 && number order 2 2 bytes == 8

abbrev pub with_dropped : Order → Option ℕ → List ℕ → Option ℕ
with_dropped order found bytes = if is_dropped order bytes then Some (number order 4 8 bytes) else found

-- How many were dropped by the options, the last that tells it. The first number only counts down.
abbrev pub dropped_in : ℕ → Order → Option ℕ → List ℕ → Option ℕ
dropped_in zero order found bytes = found
dropped_in (suc more) order found bytes =
    if has_ended order bytes then found
    else dropped_in more order (with_dropped order found bytes) (drop (option_size order bytes) bytes)

-- the options of a block of so many bytes, behind the 12 bytes of a statistics block's body
abbrev pub statistics_in : ℕ → List ℕ → List ℕ
statistics_in total bytes = take (total - 4 - 20) (drop 20 bytes)

abbrev pub told_dropped : Order → List ℕ → Option ℕ
told_dropped order options = dropped_in (length options) order None options

-- of interface i, where it's there and this is told
abbrev pub statistics_on : Order → List SectionInterface → ℕ → ℕ → ℕ → Option SectionInterface → Option ℕ → Told
statistics_on order interfaces time total i (Some interface) (Some n) =
    given total (section order (slice_set interfaces i (record interface { dropped = n })) time) (Some (dropped interface.dropped n))
statistics_on order interfaces time total i (Some interface) None = given total (section order interfaces time) None
statistics_on order interfaces time total i None found = given total (section order interfaces time) None

-- It's never refused: where it tells nothing, it's skipped.
abbrev pub statistics_block : Order → List SectionInterface → ℕ → ℕ → List ℕ → Told
statistics_block order interfaces time total bytes =
    if nat_lt total 24 then given total (section order interfaces time) None
    else statistics_on order interfaces time total (number order 8 4 bytes) (slice_get interfaces (number order 8 4 bytes)) (told_dropped order (statistics_in total bytes))

-- by the block's type; what isn't known is skipped
abbrev pub body_told : Order → List SectionInterface → ℕ → ℕ → ℕ → List ℕ → Told
body_told order interfaces time total type bytes =
    if type == 1 then interface_block order interfaces time total bytes
    else if type == 6 then packet_block order interfaces total (number order 8 4 bytes) bytes
    else if type == 2 then packet_block order interfaces total (number order 8 2 bytes) bytes
    else if type == 3 then simple_block order interfaces time total bytes
    else if type == 5 then statistics_block order interfaces time total bytes
    else given total (section order interfaces time) None

abbrev pub sized_block : Order → List SectionInterface → ℕ → ℕ → List ℕ → Told
sized_block order interfaces time total bytes =
    whole order 12 total bytes (body_told order interfaces time total (number order 0 4 bytes) bytes)

-- a section's header, whose version 1 is known; the section has no interface yet
abbrev pub versioned : Order → ℕ → ℕ → List ℕ → Told
versioned order total time bytes =
    test (number order 12 2 bytes == 1) Version (given total (section order [] time) None)

abbrev pub sized_section : Order → ℕ → ℕ → List ℕ → Told
sized_section order total time bytes = whole order 28 total bytes (versioned order total time bytes)

abbrev pub told_section : Option Order → ℕ → List ℕ → Told
told_section None time bytes = refused Magic
told_section (Some order) time bytes = sized_section order (number order 4 4 bytes) time bytes

-- the type of a section header block, which reads the same in both byte orders
abbrev pub section_type : ℕ
section_type = 0x0A0D0D0A

abbrev pub begun_section : ℕ → List ℕ → Told
begun_section time bytes = need 12 bytes (told_section (byte_order (number Big 8 4 bytes)) time bytes)

abbrev pub told_block : Order → List SectionInterface → ℕ → List ℕ → Told
told_block order interfaces time bytes =
    need 8 bytes
    (if number Big 0 4 bytes == section_type then begun_section time bytes
    else sized_block order interfaces time (number order 4 4 bytes) bytes)

-- ---- records

-- the first record: the header of a pcap file or of a section
abbrev pub opens_as : Option (Order × ℕ) → List ℕ → Told
opens_as (Some x) bytes = classic_header x.0 x.1 bytes
opens_as None bytes = test (number Big 0 4 bytes == section_type) Magic (begun_section 0 bytes)

-- What the bytes that are left begin with, behind records that gave this format.
abbrev pub told : Format → List ℕ → Told
told fresh bytes = need 4 bytes (opens_as (classic_magic (number Big 0 4 bytes)) bytes)
told (classic order parts link) bytes = told_classic order parts link bytes
told (section order interfaces time) bytes = told_block order interfaces time bytes
