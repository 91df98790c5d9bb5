-- Captures worked out by hand, from their bytes to the lines of `streams`.
use Rattle.std.specs.Prelude.{◌≡◌, ℕ, List, [], ◌∷◌, ◌++◌, codes, None}
use Rattle.std.specs.List.{concat}
use Rattle.gev_capture.specs.Files.{Packet}
use Rattle.gev_capture.specs.Captures.{HasCaptured}
use Rattle.gev_capture.specs.Sightings.{sightings}
use Rattle.capture_streams.specs.Texts.{streams_text}

-- A capture of these bytes, of which no record is refused, is told by these lines.
pub record IsListed (bytes text : List ℕ) : Type 0 where
  pub packets : List Packet
  pub captured : HasCaptured bytes packets None
  pub text_is : streams_text (sightings packets) ≡ text

-- ---- a packet that is sent again

-- a pcap file of microseconds, whose packets begin with IP
abbrev pub raw_file : List ℕ
raw_file =
    212 ∷ 195 ∷ 178 ∷ 161 ∷ 2 ∷ 0 ∷ 4 ∷ 0 ∷ 0 ∷ 0 ∷ 0 ∷ 0 ∷ 0 ∷ 0 ∷ 0 ∷ 0 ∷ 255 ∷ 255 ∷ 0 ∷ 0 ∷ 101 ∷ 0 ∷ 0 ∷ 0 ∷ []

-- at the time 0, from 10.0.0.1, port 1024, to 10.0.0.2, port 49152: the leader of block 7, of 3 x 1 pixels of the format 0x01080001
abbrev pub leader_record : List ℕ
leader_record =
    0 ∷ 0 ∷ 0 ∷ 0 ∷ 0 ∷ 0 ∷ 0 ∷ 0 ∷ 72 ∷ 0 ∷ 0 ∷ 0 ∷ 72 ∷ 0 ∷ 0 ∷ 0 ∷ 69 ∷ 0 ∷ 0 ∷ 72 ∷ 0 ∷ 7 ∷ 64 ∷ 0
    ∷ 64 ∷ 17 ∷ 0 ∷ 0 ∷ 10 ∷ 0 ∷ 0 ∷ 1 ∷ 10 ∷ 0 ∷ 0 ∷ 2 ∷ 4 ∷ 0 ∷ 192 ∷ 0 ∷ 0 ∷ 52 ∷ 0 ∷ 0 ∷ 0 ∷ 0 ∷ 0 ∷ 7
    ∷ 1 ∷ 0 ∷ 0 ∷ 0 ∷ 0 ∷ 0 ∷ 0 ∷ 1 ∷ 0 ∷ 0 ∷ 0 ∷ 0 ∷ 0 ∷ 0 ∷ 0 ∷ 0 ∷ 1 ∷ 8 ∷ 0 ∷ 1 ∷ 0 ∷ 0 ∷ 0 ∷ 3
    ∷ 0 ∷ 0 ∷ 0 ∷ 1 ∷ 0 ∷ 0 ∷ 0 ∷ 0 ∷ 0 ∷ 0 ∷ 0 ∷ 0 ∷ 0 ∷ 0 ∷ 0 ∷ 0 ∷ []

-- its payload `abc`, with the status 0x0100
abbrev pub resent_record : List ℕ
resent_record =
    0 ∷ 0 ∷ 0 ∷ 0 ∷ 0 ∷ 0 ∷ 0 ∷ 0 ∷ 39 ∷ 0 ∷ 0 ∷ 0 ∷ 39 ∷ 0 ∷ 0 ∷ 0 ∷ 69 ∷ 0 ∷ 0 ∷ 39 ∷ 0 ∷ 7 ∷ 64 ∷ 0
    ∷ 64 ∷ 17 ∷ 0 ∷ 0 ∷ 10 ∷ 0 ∷ 0 ∷ 1 ∷ 10 ∷ 0 ∷ 0 ∷ 2 ∷ 4 ∷ 0 ∷ 192 ∷ 0 ∷ 0 ∷ 19 ∷ 0 ∷ 0 ∷ 1 ∷ 0 ∷ 0 ∷ 7
    ∷ 3 ∷ 0 ∷ 0 ∷ 1 ∷ 97 ∷ 98 ∷ 99 ∷ []

-- its trailer, of one line
abbrev pub trailer_record : List ℕ
trailer_record =
    0 ∷ 0 ∷ 0 ∷ 0 ∷ 0 ∷ 0 ∷ 0 ∷ 0 ∷ 44 ∷ 0 ∷ 0 ∷ 0 ∷ 44 ∷ 0 ∷ 0 ∷ 0 ∷ 69 ∷ 0 ∷ 0 ∷ 44 ∷ 0 ∷ 7 ∷ 64 ∷ 0
    ∷ 64 ∷ 17 ∷ 0 ∷ 0 ∷ 10 ∷ 0 ∷ 0 ∷ 1 ∷ 10 ∷ 0 ∷ 0 ∷ 2 ∷ 4 ∷ 0 ∷ 192 ∷ 0 ∷ 0 ∷ 24 ∷ 0 ∷ 0 ∷ 0 ∷ 0 ∷ 0 ∷ 7
    ∷ 2 ∷ 0 ∷ 0 ∷ 2 ∷ 0 ∷ 0 ∷ 0 ∷ 1 ∷ 0 ∷ 0 ∷ 0 ∷ 1 ∷ []

abbrev pub packet_sent_again : List ℕ
packet_sent_again = concat (raw_file ∷ leader_record ∷ resent_record ∷ trailer_record ∷ [])

abbrev pub lines_of_packet_sent_again : List ℕ
lines_of_packet_sent_again =
    codes "stream 10.0.0.1:1024 10.0.0.2:49152 ids=standard datagrams=3 payload=3 resent=1 leaders=1 width=3 height=1 pixel=0x01080001 bytes=3 first=7 last=7 ms=0\n"
    ++ codes "end packets=3 datagrams=3 fragments=0 cut=0 other=0 unlisted=0 streams=1 dropped=0 begin=0\n"

-- ---- what was dropped, and when it began

-- a section whose least significant byte is first, and two interfaces
abbrev pub little_section : List ℕ
little_section =
    10 ∷ 13 ∷ 13 ∷ 10 ∷ 28 ∷ 0 ∷ 0 ∷ 0 ∷ 77 ∷ 60 ∷ 43 ∷ 26 ∷ 1 ∷ 0 ∷ 0 ∷ 0 ∷ 255 ∷ 255 ∷ 255 ∷ 255 ∷ 255 ∷ 255 ∷ 255 ∷ 255
    ∷ 28 ∷ 0 ∷ 0 ∷ 0 ∷ []

abbrev pub little_interface : List ℕ
little_interface =
    1 ∷ 0 ∷ 0 ∷ 0 ∷ 20 ∷ 0 ∷ 0 ∷ 0 ∷ 101 ∷ 0 ∷ 0 ∷ 0 ∷ 0 ∷ 0 ∷ 0 ∷ 0 ∷ 20 ∷ 0 ∷ 0 ∷ 0 ∷ []

-- the first has dropped 3 packets so far
abbrev pub three_dropped : List ℕ
three_dropped =
    5 ∷ 0 ∷ 0 ∷ 0 ∷ 36 ∷ 0 ∷ 0 ∷ 0 ∷ 0 ∷ 0 ∷ 0 ∷ 0 ∷ 0 ∷ 0 ∷ 0 ∷ 0 ∷ 0 ∷ 0 ∷ 0 ∷ 0 ∷ 5 ∷ 0 ∷ 8 ∷ 0
    ∷ 3 ∷ 0 ∷ 0 ∷ 0 ∷ 0 ∷ 0 ∷ 0 ∷ 0 ∷ 36 ∷ 0 ∷ 0 ∷ 0 ∷ []

-- a packet of no bytes at the second, 1,700,000,000.123456 seconds behind the beginning of 1970
abbrev pub empty_packet : List ℕ
empty_packet =
    6 ∷ 0 ∷ 0 ∷ 0 ∷ 32 ∷ 0 ∷ 0 ∷ 0 ∷ 1 ∷ 0 ∷ 0 ∷ 0 ∷ 36 ∷ 10 ∷ 6 ∷ 0 ∷ 64 ∷ 34 ∷ 32 ∷ 24 ∷ 0 ∷ 0 ∷ 0 ∷ 0
    ∷ 0 ∷ 0 ∷ 0 ∷ 0 ∷ 32 ∷ 0 ∷ 0 ∷ 0 ∷ []

-- the second has dropped 7, and then the first 5
abbrev pub seven_dropped : List ℕ
seven_dropped =
    5 ∷ 0 ∷ 0 ∷ 0 ∷ 36 ∷ 0 ∷ 0 ∷ 0 ∷ 1 ∷ 0 ∷ 0 ∷ 0 ∷ 0 ∷ 0 ∷ 0 ∷ 0 ∷ 0 ∷ 0 ∷ 0 ∷ 0 ∷ 5 ∷ 0 ∷ 8 ∷ 0
    ∷ 7 ∷ 0 ∷ 0 ∷ 0 ∷ 0 ∷ 0 ∷ 0 ∷ 0 ∷ 36 ∷ 0 ∷ 0 ∷ 0 ∷ []

abbrev pub five_dropped : List ℕ
five_dropped =
    5 ∷ 0 ∷ 0 ∷ 0 ∷ 36 ∷ 0 ∷ 0 ∷ 0 ∷ 0 ∷ 0 ∷ 0 ∷ 0 ∷ 0 ∷ 0 ∷ 0 ∷ 0 ∷ 0 ∷ 0 ∷ 0 ∷ 0 ∷ 5 ∷ 0 ∷ 8 ∷ 0
    ∷ 5 ∷ 0 ∷ 0 ∷ 0 ∷ 0 ∷ 0 ∷ 0 ∷ 0 ∷ 36 ∷ 0 ∷ 0 ∷ 0 ∷ []

-- a section whose most significant byte is first, with an interface that has dropped 2
abbrev pub big_section : List ℕ
big_section =
    10 ∷ 13 ∷ 13 ∷ 10 ∷ 0 ∷ 0 ∷ 0 ∷ 28 ∷ 26 ∷ 43 ∷ 60 ∷ 77 ∷ 0 ∷ 1 ∷ 0 ∷ 0 ∷ 255 ∷ 255 ∷ 255 ∷ 255 ∷ 255 ∷ 255 ∷ 255 ∷ 255
    ∷ 0 ∷ 0 ∷ 0 ∷ 28 ∷ []

abbrev pub big_interface : List ℕ
big_interface =
    0 ∷ 0 ∷ 0 ∷ 1 ∷ 0 ∷ 0 ∷ 0 ∷ 20 ∷ 0 ∷ 101 ∷ 0 ∷ 0 ∷ 0 ∷ 0 ∷ 0 ∷ 0 ∷ 0 ∷ 0 ∷ 0 ∷ 20 ∷ []

abbrev pub two_dropped : List ℕ
two_dropped =
    0 ∷ 0 ∷ 0 ∷ 5 ∷ 0 ∷ 0 ∷ 0 ∷ 36 ∷ 0 ∷ 0 ∷ 0 ∷ 0 ∷ 0 ∷ 0 ∷ 0 ∷ 0 ∷ 0 ∷ 0 ∷ 0 ∷ 0 ∷ 0 ∷ 5 ∷ 0 ∷ 8
    ∷ 0 ∷ 0 ∷ 0 ∷ 0 ∷ 0 ∷ 0 ∷ 0 ∷ 2 ∷ 0 ∷ 0 ∷ 0 ∷ 36 ∷ []

abbrev pub packets_dropped : List ℕ
packets_dropped = concat (
    little_section ∷ little_interface ∷ little_interface ∷ three_dropped ∷ empty_packet ∷ seven_dropped ∷ five_dropped
    ∷ big_section ∷ big_interface ∷ two_dropped ∷ [])

-- 7 and 5 and 2
abbrev pub lines_of_packets_dropped : List ℕ
lines_of_packets_dropped = codes "end packets=1 datagrams=0 fragments=0 cut=0 other=1 unlisted=0 streams=0 dropped=14 begin=1700000000123\n"

-- ---- the rows

-- A packet with the status 0x0100 is counted as sent again, a leader's fields stand in their places, an interface's last count is
-- the one that counts, and the beginning is in milliseconds.
pub record CapturesAreListed : Type 0 where
  pub sent_again : IsListed packet_sent_again lines_of_packet_sent_again
  pub dropped : IsListed packets_dropped lines_of_packets_dropped
