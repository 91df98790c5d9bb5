-- What a captured packet is: a datagram of UDP over IPv4 (RFC 791, RFC 768), or why not, by its interface's link
-- type (the numbers that tcpdump.org lists as LINKTYPE).
use Rattle.std.specs.Prelude.{⊤, ◌≤◌, ℕ, ◌+◌, ◌-◌, ◌*◌, ◌/◌, ◌%◌, ◌^◌, ◌==◌, ◌&&◌, ◌||◌, not, nat_le, nat_lt, min, max, List, length, take, drop, slice_index, Bool, Option, Some, None, if◌then◌else◌}
use Rattle.wire_fields.specs.Fields.{number_at}
use Rattle.gev_types.specs.declared.peer.Peer.{Peer}
use Rattle.gev_capture.specs.declared.content.Content.{Content}
use Rattle.gev_capture.specs.declared.content.Content.TheVariants as content

-- the bytes of a datagram, from whom and to whom
pub record Carried : Type 0 where
  pub sender : Peer
  pub receiver : Peer
  pub bytes : List ℕ

pub data Seen : Type 0 where
  -- no datagram of UDP over IPv4
  other : Seen
  -- a part of one; no parts are put together
  fragment : Seen
  -- one of which not all bytes were captured
  cut : Seen
  datagram : Carried → Seen
  -- no packet: the capturing program has dropped so many of an interface's, as it told before and as it tells now
  lost : ℕ → ℕ → Seen

-- what a packet of the code is
abbrev pub seen_as : Content → Seen
seen_as content.Other = other
seen_as content.Fragment = fragment
seen_as content.Cut = cut
seen_as (content.Dropped before now) = lost before now
seen_as (content.Datagram sender receiver bytes) = datagram (record { sender = sender; receiver = receiver; bytes = bytes.now })

-- ---- where the network layer begins

-- the type of IPv4 in Ethernet's headers and in those that are like them
abbrev pub ipv4 : ℕ
ipv4 = 0x0800

-- the type that stands at a place, and IPv4 behind it
abbrev pub untagged : ℕ → List ℕ → Option (List ℕ)
untagged at bytes =
    if nat_lt (length bytes) (at + 2) then None
    else if number_at at 2 bytes == ipv4 then Some (drop (at + 2) bytes) else None

-- the types of tags of a VLAN (IEEE 802.1Q and 802.1ad)
abbrev pub is_tag : ℕ → Bool
is_tag type = type == 0x8100 || type == 0x88A8

-- behind at most one tag, and at most two
abbrev pub once_tagged : ℕ → List ℕ → Option (List ℕ)
once_tagged at bytes =
    if nat_lt (length bytes) (at + 2) then None
    else if is_tag (number_at at 2 bytes) then untagged (at + 4) bytes else untagged at bytes

abbrev pub twice_tagged : ℕ → List ℕ → Option (List ℕ)
twice_tagged at bytes =
    if nat_lt (length bytes) (at + 2) then None
    else if is_tag (number_at at 2 bytes) then once_tagged (at + 4) bytes else untagged at bytes

-- a loopback: its first four bytes are 2, in either byte order
abbrev pub looped : List ℕ → Option (List ℕ)
looped bytes =
    if nat_lt (length bytes) 4 then None
    else if number_at 0 4 bytes == 0x00000002 || number_at 0 4 bytes == 0x02000000 then Some (drop 4 bytes) else None

-- Linux's cooked header, of this size and with the type at this place
abbrev pub cooked : ℕ → ℕ → List ℕ → Option (List ℕ)
cooked size place bytes =
    if nat_lt (length bytes) size then None
    else if number_at place 2 bytes == ipv4 then Some (drop size bytes) else None

-- by the link type: Ethernet, loopback, raw IP, Linux cooked of both versions
abbrev pub network : ℕ → List ℕ → Option (List ℕ)
network link bytes =
    if link == 1 then twice_tagged 12 bytes
    else if link == 0 || link == 108 then looped bytes
    else if link == 101 || link == 228 then Some bytes
    else if link == 113 then cooked 16 14 bytes
    else if link == 276 then cooked 20 0 bytes
    else None

-- ---- IPv4 and UDP

-- the bytes of the IPv4 header
abbrev pub header_size : List ℕ → ℕ
header_size ip = slice_index ip 0 % 16 * 4

abbrev pub total_length : List ℕ → ℕ
total_length ip = number_at 2 2 ip

-- version 4, a header of at least five words that fits, and the protocol UDP
abbrev pub is_udp : List ℕ → Bool
is_udp ip =
    slice_index ip 0 / 16 == 4 && nat_le 20 (header_size ip) && nat_le (header_size ip) (total_length ip) && slice_index ip 9 == 17

-- 'more fragments' is set, or the offset isn't 0
abbrev pub is_fragment : List ℕ → Bool
is_fragment ip = not (number_at 6 2 ip % 2 ^ 14 == 0)

abbrev pub datagram_in : List ℕ → List ℕ → ℕ → Seen
datagram_in ip udp n = datagram (record {
  sender = record { address = number_at 12 4 ip; port = number_at 0 2 udp };
  receiver = record { address = number_at 16 4 ip; port = number_at 2 2 udp };
  bytes = take (n - 8) (drop 8 udp);
})

-- UDP of n bytes, where the IPv4 packet has room for so many
abbrev pub udp_sized : List ℕ → List ℕ → ℕ → ℕ → Seen
udp_sized ip udp room n =
    if nat_lt n 8 then other else if nat_lt room n then other else if nat_lt (length udp) n then cut else datagram_in ip udp n

abbrev pub udp_seen : List ℕ → List ℕ → ℕ → Seen
udp_seen ip udp room = udp_sized ip udp room (number_at 4 2 udp)

abbrev pub ip_seen : List ℕ → Seen
ip_seen ip =
    if nat_lt (length ip) 20 then other
    else if not (is_udp ip) then other
    else if is_fragment ip then fragment
    else if nat_lt (total_length ip) (header_size ip + 8) then other
    else if nat_lt (length ip) (header_size ip + 8) then cut
    else udp_seen ip (drop (header_size ip) ip) (total_length ip - header_size ip)

abbrev pub network_seen : Option (List ℕ) → Seen
network_seen None = other
network_seen (Some ip) = ip_seen ip

-- What a packet of this link type is.
abbrev pub seen : ℕ → List ℕ → Seen
seen link bytes = network_seen (network link bytes)

-- No datagram of UDP has more bytes than 65,535, its header of 8 included.
abbrev pub IsShort : Seen → Type 0
IsShort other = ⊤
IsShort fragment = ⊤
IsShort cut = ⊤
IsShort (lost before now) = ⊤
IsShort (datagram carried) = length carried.bytes ≤ 65527

-- ---- moments

-- A packet's moment, in whole milliseconds from the first packet's time on: never below that of the packet
-- before it, and at most what 64 bits hold. Times are in nanoseconds.
abbrev pub moment_of : ℕ → ℕ → ℕ → ℕ
moment_of first last time = min (2 ^ 64 - 1) (max last ((time - first) / 1000000))
