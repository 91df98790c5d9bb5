-- The packets that were dropped are those that each interface told last.
use Rattle.std.proofs.Common.{◌≡◌, ℕ, zero, suc, ◌+◌, ◌-◌, ◌%◌, ◌^◌, ◌==◌, ◌<◌, ◌≤◌, List, [], ◌∷◌, ◌++◌, length, drop, Bool, true, false, Option, Some, None, refl, sym, ap, subst, ◌∙◌, arith}
use Rattle.std.specs.Prelude.{⊤, not, nat_lt, nat_le, position, slice_get, slice_set, if◌then◌else◌}
use Rattle.wire_fields.specs.Fields.{number_at}
use Rattle.gev_types.specs.declared.peer.Peer.{Peer}
use Rattle.gev_capture.specs.declared.order.Order.{Order}
use Rattle.gev_capture.specs.declared.order.Order.TheVariants.{Big}
use Rattle.gev_capture.specs.declared.kind.CaptureKind.{CaptureKind}
use Rattle.gev_capture.specs.declared.kind.CaptureKind.TheVariants.{Magic, Version, Length, Interface}
use Rattle.gev_capture.specs.declared.form.SectionInterface.{SectionInterface}
use Rattle.gev_capture.specs.declared.moments.Moments.{Moments}
use Rattle.gev_capture.specs.Numbers.{number}
use Rattle.gev_capture.specs.Files as files
use Rattle.gev_capture.specs.Files.{Packet, captured, dropped, Frame, Format, fresh, classic, section, Told, wants, refused, given, told}
use Rattle.gev_capture.specs.Captures.{Read, Refusal, AreRecords, with_packet, packets_in, HasCaptured}
use Rattle.gev_capture.specs.Contents as contents
use Rattle.gev_capture.specs.Contents.{Seen, other, fragment, cut, datagram, lost, seen}
use Rattle.gev_capture.specs.Sightings.{Sighting, sighted, sighting_of, moments_with, no_moments, sightings}
use Rattle.capture_streams.specs.declared.sign.Kind.{Kind}
use Rattle.capture_streams.specs.declared.sign.Kind.TheVariants.{Leader, Payload, Other}
use Rattle.capture_streams.specs.declared.sign.Sign.{Sign}
use Rattle.capture_streams.specs.declared.stream.Stream.{Stream}
use Rattle.capture_streams.specs.Signs.{sign}
use Rattle.capture_streams.specs.Streams.{TableState, empty_table, is_between, begun, with_unlisted, with_new_by, with_datagram, dropped_now, counts_after, counted}
use Rattle.capture_streams.specs.Texts.{table_from, table_of}
use Rattle.capture_streams.specs.Dropped.{dropped_by, interfaces_in, ended_by, told_last, told_in, DroppedAreToldLast}

-- ---- a record

-- what an interface told before, and what it tells now
abbrev before_of : Option Packet → ℕ
before_of None = 0
before_of (Some (captured frame)) = 0
before_of (Some (dropped before now)) = before

abbrev now_of : Option Packet → ℕ
now_of None = 0
now_of (Some (captured frame)) = 0
now_of (Some (dropped before now)) = now

-- what the interfaces told last, from one record to the next
record Changes (was new : List SectionInterface) (packet : Option Packet) : Type 0 where
  few : before_of packet ≤ dropped_by was
  sum : dropped_by was + now_of packet ≡ before_of packet + ended_by was new + dropped_by new

abbrev Steps : List SectionInterface → Told → Type 0
Steps was (wants k) = ⊤
Steps was (refused kind) = ⊤
Steps was (given k format packet) = Changes was (interfaces_in format) packet

steps_if : (was : List SectionInterface) (b : Bool) (x y : Told) → Steps was x → Steps was y → Steps was (if b then x else y)
steps_if was true x y p q = p
steps_if was false x y p q = q

need_steps : (was : List SectionInterface) (n : ℕ) (bytes : List ℕ) (next : Told) → Steps was next → Steps was (files.need n bytes next)
need_steps was n bytes next h = steps_if was (nat_lt (length bytes) n) (wants n) next tt h

test_steps : (was : List SectionInterface) (good : Bool) (kind : CaptureKind) (next : Told) → Steps was next → Steps was (files.test good kind next)
test_steps was good kind next h = steps_if was good next (refused kind) h tt

stays : (was : List SectionInterface) → ended_by was was + dropped_by was ≡ dropped_by was
stays [] = refl
stays (i ∷ was) = omega arith

same_none : (was : List SectionInterface) → Changes was was None
same_none was = let s = stays was in record { few = omega arith; sum = omega (arith, s) }

same_captured : (was : List SectionInterface) (frame : Frame) → Changes was was (Some (captured frame))
same_captured was frame = let s = stays was in record { few = omega arith; sum = omega (arith, s) }

-- an interface that told nothing yet
one_more : (was : List SectionInterface) (i : SectionInterface) → i.dropped ≡ 0 → Changes was (was ++ i ∷ []) None
one_more was i none = record { few = omega arith; sum = (let g = grown was in omega (arith, g)) } where
  pushed : (was : List SectionInterface) → dropped_by (was ++ i ∷ []) ≡ dropped_by was
  pushed [] = omega (arith, none)
  pushed (w ∷ was) = let p = pushed was in omega (arith, p)

  grown : (was : List SectionInterface) → ended_by was (was ++ i ∷ []) + dropped_by (was ++ i ∷ []) ≡ dropped_by was
  grown [] = omega (arith, none)
  grown (w ∷ was) = let p = pushed was in omega (arith, p)

-- a new section
none_left : (was : List SectionInterface) → Changes was [] None
none_left was = record { few = omega arith; sum = omega arith }

-- ---- what an interface tells

told_before : (was : List SectionInterface) (place : ℕ) (i : SectionInterface) → slice_get was place ≡ Some i → i.dropped ≤ dropped_by was
told_before [] place i e = absurd cc
told_before (w ∷ was) zero i e = let here : w.dropped ≡ i.dropped = (let same : w ≡ i = cc in ap (λ (x : SectionInterface). x.dropped) same) in omega (arith, here)
told_before (w ∷ was) (suc place) i e = let rest = told_before was place i e in omega (arith, rest)

told_now : (was : List SectionInterface) (place : ℕ) (i new : SectionInterface) → slice_get was place ≡ Some i
    → dropped_by was + new.dropped ≡ i.dropped + dropped_by (slice_set was place new)
told_now [] place i new e = absurd cc
told_now (w ∷ was) zero i new e = let here : w.dropped ≡ i.dropped = (let same : w ≡ i = cc in ap (λ (x : SectionInterface). x.dropped) same) in omega (arith, here)
told_now (w ∷ was) (suc place) i new e = let rest = told_now was place i new e in omega (arith, rest)

none_ended : (was : List SectionInterface) (place : ℕ) (i new : SectionInterface) → slice_get was place ≡ Some i → ended_by was (slice_set was place new) ≡ 0
none_ended [] place i new e = absurd cc
none_ended (w ∷ was) zero i new e = refl
none_ended (w ∷ was) (suc place) i new e = refl

abbrev with_now : SectionInterface → ℕ → SectionInterface
with_now i n = record i { dropped = n }

tells : (was : List SectionInterface) (place : ℕ) (i : SectionInterface) (n : ℕ) → slice_get was place ≡ Some i
    → Changes was (slice_set was place (with_now i n)) (Some (dropped i.dropped n))
tells was place i n e = record {
  few = told_before was place i e;
  sum = (let s = told_now was place i (with_now i n) e in let z = none_ended was place i (with_now i n) e in omega (arith, s, z));
}

-- ---- a block

interface_steps : (order : Order) (was : List SectionInterface) (time total : ℕ) (bytes : List ℕ) → Steps was (files.interface_block order was time total bytes)
interface_steps order was time total bytes =
    let i : SectionInterface = files.interface_in order total bytes in
    let last : Told = given total (section order (was ++ i ∷ []) time) None in
    test_steps was (nat_le 20 total) Length (files.test (nat_lt (length was) 256) Interface last)
    (test_steps was (nat_lt (length was) 256) Interface last (one_more was i refl))

on_steps : (order : Order) (was : List SectionInterface) (total n : ℕ) (o : Option SectionInterface) (bytes : List ℕ) → Steps was (files.on_interface order was total n o bytes)
on_steps order was total n None bytes = tt
on_steps order was total n (Some i) bytes = same_captured was _

counted_steps : (order : Order) (was : List SectionInterface) (total i n : ℕ) (bytes : List ℕ) → Steps was (files.counted_packet order was total i n bytes)
counted_steps order was total i n bytes =
    let last : Told = files.on_interface order was total n (slice_get was i) bytes in
    test_steps was (nat_le n 262144) Length (files.test (nat_le (32 + n) total) Length last)
    (test_steps was (nat_le (32 + n) total) Length last (on_steps order was total n (slice_get was i) bytes))

packet_steps : (order : Order) (was : List SectionInterface) (total i : ℕ) (bytes : List ℕ) → Steps was (files.packet_block order was total i bytes)
packet_steps order was total i bytes =
    test_steps was (nat_le 32 total) Length (files.counted_packet order was total i (number order 20 4 bytes) bytes) (counted_steps order was total i (number order 20 4 bytes) bytes)

simple_on_steps : (order : Order) (was : List SectionInterface) (time total : ℕ) (o : Option SectionInterface) (bytes : List ℕ) → Steps was (files.simple_on order was time total o bytes)
simple_on_steps order was time total None bytes = tt
simple_on_steps order was time total (Some i) bytes =
    let n : ℕ = files.simple_count i.most (number order 8 4 bytes) (total - 16) in
    test_steps was (nat_le n 262144) Length (given total (section order was time) (Some (files.packet_at time i.link 12 n bytes))) (same_captured was _)

simple_steps : (order : Order) (was : List SectionInterface) (time total : ℕ) (bytes : List ℕ) → Steps was (files.simple_block order was time total bytes)
simple_steps order was time total bytes =
    test_steps was (nat_le 16 total) Length (files.simple_on order was time total (slice_get was 0) bytes) (simple_on_steps order was time total (slice_get was 0) bytes)

told_steps : (order : Order) (was : List SectionInterface) (time total i : ℕ) (o : Option SectionInterface) (found : Option ℕ) → slice_get was i ≡ o
    → Steps was (files.statistics_on order was time total i o found)
told_steps order was time total i (Some face) (Some n) e = tells was i face n e
told_steps order was time total i (Some face) None e = same_none was
told_steps order was time total i None found e = same_none was

statistics_steps : (order : Order) (was : List SectionInterface) (time total : ℕ) (bytes : List ℕ) → Steps was (files.statistics_block order was time total bytes)
statistics_steps order was time total bytes =
    let i : ℕ = number order 8 4 bytes in
    let found : Option ℕ = files.told_dropped order (files.statistics_in total bytes) in
    steps_if was (nat_lt total 24) (given total (section order was time) None) (files.statistics_on order was time total i (slice_get was i) found)
    (same_none was) (told_steps order was time total i (slice_get was i) found refl)

body_steps : (order : Order) (was : List SectionInterface) (time total type : ℕ) (bytes : List ℕ) → Steps was (files.body_told order was time total type bytes)
body_steps order was time total type bytes =
    let skipped : Told = given total (section order was time) None in
    let five : Told = if type == 5 then files.statistics_block order was time total bytes else skipped in
    let three : Told = if type == 3 then files.simple_block order was time total bytes else five in
    let two : Told = if type == 2 then files.packet_block order was total (number order 8 2 bytes) bytes else three in
    let six : Told = if type == 6 then files.packet_block order was total (number order 8 4 bytes) bytes else two in
    steps_if was (type == 1) (files.interface_block order was time total bytes) six (interface_steps order was time total bytes)
    (steps_if was (type == 6) (files.packet_block order was total (number order 8 4 bytes) bytes) two (packet_steps order was total (number order 8 4 bytes) bytes)
    (steps_if was (type == 2) (files.packet_block order was total (number order 8 2 bytes) bytes) three (packet_steps order was total (number order 8 2 bytes) bytes)
    (steps_if was (type == 3) (files.simple_block order was time total bytes) five (simple_steps order was time total bytes)
    (steps_if was (type == 5) (files.statistics_block order was time total bytes) skipped (statistics_steps order was time total bytes) (same_none was)))))

whole_steps : (was : List SectionInterface) (order : Order) (least total : ℕ) (bytes : List ℕ) (next : Told) → Steps was next → Steps was (files.whole order least total bytes next)
whole_steps was order least total bytes next h =
    let same : Told = files.test (number order (total - 4) 4 bytes == total) Length next in
    test_steps was (files.is_total least total) Length (files.need total bytes same)
    (need_steps was total bytes same (test_steps was (number order (total - 4) 4 bytes == total) Length next h))

section_steps : (was : List SectionInterface) (o : Option Order) (time : ℕ) (bytes : List ℕ) → Steps was (files.told_section o time bytes)
section_steps was None time bytes = tt
section_steps was (Some order) time bytes =
    let total : ℕ = number order 4 4 bytes in
    whole_steps was order 28 total bytes (files.versioned order total time bytes)
    (test_steps was (number order 12 2 bytes == 1) Version (given total (section order [] time) None) (none_left was))

begun_steps : (was : List SectionInterface) (time : ℕ) (bytes : List ℕ) → Steps was (files.begun_section time bytes)
begun_steps was time bytes =
    let o : Option Order = files.byte_order (number Big 8 4 bytes) in
    need_steps was 12 bytes (files.told_section o time bytes) (section_steps was o time bytes)

block_steps : (order : Order) (was : List SectionInterface) (time : ℕ) (bytes : List ℕ) → Steps was (files.told_block order was time bytes)
block_steps order was time bytes =
    let total : ℕ = number order 4 4 bytes in
    let sized : Told = files.sized_block order was time total bytes in
    let begun : Told = files.begun_section time bytes in
    let first : Bool = number Big 0 4 bytes == files.section_type in
    need_steps was 8 bytes (if first then begun else sized)
    (steps_if was first begun sized (begun_steps was time bytes)
    (whole_steps was order 12 total bytes (files.body_told order was time total (number order 0 4 bytes) bytes) (body_steps order was time total (number order 0 4 bytes) bytes)))

-- ---- any record

opens_steps : (o : Option (Order × ℕ)) (bytes : List ℕ) → Steps [] (files.opens_as o bytes)
opens_steps (Some x) bytes =
    let last : Told = given 24 (classic x.0 x.1 (number x.0 20 4 bytes % 2 ^ 16)) None in
    let tested : Told = files.test (number x.0 4 2 bytes == 2) Version last in
    need_steps [] 24 bytes tested (test_steps [] (number x.0 4 2 bytes == 2) Version last (same_none []))
opens_steps None bytes =
    test_steps [] (number Big 0 4 bytes == files.section_type) Magic (files.begun_section 0 bytes) (begun_steps [] 0 bytes)

classic_steps : (order : Order) (parts link n : ℕ) (bytes : List ℕ) → Steps [] (files.classic_record order parts link n bytes)
classic_steps order parts link n bytes =
    let last : Told = given (16 + n) (classic order parts link) (Some (files.packet_at (files.classic_time order parts bytes) link 16 n bytes)) in
    test_steps [] (nat_le n 262144) Length (files.need (16 + n) bytes last) (need_steps [] (16 + n) bytes last (same_captured [] _))

any_steps : (format : Format) (bytes : List ℕ) → Steps (interfaces_in format) (told format bytes)
any_steps fresh bytes =
    let o : Option (Order × ℕ) = files.classic_magic (number Big 0 4 bytes) in
    need_steps [] 4 bytes (files.opens_as o bytes) (opens_steps o bytes)
any_steps (classic order parts link) bytes =
    let n : ℕ = number order 8 4 bytes in
    need_steps [] 16 bytes (files.classic_record order parts link n bytes) (classic_steps order parts link n bytes)
any_steps (section order interfaces time) bytes = block_steps order interfaces time bytes

-- ---- the table

-- one more stream, where there is room
abbrev pub grown_if : Bool → TableState → Stream → TableState
grown_if b t s = if b then record { streams = t.streams ++ s ∷ []; counts = t.counts } else record { streams = t.streams; counts = with_unlisted t.counts }

grown_keeps : (b : Bool) (t : TableState) (s : Stream) → (grown_if b t s).counts.dropped ≡ t.counts.dropped
grown_keeps true t s = refl
grown_keeps false t s = refl

new_keeps : (kind : Kind) (sender receiver : Peer) (moment : ℕ) (found : Sign) (t : TableState) → (with_new_by kind sender receiver moment found t).counts.dropped ≡ t.counts.dropped
new_keeps (Leader extended block info) sender receiver moment found t = grown_keeps (nat_lt (length t.streams) 256) t (begun sender receiver moment block found)
new_keeps (Payload n) sender receiver moment found t = refl
new_keeps Other sender receiver moment found t = refl

datagram_keeps : (place : Option ℕ) (sender receiver : Peer) (moment : ℕ) (found : Sign) (t : TableState) → (with_datagram place sender receiver moment found t).counts.dropped ≡ t.counts.dropped
datagram_keeps (Some place) sender receiver moment found t = refl
datagram_keeps None sender receiver moment found t = new_keeps found.kind sender receiver moment found t

-- a packet that was captured
abbrev IsPacket : Seen → Type 0
IsPacket other = ⊤
IsPacket fragment = ⊤
IsPacket cut = ⊤
IsPacket (datagram c) = ⊤
IsPacket (lost before now) = ⊥

packet_if : (b : Bool) (x y : Seen) → IsPacket x → IsPacket y → IsPacket (if b then x else y)
packet_if true x y p q = p
packet_if false x y p q = q

udp_is : (ip udp : List ℕ) (room n : ℕ) → IsPacket (contents.udp_sized ip udp room n)
udp_is ip udp room n =
    let last : Seen = contents.datagram_in ip udp n in
    packet_if (nat_lt n 8) other (if nat_lt room n then other else if nat_lt (length udp) n then cut else last) tt
    (packet_if (nat_lt room n) other (if nat_lt (length udp) n then cut else last) tt (packet_if (nat_lt (length udp) n) cut last tt tt))

ip_is : (ip : List ℕ) → IsPacket (contents.ip_seen ip)
ip_is ip =
    let h : ℕ = contents.header_size ip in
    let total : ℕ = contents.total_length ip in
    let e : Seen = contents.udp_seen ip (drop h ip) (total - h) in
    let d : Seen = if nat_lt (length ip) (h + 8) then cut else e in
    let c : Seen = if nat_lt total (h + 8) then other else d in
    let b : Seen = if contents.is_fragment ip then fragment else c in
    let a : Seen = if not (contents.is_udp ip) then other else b in
    packet_if (nat_lt (length ip) 20) other a tt
    (packet_if (not (contents.is_udp ip)) other b tt
    (packet_if (contents.is_fragment ip) fragment c tt
    (packet_if (nat_lt total (h + 8)) other d tt
    (packet_if (nat_lt (length ip) (h + 8)) cut e tt (udp_is ip (drop h ip) (total - h) (number_at 4 2 (drop h ip)))))))

network_is : (o : Option (List ℕ)) → IsPacket (contents.network_seen o)
network_is None = tt
network_is (Some ip) = ip_is ip

seen_keeps : (begin moment : ℕ) (what : Seen) (t : TableState) → IsPacket what → (counted (record { begin = begin; moment = moment; what = what }) t).counts.dropped ≡ t.counts.dropped
seen_keeps begin moment other t is = refl
seen_keeps begin moment fragment t is = refl
seen_keeps begin moment cut t is = refl
seen_keeps begin moment (lost before now) t is = absurd is
seen_keeps begin moment (datagram c) t is =
    datagram_keeps (position (is_between c.sender c.receiver) t.streams) c.sender c.receiver moment (sign c.bytes) (record { streams = t.streams; counts = counts_after begin (datagram c) t.counts })

-- the count behind a packet, and what was told up to it
counts_packet : (m : Moments) (packet : Packet) (t : TableState) (rest : ℕ) → before_of (Some packet) ≤ t.counts.dropped → t.counts.dropped + (now_of (Some packet) + rest) ≤ 2 ^ 128 - 1
    → (counted (sighting_of m packet) t).counts.dropped + before_of (Some packet) ≡ t.counts.dropped + now_of (Some packet)
counts_packet m (captured frame) t rest few most =
    let x : Sighting = sighting_of m (captured frame) in
    let k = seen_keeps x.begin x.moment (seen frame.link frame.bytes) t (network_is (contents.network frame.link frame.bytes)) in omega (arith, k)
counts_packet m (dropped before now) t rest few most = omega (arith, few, most)

-- ---- all records

told_one : (packet : Packet) (packets : List Packet) → told_in (packet ∷ packets) ≡ now_of (Some packet) + told_in packets
told_one (captured frame) packets = omega arith
told_one (dropped before now) packets = refl

step : (packet : Option Packet) (was new : List SectionInterface) (ps : List Packet) (last : ℕ) (m : Moments) (t : TableState) → Changes was new packet
    → ((later : Moments) (u : TableState) → u.counts.dropped + told_in ps ≤ 2 ^ 128 - 1 → dropped_by new ≤ u.counts.dropped
    → (table_from u (sighted later ps)).counts.dropped + dropped_by new ≡ u.counts.dropped + last)
    → t.counts.dropped + told_in (with_packet packet ps) ≤ 2 ^ 128 - 1 → dropped_by was ≤ t.counts.dropped
    → (table_from t (sighted m (with_packet packet ps))).counts.dropped + dropped_by was ≡ t.counts.dropped + (ended_by was new + last)
step None was new ps last m t changes later most few =
    let s = changes.sum in
    let l = later m t most (omega (arith, s, few)) in
    omega (arith, s, l)
step (Some p) was new ps last m t changes later most few =
    let b = changes.few in
    let s = changes.sum in
    let one = told_one p ps in
    let u : TableState = counted (sighting_of m p) t in
    let c = counts_packet m p t (told_in ps) (omega (arith, b, few)) (omega (arith, most, one)) in
    let l = later (moments_with m p) u (omega (arith, c, most, one)) (omega (arith, c, s, b, few)) in
    omega (arith, c, s, l)

walk : (format : Format) (n : ℕ) (bytes : List ℕ) (rs : List Read) (end : Option Refusal) (m : Moments) (t : TableState) → AreRecords format n bytes rs end
    → t.counts.dropped + told_in (packets_in rs) ≤ 2 ^ 128 - 1 → dropped_by (interfaces_in format) ≤ t.counts.dropped
    → (table_from t (sighted m (packets_in rs))).counts.dropped + dropped_by (interfaces_in format) ≡ t.counts.dropped + told_last (interfaces_in format) rs
walk format n bytes [] end m t are most few = refl
walk format n bytes (r ∷ rs) end m t (is, are) most few =
    step r.packet (interfaces_in format) (interfaces_in r.format) (packets_in rs) (told_last (interfaces_in r.format) rs) m t
    (subst (λ (x : Told). Steps (interfaces_in format) x) is (any_steps format bytes))
    (λ later u most few. walk r.format (n + 1) (drop r.size bytes) rs end later u are most few) most few

pub dropped_are_told_last : DroppedAreToldLast
dropped_are_told_last bytes packets end c most =
    let all : told_in (packets_in c.records) ≤ 2 ^ 128 - 1 = subst (λ (ps : List Packet). told_in ps ≤ 2 ^ 128 - 1) c.packets_are most in
    let w = walk fresh 0 bytes c.records end no_moments empty_table c.are (omega (arith, all)) (omega arith) in
    let is : (table_of (sightings (packets_in c.records))).counts.dropped ≡ told_last [] c.records = omega (arith, w) in
    ap (λ (ps : List Packet). (table_of (sightings ps)).counts.dropped) c.packets_are ∙ is
