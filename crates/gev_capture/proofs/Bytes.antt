-- The bytes of a capture's packets are some of its own: one lemma for each definition.
use Rattle.std.proofs.Common.{ℕ, zero, suc, ◌+◌, ◌-◌, List, [], ◌∷◌, length, take, drop, Bool, true, false, Option, Some, None, sym, subst}
use Rattle.std.specs.Prelude.{⊤, ◌==◌, nat_le, nat_lt, slice_get, if◌then◌else◌}
use Rattle.std.specs.List.{AllByRecursion}
use Rattle.gev_capture.specs.declared.order.Order.{Order}
use Rattle.gev_capture.specs.declared.order.Order.TheVariants.{Big}
use Rattle.gev_capture.specs.declared.kind.CaptureKind.{CaptureKind}
use Rattle.gev_capture.specs.declared.kind.CaptureKind.TheVariants.{Magic, Version, Length, Interface}
use Rattle.gev_capture.specs.declared.form.SectionInterface.{SectionInterface}
use Rattle.gev_capture.specs.Numbers.{number}
use Rattle.gev_capture.specs.Files.{Packet, Format, fresh, classic, section, Told, wants, refused, given, need, test, packet_at, classic_magic, classic_header, classic_time, classic_record, told_classic, byte_order, is_total, whole, interface_block, block_time, on_interface, counted_packet, packet_block, simple_count, simple_on, simple_block, told_dropped, statistics_in, statistics_on, statistics_block, body_told, sized_block, versioned, told_section, section_type, begun_section, told_block, opens_as, told}
use Rattle.gev_capture.specs.Captures.{Read, Refusal, AreRecords, with_packet, packets_in}
use Rattle.gev_capture.specs.Laws.{AreBytes, HasBytes, PacketsHaveBytes}

drop_bytes : (n : ℕ) (bytes : List ℕ) → AreBytes bytes → AreBytes (drop n bytes)
drop_bytes zero bytes all = all
drop_bytes (suc n) [] all = tt
drop_bytes (suc n) (b ∷ bytes) all = drop_bytes n bytes all.1

take_bytes : (n : ℕ) (bytes : List ℕ) → AreBytes bytes → AreBytes (take n bytes)
take_bytes zero bytes all = tt
take_bytes (suc n) [] all = tt
take_bytes (suc n) (b ∷ bytes) all = (all.0, take_bytes n bytes all.1)

packet_bytes : (time link at n : ℕ) (bytes : List ℕ) → AreBytes bytes → HasBytes (packet_at time link at n bytes)
packet_bytes time link at n bytes all = take_bytes n (drop at bytes) (drop_bytes at bytes all)

-- the packet that is told of, if there is one
abbrev HasIn : Option Packet → Type 0
HasIn None = ⊤
HasIn (Some packet) = HasBytes packet

abbrev TellsBytes : Told → Type 0
TellsBytes (wants n) = ⊤
TellsBytes (refused kind) = ⊤
TellsBytes (given size format packet) = HasIn packet

-- what is needed, tested and chosen

if_tells : (b : Bool) (x y : Told) → TellsBytes x → TellsBytes y → TellsBytes (if b then x else y)
if_tells true x y s t = s
if_tells false x y s t = t

need_tells : (n : ℕ) (bytes : List ℕ) (next : Told) → TellsBytes next → TellsBytes (need n bytes next)
need_tells n bytes next t = if_tells (nat_lt (length bytes) n) (wants n) next tt t

test_tells : (good : Bool) (kind : CaptureKind) (next : Told) → TellsBytes next → TellsBytes (test good kind next)
test_tells good kind next t = if_tells good next (refused kind) t tt

-- pcap

header_tells : (order : Order) (parts : ℕ) (bytes : List ℕ) → TellsBytes (classic_header order parts bytes)
header_tells order parts bytes = need_tells 24 bytes _ (test_tells (number order 4 2 bytes == 2) Version _ tt)

record_tells : (order : Order) (parts link n : ℕ) (bytes : List ℕ) → AreBytes bytes → TellsBytes (classic_record order parts link n bytes)
record_tells order parts link n bytes all =
    test_tells (nat_le n 262144) Length _ (need_tells (16 + n) bytes _ (packet_bytes (classic_time order parts bytes) link 16 n bytes all))

classic_tells : (order : Order) (parts link : ℕ) (bytes : List ℕ) → AreBytes bytes → TellsBytes (told_classic order parts link bytes)
classic_tells order parts link bytes all = need_tells 16 bytes _ (record_tells order parts link (number order 8 4 bytes) bytes all)

-- pcapng

whole_tells : (order : Order) (least total : ℕ) (bytes : List ℕ) (next : Told) → TellsBytes next → TellsBytes (whole order least total bytes next)
whole_tells order least total bytes next t =
    test_tells (is_total least total) Length _ (need_tells total bytes _ (test_tells (number order (total - 4) 4 bytes == total) Length next t))

interface_tells : (order : Order) (interfaces : List SectionInterface) (time total : ℕ) (bytes : List ℕ) → TellsBytes (interface_block order interfaces time total bytes)
interface_tells order interfaces time total bytes = test_tells (nat_le 20 total) Length _ (test_tells (nat_lt (length interfaces) 256) Interface _ tt)

on_interface_tells : (order : Order) (interfaces : List SectionInterface) (total n : ℕ) (interface : Option SectionInterface) (bytes : List ℕ) → AreBytes bytes → TellsBytes (on_interface order interfaces total n interface bytes)
on_interface_tells order interfaces total n None bytes all = tt
on_interface_tells order interfaces total n (Some interface) bytes all = packet_bytes (block_time order interface.parts bytes) interface.link 28 n bytes all

counted_tells : (order : Order) (interfaces : List SectionInterface) (total i n : ℕ) (bytes : List ℕ) → AreBytes bytes → TellsBytes (counted_packet order interfaces total i n bytes)
counted_tells order interfaces total i n bytes all =
    test_tells (nat_le n 262144) Length _ (test_tells (nat_le (32 + n) total) Length _ (on_interface_tells order interfaces total n (slice_get interfaces i) bytes all))

packet_tells : (order : Order) (interfaces : List SectionInterface) (total i : ℕ) (bytes : List ℕ) → AreBytes bytes → TellsBytes (packet_block order interfaces total i bytes)
packet_tells order interfaces total i bytes all =
    test_tells (nat_le 32 total) Length _ (counted_tells order interfaces total i (number order 20 4 bytes) bytes all)

simple_on_tells : (order : Order) (interfaces : List SectionInterface) (time total : ℕ) (interface : Option SectionInterface) (bytes : List ℕ) → AreBytes bytes → TellsBytes (simple_on order interfaces time total interface bytes)
simple_on_tells order interfaces time total None bytes all = tt
simple_on_tells order interfaces time total (Some interface) bytes all =
    let n = simple_count interface.most (number order 8 4 bytes) (total - 16) in
    test_tells (nat_le n 262144) Length _ (packet_bytes time interface.link 12 n bytes all)

simple_tells : (order : Order) (interfaces : List SectionInterface) (time total : ℕ) (bytes : List ℕ) → AreBytes bytes → TellsBytes (simple_block order interfaces time total bytes)
simple_tells order interfaces time total bytes all =
    test_tells (nat_le 16 total) Length _ (simple_on_tells order interfaces time total (slice_get interfaces 0) bytes all)

statistics_on_tells : (order : Order) (interfaces : List SectionInterface) (time total i : ℕ) (interface : Option SectionInterface) (found : Option ℕ) → TellsBytes (statistics_on order interfaces time total i interface found)
statistics_on_tells order interfaces time total i (Some interface) (Some n) = tt
statistics_on_tells order interfaces time total i (Some interface) None = tt
statistics_on_tells order interfaces time total i None found = tt

statistics_tells : (order : Order) (interfaces : List SectionInterface) (time total : ℕ) (bytes : List ℕ) → TellsBytes (statistics_block order interfaces time total bytes)
statistics_tells order interfaces time total bytes =
    if_tells (nat_lt total 24) _ _ tt
    (statistics_on_tells order interfaces time total (number order 8 4 bytes) (slice_get interfaces (number order 8 4 bytes)) (told_dropped order (statistics_in total bytes)))

body_tells : (order : Order) (interfaces : List SectionInterface) (time total type : ℕ) (bytes : List ℕ) → AreBytes bytes → TellsBytes (body_told order interfaces time total type bytes)
body_tells order interfaces time total type bytes all =
    if_tells (type == 1) _ _ (interface_tells order interfaces time total bytes)
    (if_tells (type == 6) _ _ (packet_tells order interfaces total (number order 8 4 bytes) bytes all)
    (if_tells (type == 2) _ _ (packet_tells order interfaces total (number order 8 2 bytes) bytes all)
    (if_tells (type == 3) _ _ (simple_tells order interfaces time total bytes all)
    (if_tells (type == 5) _ _ (statistics_tells order interfaces time total bytes) tt))))

sized_tells : (order : Order) (interfaces : List SectionInterface) (time total : ℕ) (bytes : List ℕ) → AreBytes bytes → TellsBytes (sized_block order interfaces time total bytes)
sized_tells order interfaces time total bytes all =
    whole_tells order 12 total bytes (body_told order interfaces time total (number order 0 4 bytes) bytes) (body_tells order interfaces time total (number order 0 4 bytes) bytes all)

section_tells : (order : Option Order) (time : ℕ) (bytes : List ℕ) → TellsBytes (told_section order time bytes)
section_tells None time bytes = tt
section_tells (Some order) time bytes =
    let total = number order 4 4 bytes in
    whole_tells order 28 total bytes (versioned order total time bytes) (test_tells (number order 12 2 bytes == 1) Version _ tt)

begun_tells : (time : ℕ) (bytes : List ℕ) → TellsBytes (begun_section time bytes)
begun_tells time bytes = need_tells 12 bytes _ (section_tells (byte_order (number Big 8 4 bytes)) time bytes)

block_tells : (order : Order) (interfaces : List SectionInterface) (time : ℕ) (bytes : List ℕ) → AreBytes bytes → TellsBytes (told_block order interfaces time bytes)
block_tells order interfaces time bytes all =
    need_tells 8 bytes _
    (if_tells (number Big 0 4 bytes == section_type) _ _ (begun_tells time bytes) (sized_tells order interfaces time (number order 4 4 bytes) bytes all))

-- records

opens_tells : (found : Option (Order × ℕ)) (bytes : List ℕ) → TellsBytes (opens_as found bytes)
opens_tells (Some x) bytes = header_tells x.0 x.1 bytes
opens_tells None bytes = test_tells (number Big 0 4 bytes == section_type) Magic _ (begun_tells 0 bytes)

told_tells : (format : Format) (bytes : List ℕ) → AreBytes bytes → TellsBytes (told format bytes)
told_tells fresh bytes all = need_tells 4 bytes _ (opens_tells (classic_magic (number Big 0 4 bytes)) bytes)
told_tells (classic order parts link) bytes all = classic_tells order parts link bytes all
told_tells (section order interfaces time) bytes all = block_tells order interfaces time bytes all

with_has : (packet : Option Packet) (packets : List Packet) → HasIn packet → AllByRecursion HasBytes packets → AllByRecursion HasBytes (with_packet packet packets)
with_has None packets h all = all
with_has (Some packet) packets h all = (h, all)

records_have : (format : Format) (n : ℕ) (bytes : List ℕ) (rs : List Read) (end : Option Refusal) → AreBytes bytes → AreRecords format n bytes rs end → AllByRecursion HasBytes (packets_in rs)
records_have format n bytes [] end all are = tt
records_have format n bytes (r ∷ rs) end all are =
    with_has r.packet (packets_in rs) (subst TellsBytes are.0 (told_tells format bytes all))
    (records_have r.format (n + 1) (drop r.size bytes) rs end (drop_bytes r.size bytes all) are.1)

pub packets_have_bytes : PacketsHaveBytes
packets_have_bytes bytes packets end all c =
    subst (λ (ps : List Packet). AllByRecursion HasBytes ps) (sym c.packets_are) (records_have fresh 0 bytes c.records end all c.are)
