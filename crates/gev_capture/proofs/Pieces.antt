-- What the bytes so far tell is what all bytes tell: one lemma for each definition.
use Rattle.std.proofs.Common.{◌≡◌, ℕ, ◌+◌, ◌-◌, ◌*◌, ◌/◌, ◌%◌, ◌^◌, ◌≤◌, List, [], ◌∷◌, ◌++◌, length, take, drop, Bool, true, false, Option, Some, None, refl, ap, sym, ◌∙◌, arith, subst}
use Rattle.std.specs.Prelude.{◌==◌, ◌&&◌, nat_le, nat_lt, slice_get, if◌then◌else◌}
use Rattle.std.proofs.lemmas.Bool.{and_parts, leb-true, ltb-true, ltb-false}
use Rattle.std.proofs.lemmas.List.{length-append, length-drop, take-append-le, drop-append-le}
use Rattle.byteorder.specs.Numbers.{big_from-append, little_from-append}
use Rattle.gev_capture.specs.declared.order.Order.{Order}
use Rattle.gev_capture.specs.declared.order.Order.TheVariants.{Big, Little}
use Rattle.gev_capture.specs.declared.kind.CaptureKind.{CaptureKind}
use Rattle.gev_capture.specs.declared.kind.CaptureKind.TheVariants.{Magic, Version, Length, Interface}
use Rattle.gev_capture.specs.declared.form.SectionInterface.{SectionInterface}
use Rattle.gev_capture.specs.Numbers.{number}
use Rattle.gev_capture.specs.Files.{Packet, captured, Format, fresh, classic, section, Told, wants, given, need, test, packet_at, classic_magic, classic_header, classic_time, classic_record, told_classic, resolution, parts_of, options_in, interface_in, byte_order, is_total, whole, interface_block, block_time, on_interface, counted_packet, packet_block, simple_count, simple_sized, simple_on, simple_block, told_dropped, statistics_in, statistics_on, statistics_block, body_told, sized_block, versioned, sized_section, told_section, section_type, begun_section, told_block, opens_as}
use Rattle.gev_capture.specs.Laws.{Stays, PiecesTell}

-- numbers and slices that are there

same_number : (order : Order) (place width : ℕ) (bytes more : List ℕ) → place + width ≤ length bytes
    → number order place width (bytes ++ more) ≡ number order place width bytes
unfolding number
same_number Big place width bytes more there =
    ap (Rattle.byteorder.specs.Endian.big_from 0 width) (drop-append-le place bytes more (omega arith))
    ∙ big_from-append width (drop place bytes) more (omega (arith, length-drop place bytes))
same_number Little place width bytes more there =
    ap (Rattle.byteorder.specs.Endian.little_from 0 width) (drop-append-le place bytes more (omega arith))
    ∙ little_from-append width (drop place bytes) more (omega (arith, length-drop place bytes))

same_slice : (at n : ℕ) (bytes more : List ℕ) → at + n ≤ length bytes → take n (drop at (bytes ++ more)) ≡ take n (drop at bytes)
same_slice at n bytes more there =
    ap (take n) (drop-append-le at bytes more (omega arith)) ∙ take-append-le n (drop at bytes) more (omega (arith, length-drop at bytes))

-- what is needed, tested and chosen

need_stays : (n : ℕ) (bytes more : List ℕ) (x y : Told) → (n ≤ length bytes → Stays (length bytes) x y) → Stays (length bytes) (need n bytes x) (need n (bytes ++ more) y)
need_stays n bytes more x y rest = go (nat_lt (length bytes) n) (nat_lt (length (bytes ++ more)) n) refl refl where
  go : (b c : Bool) → nat_lt (length bytes) n ≡ b → nat_lt (length (bytes ++ more)) n ≡ c → Stays (length bytes) (if b then wants n else x) (if c then wants n else y)
  go true c few _ = ltb-true (length bytes) n few
  go false true few many = absurd (omega (arith, ltb-false (length bytes) n few, ltb-true (length (bytes ++ more)) n many, length-append bytes more))
  go false false few many = rest (ltb-false (length bytes) n few)

test_stays : (n : ℕ) (g h : Bool) (kind : CaptureKind) (x y : Told) → h ≡ g → (g ≡ true → Stays n x y) → Stays n (test g kind x) (test h kind y)
test_stays n true true kind x y e rest = rest refl
test_stays n false false kind x y e rest = refl
test_stays n true false kind x y e rest = cc
test_stays n false true kind x y e rest = cc

if_stays : (n : ℕ) (b c : Bool) (x y x' y' : Told) → c ≡ b → Stays n x x' → Stays n y y' → Stays n (if b then x else y) (if c then x' else y')
if_stays n true true x y x' y' e first second = first
if_stays n false false x y x' y' e first second = second
if_stays n true false x y x' y' e first second = cc
if_stays n false true x y x' y' e first second = cc

-- pcap

classic_header_stays : (order : Order) (parts : ℕ) (bytes more : List ℕ) → Stays (length bytes) (classic_header order parts bytes) (classic_header order parts (bytes ++ more))
classic_header_stays order parts bytes more =
    need_stays 24 bytes more _ _ (λ enough.
    test_stays (length bytes) (number order 4 2 bytes == 2) (number order 4 2 (bytes ++ more) == 2) Version _ _
    (ap (λ (v : ℕ). v == 2) (same_number order 4 2 bytes more (omega arith)))
    (λ _. (ap (λ (l : ℕ). given 24 (classic order parts (l % 2 ^ 16)) None) (same_number order 20 4 bytes more (omega arith)), omega arith, enough)))

same_classic_time : (order : Order) (parts : ℕ) (bytes more : List ℕ) → 16 ≤ length bytes → classic_time order parts (bytes ++ more) ≡ classic_time order parts bytes
same_classic_time order parts bytes more enough =
    ap (λ (s : ℕ). s * 1000000000 + number order 4 4 (bytes ++ more) * 1000000000 / parts) (same_number order 0 4 bytes more (omega arith))
    ∙ ap (λ (p : ℕ). number order 0 4 bytes * 1000000000 + p * 1000000000 / parts) (same_number order 4 4 bytes more (omega arith))

same_packet : (time time' link at n : ℕ) (bytes more : List ℕ) → time' ≡ time → at + n ≤ length bytes
    → packet_at time' link at n (bytes ++ more) ≡ packet_at time link at n bytes
same_packet time time' link at n bytes more e there =
    ap (λ (t : ℕ). packet_at t link at n (bytes ++ more)) e ∙ ap (λ (bs : List ℕ). packed time link bs) (same_slice at n bytes more there)
  where
    packed : ℕ → ℕ → List ℕ → Packet
    packed t l bs = captured (record { time = t; link = l; bytes = bs })

classic_record_stays : (order : Order) (parts link n : ℕ) (bytes more : List ℕ) → 16 ≤ length bytes
    → Stays (length bytes) (classic_record order parts link n bytes) (classic_record order parts link n (bytes ++ more))
classic_record_stays order parts link n bytes more header =
    test_stays (length bytes) (nat_le n 262144) (nat_le n 262144) Length _ _ refl (λ _.
    need_stays (16 + n) bytes more _ _ (λ enough. (
      ap (λ (p : Packet). given (16 + n) (classic order parts link) (Some p))
          (same_packet (classic_time order parts bytes) (classic_time order parts (bytes ++ more)) link 16 n bytes more (same_classic_time order parts bytes more header) enough),
      omega arith,
      enough,
    )))

told_classic_stays : (order : Order) (parts link : ℕ) (bytes more : List ℕ) → Stays (length bytes) (told_classic order parts link bytes) (told_classic order parts link (bytes ++ more))
told_classic_stays order parts link bytes more =
    need_stays 16 bytes more _ _ (λ enough.
    subst (λ (n : ℕ). Stays (length bytes) (classic_record order parts link (number order 8 4 bytes) bytes) (classic_record order parts link n (bytes ++ more)))
    (sym (same_number order 8 4 bytes more (omega arith)))
    (classic_record_stays order parts link (number order 8 4 bytes) bytes more enough))

-- pcapng

whole_stays : (order : Order) (least total : ℕ) (bytes more : List ℕ) (x y : Told) → 12 ≤ least → (least ≤ total → total ≤ length bytes → Stays (length bytes) x y)
    → Stays (length bytes) (whole order least total bytes x) (whole order least total (bytes ++ more) y)
whole_stays order least total bytes more x y some rest =
    test_stays (length bytes) (is_total least total) (is_total least total) Length _ _ refl (λ fits.
    let first = and_parts (total % 4 == 0 && nat_le least total) (nat_le total 1048576) fits in
    let low : least ≤ total = leb-true least total (and_parts (total % 4 == 0) (nat_le least total) first.0).1 in
    need_stays total bytes more _ _ (λ enough.
    test_stays (length bytes) (number order (total - 4) 4 bytes == total) (number order (total - 4) 4 (bytes ++ more) == total) Length _ _
    (ap (λ (t : ℕ). t == total) (same_number order (total - 4) 4 bytes more (omega arith)))
    (λ _. rest low enough)))

-- a block that tells the same behind which the format is the same
block_stays : (total : ℕ) (bytes : List ℕ) (x y : Told) (format : Format) (packet : Option Packet) → x ≡ given total format packet → y ≡ given total format packet
    → 1 ≤ total → total ≤ length bytes → Stays (length bytes) x y
block_stays total bytes x y format packet e f some within = rw e (f, some, within)

same_interface : (order : Order) (total : ℕ) (bytes more : List ℕ) → 20 ≤ total → total ≤ length bytes → interface_in order total (bytes ++ more) ≡ interface_in order total bytes
same_interface order total bytes more some within =
    ap (λ (l : ℕ). of_interface l (number order 12 4 (bytes ++ more)) (options_in total (bytes ++ more))) (same_number order 8 2 bytes more (omega arith))
    ∙ ap (λ (m : ℕ). of_interface (number order 8 2 bytes) m (options_in total (bytes ++ more))) (same_number order 12 4 bytes more (omega arith))
    ∙ ap (λ (os : List ℕ). of_interface (number order 8 2 bytes) (number order 12 4 bytes) os) (same_slice 16 (total - 4 - 16) bytes more (omega arith))
  where
    of_interface : ℕ → ℕ → List ℕ → SectionInterface
    of_interface l m os = record { link = l; most = m; parts = parts_of (resolution (length os) order 6 os); dropped = 0 }

interface_block_stays : (order : Order) (interfaces : List SectionInterface) (time total : ℕ) (bytes more : List ℕ) → 12 ≤ total → total ≤ length bytes
    → Stays (length bytes) (interface_block order interfaces time total bytes) (interface_block order interfaces time total (bytes ++ more))
interface_block_stays order interfaces time total bytes more some within =
    test_stays (length bytes) (nat_le 20 total) (nat_le 20 total) Length _ _ refl (λ has.
    test_stays (length bytes) (nat_lt (length interfaces) 256) (nat_lt (length interfaces) 256) Interface _ _ refl (λ _. (
      ap (λ (f : SectionInterface). given total (section order (interfaces ++ f ∷ []) time) None) (same_interface order total bytes more (leb-true 20 total has) within),
      omega arith,
      within,
    )))

same_block_time : (order : Order) (parts : ℕ) (bytes more : List ℕ) → 20 ≤ length bytes → block_time order parts (bytes ++ more) ≡ block_time order parts bytes
same_block_time order parts bytes more enough =
    ap (λ (h : ℕ). (h * 2 ^ 32 + number order 16 4 (bytes ++ more)) * 1000000000 / parts) (same_number order 12 4 bytes more (omega arith))
    ∙ ap (λ (l : ℕ). (number order 12 4 bytes * 2 ^ 32 + l) * 1000000000 / parts) (same_number order 16 4 bytes more (omega arith))

on_interface_stays : (order : Order) (interfaces : List SectionInterface) (total n : ℕ) (o : Option SectionInterface) (bytes more : List ℕ) → 32 + n ≤ total → total ≤ length bytes
    → Stays (length bytes) (on_interface order interfaces total n o bytes) (on_interface order interfaces total n o (bytes ++ more))
on_interface_stays order interfaces total n None bytes more fits within = refl
on_interface_stays order interfaces total n (Some interface) bytes more fits within =
    let time = same_block_time order interface.parts bytes more (omega arith) in (
      ap (λ (t : ℕ). given total (section order interfaces t) (Some (packet_at (block_time order interface.parts (bytes ++ more)) interface.link 28 n (bytes ++ more)))) time
          ∙ ap (λ (p : Packet). given total (section order interfaces (block_time order interface.parts bytes)) (Some p))
          (same_packet (block_time order interface.parts bytes) (block_time order interface.parts (bytes ++ more)) interface.link 28 n bytes more time (omega arith)),
      omega arith,
      within,
    )

counted_packet_stays : (order : Order) (interfaces : List SectionInterface) (total i n : ℕ) (bytes more : List ℕ) → total ≤ length bytes
    → Stays (length bytes) (counted_packet order interfaces total i n bytes) (counted_packet order interfaces total i n (bytes ++ more))
counted_packet_stays order interfaces total i n bytes more within =
    test_stays (length bytes) (nat_le n 262144) (nat_le n 262144) Length _ _ refl (λ _.
    test_stays (length bytes) (nat_le (32 + n) total) (nat_le (32 + n) total) Length _ _ refl (λ fits.
    on_interface_stays order interfaces total n (slice_get interfaces i) bytes more (leb-true (32 + n) total fits) within))

packet_block_stays : (order : Order) (interfaces : List SectionInterface) (total i : ℕ) (bytes more : List ℕ) → total ≤ length bytes
    → Stays (length bytes) (packet_block order interfaces total i bytes) (packet_block order interfaces total i (bytes ++ more))
packet_block_stays order interfaces total i bytes more within =
    test_stays (length bytes) (nat_le 32 total) (nat_le 32 total) Length _ _ refl (λ has.
    let header : 32 ≤ total = leb-true 32 total has in
    subst (λ (n : ℕ). Stays (length bytes) (counted_packet order interfaces total i (number order 20 4 bytes) bytes) (counted_packet order interfaces total i n (bytes ++ more)))
    (sym (same_number order 20 4 bytes more (omega arith)))
    (counted_packet_stays order interfaces total i (number order 20 4 bytes) bytes more within))

simple_sized_stays : (order : Order) (interfaces : List SectionInterface) (time total link n : ℕ) (bytes more : List ℕ) → 16 + n ≤ total → total ≤ length bytes
    → Stays (length bytes) (simple_sized order interfaces time total link n bytes) (simple_sized order interfaces time total link n (bytes ++ more))
simple_sized_stays order interfaces time total link n bytes more fits within =
    test_stays (length bytes) (nat_le n 262144) (nat_le n 262144) Length _ _ refl (λ _. (
      ap (λ (p : Packet). given total (section order interfaces time) (Some p)) (same_packet time time link 12 n bytes more refl (omega arith)),
      omega arith,
      within,
    ))

simple_fits : (most original room : ℕ) → simple_count most original room ≤ room
simple_fits most original room = go (most == 0) where
  go : (b : Bool) → (if b then Rattle.std.specs.Prelude.min original room else Rattle.std.specs.Prelude.min most (Rattle.std.specs.Prelude.min original room)) ≤ room
  go true = omega arith
  go false = omega arith

simple_on_stays : (order : Order) (interfaces : List SectionInterface) (time total : ℕ) (o : Option SectionInterface) (bytes more : List ℕ) → 16 ≤ total → total ≤ length bytes
    → Stays (length bytes) (simple_on order interfaces time total o bytes) (simple_on order interfaces time total o (bytes ++ more))
simple_on_stays order interfaces time total None bytes more some within = refl
simple_on_stays order interfaces time total (Some interface) bytes more some within =
    let n : ℕ = simple_count interface.most (number order 8 4 bytes) (total - 16) in
    subst (λ (m : ℕ). Stays (length bytes) (simple_sized order interfaces time total interface.link n bytes) (simple_sized order interfaces time total interface.link (simple_count interface.most m (total - 16)) (bytes ++ more)))
    (sym (same_number order 8 4 bytes more (omega arith)))
    (simple_sized_stays order interfaces time total interface.link n bytes more (omega (arith, simple_fits interface.most (number order 8 4 bytes) (total - 16))) within)

simple_block_stays : (order : Order) (interfaces : List SectionInterface) (time total : ℕ) (bytes more : List ℕ) → total ≤ length bytes
    → Stays (length bytes) (simple_block order interfaces time total bytes) (simple_block order interfaces time total (bytes ++ more))
simple_block_stays order interfaces time total bytes more within =
    test_stays (length bytes) (nat_le 16 total) (nat_le 16 total) Length _ _ refl (λ has.
    simple_on_stays order interfaces time total (slice_get interfaces 0) bytes more (leb-true 16 total has) within)

statistics_on_stays : (order : Order) (interfaces : List SectionInterface) (time total i n : ℕ) (interface : Option SectionInterface) (found : Option ℕ) → 12 ≤ total → total ≤ n
    → Stays n (statistics_on order interfaces time total i interface found) (statistics_on order interfaces time total i interface found)
statistics_on_stays order interfaces time total i n (Some interface) (Some m) some within = (refl, omega arith, within)
statistics_on_stays order interfaces time total i n (Some interface) None some within = (refl, omega arith, within)
statistics_on_stays order interfaces time total i n None found some within = (refl, omega arith, within)

statistics_block_stays : (order : Order) (interfaces : List SectionInterface) (time total : ℕ) (bytes more : List ℕ) → 12 ≤ total → total ≤ length bytes
    → Stays (length bytes) (statistics_block order interfaces time total bytes) (statistics_block order interfaces time total (bytes ++ more))
statistics_block_stays order interfaces time total bytes more some within = go (nat_lt total 24) refl where
  skipped : Told
  skipped = given total (section order interfaces time) None

  by : ℕ → List ℕ → Told
  by i options = statistics_on order interfaces time total i (slice_get interfaces i) (told_dropped order options)

  go : (b : Bool) → nat_lt total 24 ≡ b
      → Stays (length bytes) (if b then skipped else by (number order 8 4 bytes) (statistics_in total bytes)) (if b then skipped else by (number order 8 4 (bytes ++ more)) (statistics_in total (bytes ++ more)))
  go true few = (refl, omega arith, within)
  go false many =
      let has : 24 ≤ total = ltb-false total 24 many in
      let same = same_number order 8 4 bytes more (omega arith) in
      let options = same_slice 20 (total - 4 - 20) bytes more (omega arith) in
      subst (λ (i : ℕ). Stays (length bytes) (by (number order 8 4 bytes) (statistics_in total bytes)) (by i (statistics_in total (bytes ++ more)))) (sym same)
      (subst (λ (os : List ℕ). Stays (length bytes) (by (number order 8 4 bytes) (statistics_in total bytes)) (by (number order 8 4 bytes) os)) (sym options)
      (statistics_on_stays order interfaces time total (number order 8 4 bytes) (length bytes) (slice_get interfaces (number order 8 4 bytes)) (told_dropped order (statistics_in total bytes)) some within))

body_told_stays : (order : Order) (interfaces : List SectionInterface) (time total type : ℕ) (bytes more : List ℕ) → 12 ≤ total → total ≤ length bytes
    → Stays (length bytes) (body_told order interfaces time total type bytes) (body_told order interfaces time total type (bytes ++ more))
body_told_stays order interfaces time total type bytes more some within =
    let n : ℕ = length bytes in
    if_stays n (type == 1) (type == 1) _ _ _ _ refl (interface_block_stays order interfaces time total bytes more some within)
    (if_stays n (type == 6) (type == 6) _ _ _ _ refl
    (subst (λ (i : ℕ). Stays n (packet_block order interfaces total (number order 8 4 bytes) bytes) (packet_block order interfaces total i (bytes ++ more)))
    (sym (same_number order 8 4 bytes more (omega arith))) (packet_block_stays order interfaces total (number order 8 4 bytes) bytes more within))
    (if_stays n (type == 2) (type == 2) _ _ _ _ refl
    (subst (λ (i : ℕ). Stays n (packet_block order interfaces total (number order 8 2 bytes) bytes) (packet_block order interfaces total i (bytes ++ more)))
    (sym (same_number order 8 2 bytes more (omega arith))) (packet_block_stays order interfaces total (number order 8 2 bytes) bytes more within))
    (if_stays n (type == 3) (type == 3) _ _ _ _ refl (simple_block_stays order interfaces time total bytes more within)
    (if_stays n (type == 5) (type == 5) _ _ _ _ refl (statistics_block_stays order interfaces time total bytes more some within)
    (refl, omega arith, within)))))

sized_block_stays : (order : Order) (interfaces : List SectionInterface) (time total : ℕ) (bytes more : List ℕ) → 8 ≤ length bytes
    → Stays (length bytes) (sized_block order interfaces time total bytes) (sized_block order interfaces time total (bytes ++ more))
sized_block_stays order interfaces time total bytes more header =
    whole_stays order 12 total bytes more _ _ (omega arith) (λ some within.
    subst (λ (type : ℕ). Stays (length bytes) (body_told order interfaces time total (number order 0 4 bytes) bytes) (body_told order interfaces time total type (bytes ++ more)))
    (sym (same_number order 0 4 bytes more (omega arith)))
    (body_told_stays order interfaces time total (number order 0 4 bytes) bytes more some within))

versioned_stays : (order : Order) (total time : ℕ) (bytes more : List ℕ) → 28 ≤ total → total ≤ length bytes
    → Stays (length bytes) (versioned order total time bytes) (versioned order total time (bytes ++ more))
versioned_stays order total time bytes more some within =
    test_stays (length bytes) (number order 12 2 bytes == 1) (number order 12 2 (bytes ++ more) == 1) Version _ _
    (ap (λ (v : ℕ). v == 1) (same_number order 12 2 bytes more (omega arith)))
    (λ _. (refl, omega arith, within))

told_section_stays : (o : Option Order) (time : ℕ) (bytes more : List ℕ) → 12 ≤ length bytes
    → Stays (length bytes) (told_section o time bytes) (told_section o time (bytes ++ more))
told_section_stays None time bytes more header = refl
told_section_stays (Some order) time bytes more header =
    subst (λ (total : ℕ). Stays (length bytes) (sized_section order (number order 4 4 bytes) time bytes) (sized_section order total time (bytes ++ more)))
    (sym (same_number order 4 4 bytes more (omega arith)))
    (whole_stays order 28 (number order 4 4 bytes) bytes more _ _ (omega arith) (λ some within. versioned_stays order (number order 4 4 bytes) time bytes more some within))

begun_section_stays : (time : ℕ) (bytes more : List ℕ) → Stays (length bytes) (begun_section time bytes) (begun_section time (bytes ++ more))
begun_section_stays time bytes more =
    need_stays 12 bytes more _ _ (λ enough.
    subst (λ (magic : ℕ). Stays (length bytes) (told_section (byte_order (number Big 8 4 bytes)) time bytes) (told_section (byte_order magic) time (bytes ++ more)))
    (sym (same_number Big 8 4 bytes more (omega arith)))
    (told_section_stays (byte_order (number Big 8 4 bytes)) time bytes more enough))

told_block_stays : (order : Order) (interfaces : List SectionInterface) (time : ℕ) (bytes more : List ℕ) → Stays (length bytes) (told_block order interfaces time bytes) (told_block order interfaces time (bytes ++ more))
told_block_stays order interfaces time bytes more =
    need_stays 8 bytes more _ _ (λ enough.
    if_stays (length bytes) (number Big 0 4 bytes == section_type) (number Big 0 4 (bytes ++ more) == section_type) _ _ _ _
    (ap (λ (type : ℕ). type == section_type) (same_number Big 0 4 bytes more (omega arith)))
    (begun_section_stays time bytes more)
    (subst (λ (total : ℕ). Stays (length bytes) (sized_block order interfaces time (number order 4 4 bytes) bytes) (sized_block order interfaces time total (bytes ++ more)))
    (sym (same_number order 4 4 bytes more (omega arith)))
    (sized_block_stays order interfaces time (number order 4 4 bytes) bytes more enough)))

opens_as_stays : (o : Option (Order × ℕ)) (bytes more : List ℕ) → 4 ≤ length bytes → Stays (length bytes) (opens_as o bytes) (opens_as o (bytes ++ more))
opens_as_stays (Some x) bytes more header = classic_header_stays x.0 x.1 bytes more
opens_as_stays None bytes more header =
    test_stays (length bytes) (number Big 0 4 bytes == section_type) (number Big 0 4 (bytes ++ more) == section_type) Magic _ _
    (ap (λ (type : ℕ). type == section_type) (same_number Big 0 4 bytes more (omega arith)))
    (λ _. begun_section_stays 0 bytes more)

pub pieces_tell : PiecesTell
pieces_tell fresh bytes more =
    need_stays 4 bytes more _ _ (λ enough.
    subst (λ (magic : ℕ). Stays (length bytes) (opens_as (classic_magic (number Big 0 4 bytes)) bytes) (opens_as (classic_magic magic) (bytes ++ more)))
    (sym (same_number Big 0 4 bytes more (omega arith)))
    (opens_as_stays (classic_magic (number Big 0 4 bytes)) bytes more enough))
pieces_tell (classic order parts link) bytes more = told_classic_stays order parts link bytes more
pieces_tell (section order interfaces time) bytes more = told_block_stays order interfaces time bytes more
