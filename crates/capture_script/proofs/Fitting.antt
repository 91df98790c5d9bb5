-- The lines of a captured script may stand in a script.
use Rattle.std.proofs.Common.{◌≡◌, ℕ, zero, suc, ◌+◌, ◌-◌, ◌^◌, ◌==◌, ◌<◌, ◌≤◌, List, [], ◌∷◌, ◌++◌, length, Bool, true, false, refl, arith, lit<}
use Rattle.std.specs.Prelude.{not, nat_lt, nat_le, replicate, slice_index, take, drop, Option, Some, None, if◌then◌else◌}
use Rattle.std.specs.List.{AllByRecursion}
use Rattle.std.proofs.lemmas.Bool.{and_parts}
use Rattle.std.proofs.lemmas.Bool.Decides.{nat_tests}
use Rattle.hex.specs.Hex.{encode_lower}
use Rattle.gev_script.specs.Lines as line
use Rattle.gev_script.specs.Lines.{ScriptLine}
use Rattle.gev_capture.specs.declared.moments.Moments.{Moments}
use Rattle.gev_capture.specs.Files.{Packet, captured, dropped}
use Rattle.gev_capture.specs.Contents.{Seen, Carried, other, fragment, cut, datagram, lost, network, network_seen, ip_seen, looped, cooked, untagged, once_tagged, twice_tagged}
use Rattle.gev_capture.specs.Contents as contents
use Rattle.gev_capture.specs.Sightings as capture
use Rattle.gev_capture.specs.Sightings.{Sighting, moments_after, moment_in, sighting_of}
use Rattle.acquisition_machine.proofs.Order.{all_append}
use Rattle.capture_script.specs.Playing.{Line, heard, ticked}
use Rattle.capture_script.specs.Script.{Scripted, Lines, taking, with_takes, no_lines, both, goes_on, ticks, carries, is_for, carried, seen, sighted, lines_from}
use Rattle.capture_script.proofs.Spelled.{datagram_fits}
use Rattle.gev_capture.specs.Laws.{HasBytes}
use Rattle.capture_script.proofs.Sitting.{Goes, flush_goes, take_goes, tick_goes, datagram_goes}
use Rattle.capture_script.proofs.Telling.{few_moments}

abbrev pub AllGo : List ScriptLine → Type 0
AllGo ls = AllByRecursion Goes ls

-- ---- the bytes of a datagram

abbrev pub AreSmall : List ℕ → Type 0
AreSmall bytes = AllByRecursion (λ b. b < 256) bytes

pub small_drop : (n : ℕ) (bytes : List ℕ) → AreSmall bytes → AreSmall (drop n bytes)
small_drop zero bytes all = all
small_drop (suc n) [] all = tt
small_drop (suc n) (b ∷ bytes) all = small_drop n bytes all.1

small_take : (n : ℕ) (bytes : List ℕ) → AreSmall bytes → AreSmall (take n bytes)
small_take zero bytes all = tt
small_take (suc n) [] all = tt
small_take (suc n) (b ∷ bytes) all = (all.0, small_take n bytes all.1)

pub small_at : (bytes : List ℕ) → AreSmall bytes → (i : ℕ) → slice_index bytes i < 256
small_at [] all i = lit< tt
small_at (b ∷ bytes) all zero = all.0
small_at (b ∷ bytes) all (suc i) = small_at bytes all.1 i

-- of bytes that may be there
data SmallIn : Option (List ℕ) → Type 0 where
  none : SmallIn None
  some : (bytes : List ℕ) → AreSmall bytes → SmallIn (Some bytes)

-- of the bytes of a datagram
pub data SmallSeen : Seen → Type 0 where
  is_other : SmallSeen other
  is_fragment : SmallSeen fragment
  is_cut : SmallSeen cut
  is_datagram : (c : Carried) → AreSmall c.bytes → SmallSeen (datagram c)

small_if : (b : Bool) (x y : Option (List ℕ)) → SmallIn x → SmallIn y → SmallIn (if b then x else y)
small_if true x y p q = p
small_if false x y p q = q

seen_if : (b : Bool) (x y : Seen) → SmallSeen x → SmallSeen y → SmallSeen (if b then x else y)
seen_if true x y p q = p
seen_if false x y p q = q

small_untagged : (at : ℕ) (bytes : List ℕ) → AreSmall bytes → SmallIn (untagged at bytes)
small_untagged at bytes all = small_if _ _ _ none (small_if _ _ _ (some (drop (at + 2) bytes) (small_drop (at + 2) bytes all)) none)

small_once : (at : ℕ) (bytes : List ℕ) → AreSmall bytes → SmallIn (once_tagged at bytes)
small_once at bytes all = small_if _ _ _ none (small_if _ _ _ (small_untagged (at + 4) bytes all) (small_untagged at bytes all))

small_twice : (at : ℕ) (bytes : List ℕ) → AreSmall bytes → SmallIn (twice_tagged at bytes)
small_twice at bytes all = small_if _ _ _ none (small_if _ _ _ (small_once (at + 4) bytes all) (small_untagged at bytes all))

small_looped : (bytes : List ℕ) → AreSmall bytes → SmallIn (looped bytes)
small_looped bytes all = small_if _ _ _ none (small_if _ _ _ (some (drop 4 bytes) (small_drop 4 bytes all)) none)

small_cooked : (size place : ℕ) (bytes : List ℕ) → AreSmall bytes → SmallIn (cooked size place bytes)
small_cooked size place bytes all = small_if _ _ _ none (small_if _ _ _ (some (drop size bytes) (small_drop size bytes all)) none)

small_network : (link : ℕ) (bytes : List ℕ) → AreSmall bytes → SmallIn (network link bytes)
small_network link bytes all =
    small_if _ _ _ (small_twice 12 bytes all)
    (small_if _ _ _ (small_looped bytes all)
    (small_if _ _ _ (some bytes all)
    (small_if _ _ _ (small_cooked 16 14 bytes all)
    (small_if _ _ _ (small_cooked 20 0 bytes all) none))))

small_sized : (ip udp : List ℕ) (room n : ℕ) → AreSmall udp → SmallSeen (contents.udp_sized ip udp room n)
small_sized ip udp room n all =
    seen_if (nat_lt n 8) other _ is_other
    (seen_if (nat_lt room n) other _ is_other
    (seen_if (nat_lt (length udp) n) cut _ is_cut (is_datagram _ (small_take (n - 8) (drop 8 udp) (small_drop 8 udp all)))))

small_ip : (ip : List ℕ) → AreSmall ip → SmallSeen (ip_seen ip)
small_ip ip all =
    let h : ℕ = contents.header_size ip in
    seen_if (nat_lt (length ip) 20) other _ is_other
    (seen_if (not (contents.is_udp ip)) other _ is_other
    (seen_if (contents.is_fragment ip) fragment _ is_fragment
    (seen_if (nat_lt (contents.total_length ip) (h + 8)) other _ is_other
    (seen_if (nat_lt (length ip) (h + 8)) cut _ is_cut (small_sized ip (drop h ip) (contents.total_length ip - h) _ (small_drop h ip all))))))

small_ip_in : (o : Option (List ℕ)) → SmallIn o → SmallSeen (network_seen o)
small_ip_in None all = is_other
small_ip_in (Some ip) (some bytes all) = small_ip ip all

pub small_seen : (link : ℕ) (bytes : List ℕ) → AreSmall bytes → SmallSeen (contents.seen link bytes)
small_seen link bytes all = small_ip_in (network link bytes) (small_network link bytes all)

all_if : (b : Bool) (x y : List ScriptLine) → AllGo x → AllGo y → AllGo (if b then x else y)
all_if true x y p q = p
all_if false x y p q = q

lines_if : (b : Bool) (x y : Lines) → AllGo x.lines → AllGo y.lines → AllGo (if b then x else y).lines
lines_if true x y p q = p
lines_if false x y p q = q

-- ---- lines

takes_go : (k : ℕ) → AllGo (replicate k line.take ++ line.flush 3 ∷ [])
takes_go zero = (flush_goes, tt)
takes_go (suc k) = (take_goes, takes_go k)

pub taking_goes : (n : ℕ) → AllGo (taking n)
taking_goes n = all_if (n == 0) [] (replicate n line.take ++ line.flush 3 ∷ []) tt (takes_go n)

line_goes : (l : ScriptLine) (played : Line) → Goes l → AllGo (with_takes l played)
line_goes l played one = (one, taking_goes played.filled)

ticks_go : (moment : ℕ) (s : Scripted) → moment < 2 ^ 64 → AllGo (ticks moment s).lines
ticks_go moment s small = lines_if (nat_lt s.moment moment) (goes_on moment s) (no_lines s) (line_goes (line.tick moment) (ticked s.p moment s.played) (tick_goes moment small)) tt

fits : (port to : ℕ) (bytes : List ℕ) → AreSmall bytes → is_for port to bytes ≡ true → Goes (line.datagram (encode_lower bytes))
fits port to bytes all e =
    datagram_goes (encode_lower bytes) (datagram_fits bytes (small_at bytes all) (from (length bytes) (and_parts _ _ (and_parts _ _ e).0).1) (upto (length bytes) (and_parts _ _ e).1))
  where
    from : (n : ℕ) → nat_le 1 n ≡ true → 1 ≤ n
    from n e = grind (arith, nat_tests, e)

    upto : (n : ℕ) → nat_le n 9999 ≡ true → n ≤ 9999
    upto n e = grind (arith, nat_tests, e)

carried_goes : (b : Bool) (moment : ℕ) (port to : ℕ) (bytes : List ℕ) (s : Scripted) → is_for port to bytes ≡ b → moment < 2 ^ 64 → AreSmall bytes
    → AllGo (if b then both (ticks moment s) (carries bytes) else no_lines s).lines
carried_goes true moment port to bytes s e small all =
    let mid : Scripted = (ticks moment s).after in
    all_append Goes (ticks moment s).lines (carries bytes (ticks moment s).after).lines (ticks_go moment s small) (line_goes (line.datagram (encode_lower bytes)) (heard mid.p mid.size bytes mid.played) (fits port to bytes all e))
carried_goes false moment port to bytes s e small all = tt

seen_goes : (moment : ℕ) (what : Seen) (s : Scripted) → moment < 2 ^ 64 → SmallSeen what → AllGo (seen moment what s).lines
seen_goes moment other s small all = tt
seen_goes moment fragment s small all = tt
seen_goes moment cut s small all = tt
seen_goes moment (lost before now) s small all = tt
seen_goes moment (datagram c) s small (is_datagram carried all) = carried_goes (is_for s.port c.receiver.port c.bytes) moment s.port c.receiver.port c.bytes s refl small all

-- the lines of packets
pub packets_go : (m : Moments) (packets : List Packet) (s : Scripted) → AllByRecursion HasBytes packets → AllGo (lines_from s (capture.sighted m packets))
packets_go m [] s all = tt
packets_go m (dropped before now ∷ packets) s all = packets_go m packets s all.1
packets_go m (captured packet ∷ packets) s all =
    let x : Sighting = sighting_of m (captured packet) in
    let small : x.moment ≤ 2 ^ 64 - 1 = few_moments m packet.time in
    all_append Goes (sighted s x).lines (lines_from (sighted s x).after (capture.sighted (moments_after m packet.time) packets))
    (seen_goes x.moment x.what s (omega (arith, small)) (small_seen packet.link packet.bytes all.0))
    (packets_go (moments_after m packet.time) packets (sighted s x).after all.1)
