-- A capture begins in the millisecond of its first packet.
use Rattle.std.proofs.Common.{◌≡◌, ℕ, ◌+◌, ◌*◌, ◌/◌, ◌^◌, ◌<◌, ◌≤◌, List, [], ◌∷◌, ◌++◌, length, Bool, true, false, Option, Some, None, refl, sym, ap, subst, ◌∙◌, arith}
use Rattle.std.specs.Prelude.{nat_lt, position}
use Rattle.gev_types.specs.declared.peer.Peer.{Peer}
use Rattle.gev_capture.specs.declared.moments.Moments.{Moments}
use Rattle.gev_capture.specs.Files.{Packet, captured, dropped}
use Rattle.gev_capture.specs.Contents.{Seen, other, fragment, cut, datagram, lost}
use Rattle.gev_capture.specs.Sightings.{Sighting, first_time, begin_of, moments_with, no_moments, sighted, sighting_of, sightings}
use Rattle.capture_streams.specs.declared.sign.Kind.{Kind}
use Rattle.capture_streams.specs.declared.sign.Kind.TheVariants.{Leader, Payload, Other}
use Rattle.capture_streams.specs.declared.sign.Sign.{Sign}
use Rattle.capture_streams.specs.Signs.{sign}
use Rattle.capture_streams.specs.Streams.{TableState, empty_table, is_between, begun, with_new_by, with_datagram, counts_after, counted}
use Rattle.capture_streams.specs.Texts.{table_from, table_of}
use Rattle.capture_streams.specs.Begins.{first_time_in, IsIn, BeginsInMilliseconds}
use Rattle.capture_streams.proofs.Dropped.{grown_if}
use Rattle.capture_streams.specs.declared.stream.Stream.{Stream}

-- ---- the table

grown_keeps : (b : Bool) (t : TableState) (s : Stream) → (grown_if b t s).counts.begin ≡ t.counts.begin
grown_keeps true t s = refl
grown_keeps false t s = refl

new_keeps : (kind : Kind) (sender receiver : Peer) (moment : ℕ) (found : Sign) (t : TableState) → (with_new_by kind sender receiver moment found t).counts.begin ≡ t.counts.begin
new_keeps (Leader extended block info) sender receiver moment found t = grown_keeps (nat_lt (length t.streams) 256) t (begun sender receiver moment block found)
new_keeps (Payload n) sender receiver moment found t = refl
new_keeps Other sender receiver moment found t = refl

datagram_keeps : (place : Option ℕ) (sender receiver : Peer) (moment : ℕ) (found : Sign) (t : TableState) → (with_datagram place sender receiver moment found t).counts.begin ≡ t.counts.begin
datagram_keeps (Some place) sender receiver moment found t = refl
datagram_keeps None sender receiver moment found t = new_keeps found.kind sender receiver moment found t

-- what is told last is told
begins_so : (begin moment : ℕ) (what : Seen) (t : TableState) → (counted (record { begin = begin; moment = moment; what = what }) t).counts.begin ≡ begin
begins_so begin moment other t = refl
begins_so begin moment fragment t = refl
begins_so begin moment cut t = refl
begins_so begin moment (lost before now) t = refl
begins_so begin moment (datagram c) t =
    datagram_keeps (position (is_between c.sender c.receiver) t.streams) c.sender c.receiver moment (sign c.bytes) (record { streams = t.streams; counts = counts_after begin (datagram c) t.counts })

one_begins : (m : Moments) (packet : Packet) (t : TableState) → (counted (sighting_of m packet) t).counts.begin ≡ begin_of (moments_with m packet).first
one_begins m packet t = let x : Sighting = sighting_of m packet in begins_so x.begin x.moment x.what t

-- ---- the first packet

-- it stays the first
first_stays : (m : Moments) (packet : Packet) (time : ℕ) → m.first ≡ Some time → (moments_with m packet).first ≡ Some time
first_stays m (captured frame) time e = ap (λ (o : Option ℕ). Some (first_time o frame.time)) e
first_stays m (dropped before now) time e = e

behind_first : (m : Moments) (t : TableState) (packets : List Packet) (time : ℕ) → m.first ≡ Some time → t.counts.begin ≡ begin_of (Some time)
    → (table_from t (sighted m packets)).counts.begin ≡ begin_of (Some time)
behind_first m t [] time e is = is
behind_first m t (packet ∷ packets) time e is =
    let later : (moments_with m packet).first ≡ Some time = first_stays m packet time e in
    behind_first (moments_with m packet) (counted (sighting_of m packet) t) packets time later (one_begins m packet t ∙ ap begin_of later)

before_first : (m : Moments) (t : TableState) (packets : List Packet) → m.first ≡ None → t.counts.begin ≡ 0
    → (table_from t (sighted m packets)).counts.begin ≡ begin_of (first_time_in packets)
before_first m t [] e is = is
before_first m t (captured frame ∷ packets) e is =
    let now : (moments_with m (captured frame)).first ≡ Some frame.time = ap (λ (o : Option ℕ). Some (first_time o frame.time)) e in
    behind_first (moments_with m (captured frame)) (counted (sighting_of m (captured frame)) t) packets frame.time now (one_begins m (captured frame) t ∙ ap begin_of now)
before_first m t (dropped before now ∷ packets) e is =
    before_first m (counted (sighting_of m (dropped before now)) t) packets e (one_begins m (dropped before now) t ∙ ap begin_of e)

-- ---- the law

in_millisecond : (time begin : ℕ) → begin ≡ begin_of (Some time) → time < 2 ^ 64 * 1000000 → IsIn begin time
in_millisecond time begin e few = record { from = omega (arith, e, few); before = omega (arith, e, few) }

begins : (packets : List Packet) → (table_of (sightings packets)).counts.begin ≡ begin_of (first_time_in packets)
begins packets = before_first no_moments empty_table packets refl refl

pub begins_in_milliseconds : BeginsInMilliseconds
begins_in_milliseconds = record {
  some = λ packets time e few. in_millisecond time (table_of (sightings packets)).counts.begin (begins packets ∙ ap begin_of e) few;
  none = λ packets e. begins packets ∙ ap begin_of e;
}
