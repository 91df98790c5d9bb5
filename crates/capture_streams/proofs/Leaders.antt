-- Each leader is counted, in a stream or beside the streams.
use Rattle.std.proofs.Common.{◌≡◌, ℕ, zero, suc, ◌+◌, ◌-◌, ◌^◌, ◌<◌, ◌≤◌, List, [], ◌∷◌, ◌++◌, length, Bool, true, false, cond, Option, Some, None, Result, Ok, Err, refl, sym, ap, subst, ◌∙◌, arith}
use Rattle.std.specs.Prelude.{nat_lt, position, slice_get, slice_set, if◌then◌else◌}
use Rattle.std.specs.List.{AllByRecursion, position_from}
use Rattle.std.proofs.lemmas.Iterator.Adapters.{position_from-zero}
use Rattle.gev_types.specs.declared.peer.Peer.{Peer}
use Rattle.gev_links.specs.Given.{one_more}
use Rattle.stream_packets.specs.Packets.{StreamPacket, leader, payload, trailer, notice}
use Rattle.gvsp_wire.specs.Reading.{packet_of}
use Rattle.gvsp_std.specs.declared.std_error.StdError.{StdError}
use Rattle.gvsp_std.specs.Widening.{widened}
use Rattle.gev_capture.specs.Contents.{Seen, other, fragment, cut, datagram, lost}
use Rattle.gev_capture.specs.Sightings.{Sighting}
use Rattle.capture_streams.specs.declared.sign.Kind.{Kind}
use Rattle.capture_streams.specs.declared.sign.Kind.TheVariants.{Leader, Payload, Other}
use Rattle.capture_streams.specs.declared.sign.Sign.{Sign}
use Rattle.capture_streams.specs.declared.stream.Stream.{Stream}
use Rattle.capture_streams.specs.Signs.{kind_in, sign_of, sign}
use Rattle.capture_streams.specs.Streams.{TableState, empty_table, is_between, with_kind, with_resent, with_one_more, blank, begun, with_one_more_at, with_unlisted, with_new_by, with_datagram, counts_after, counted}
use Rattle.capture_streams.specs.Texts.{table_from}
use Rattle.capture_streams.specs.Laws.{leaders_in, packet_by, packet_in, leaders_of, leaders_seen, leaders_among, IsCounted, StreamsAreWithin}
use Rattle.capture_streams.proofs.Within.{datagrams_are_within}

-- ---- a datagram

abbrev leads : Kind → ℕ
leads (Leader extended block info) = 1
leads (Payload n) = 0
leads Other = 0

kind_leads : (extended : Bool) (packet : Option StreamPacket) → leads (kind_in extended packet) ≡ leaders_of packet
kind_leads extended None = refl
kind_leads extended (Some (leader h i)) = refl
kind_leads extended (Some (payload h d)) = refl
kind_leads extended (Some (trailer h y)) = refl
kind_leads extended (Some (notice h)) = refl

sign_leads : (r : Result (ℕ × List ℕ) StdError) (bytes : List ℕ) → leads (sign_of r bytes).kind ≡ leaders_of (packet_by r bytes)
sign_leads (Ok x) bytes = kind_leads false (packet_of x.1)
sign_leads (Err e) bytes = kind_leads true (packet_of bytes)

-- ---- a stream

kind_counts : (kind : Kind) (s : Stream) → s.leaders + leads kind < 2 ^ 64 - 1 → (with_kind kind s).leaders ≡ s.leaders + leads kind
kind_counts (Leader extended block info) s few = omega (arith, few)
kind_counts (Payload n) s few = omega arith
kind_counts Other s few = omega arith

-- the stream with the datagram, before it's known what that tells
abbrev came : ℕ → Bool → Stream → Stream
came moment resent s = record s { datagrams = one_more s.datagrams; resent = with_resent resent s.resent; ended = moment }

more_counts : (moment : ℕ) (found : Sign) (s : Stream) → s.leaders + leads found.kind < 2 ^ 64 - 1 → (with_one_more moment found s).leaders ≡ s.leaders + leads found.kind
more_counts moment found s few = kind_counts found.kind (came moment found.resent s) few

-- ---- the streams

-- a stream at this place that passes
record Found (f : Stream → Bool) (xs : List Stream) (place : ℕ) : Type 0 where
  stream : Stream
  at : slice_get xs place ≡ Some stream

record FoundFrom (f : Stream → Bool) (i place : ℕ) (xs : List Stream) : Type 0 where
  behind : ℕ
  place_is : place ≡ i + behind
  found : Found f xs behind

found_from : (f : Stream → Bool) (i place : ℕ) (xs : List Stream) → position_from f i xs ≡ Some place → FoundFrom f i place xs
found_from f i place [] e = absurd cc
found_from f i place (x ∷ xs) e = go (f x) e (λ later. found_from f (i + 1) place xs later) where
  go : (b : Bool) → cond b (Some i) (position_from f (i + 1) xs) ≡ Some place → (position_from f (i + 1) xs ≡ Some place → FoundFrom f (i + 1) place xs)
      → FoundFrom f i place (x ∷ xs)
  go true e later = let same : i ≡ place = cc in record { behind = 0; place_is = omega (arith, same); found = record { stream = x; at = refl } }
  go false e later =
      let rest = later e in
      let is = rest.place_is in
      record { behind = suc rest.behind; place_is = omega (arith, is); found = record { stream = rest.found.stream; at = rest.found.at } }

found_at : (f : Stream → Bool) (place : ℕ) (xs : List Stream) → position f xs ≡ Some place → Found f xs place
found_at f place xs e =
    let same : position f xs ≡ position_from f 0 xs = position_from-zero f xs in
    let found = found_from f 0 place xs (sym same ∙ e) in
    let is = found.place_is in
    let there : found.behind ≡ place = omega (arith, is) in
    subst (λ k. Found f xs k) there found.found

at_most : (streams : List Stream) (place : ℕ) (s : Stream) → slice_get streams place ≡ Some s → s.leaders ≤ leaders_in streams
at_most [] place s e = absurd cc
at_most (t ∷ streams) zero s e = let here : t.leaders ≡ s.leaders = (let same : t ≡ s = cc in ap (λ (x : Stream). x.leaders) same) in omega (arith, here)
at_most (t ∷ streams) (suc place) s e = let rest = at_most streams place s e in omega (arith, rest)

set_counts : (streams : List Stream) (place n : ℕ) (s new : Stream) → slice_get streams place ≡ Some s → new.leaders ≡ s.leaders + n
    → leaders_in (slice_set streams place new) ≡ leaders_in streams + n
set_counts [] place n s new e more = absurd cc
set_counts (t ∷ streams) zero n s new e more =
    let here : t.leaders ≡ s.leaders = (let same : t ≡ s = cc in ap (λ (x : Stream). x.leaders) same) in omega (arith, more, here)
set_counts (t ∷ streams) (suc place) n s new e more = let rest = set_counts streams place n s new e more in omega (arith, rest)

push_counts : (streams : List Stream) (s : Stream) → leaders_in (streams ++ s ∷ []) ≡ leaders_in streams + s.leaders
push_counts [] s = omega arith
push_counts (t ∷ streams) s = let rest = push_counts streams s in omega (arith, rest)

-- the leaders that are counted
abbrev all_leaders : TableState → ℕ
all_leaders t = leaders_in t.streams + t.counts.unlisted

new_if : (b : Bool) (t : TableState) (s : Stream) → s.leaders ≡ 1 → all_leaders t + 1 < 2 ^ 64 - 1
    → all_leaders (if b then record { streams = t.streams ++ s ∷ []; counts = t.counts } else record { streams = t.streams; counts = with_unlisted t.counts }) ≡ all_leaders t + 1
new_if true t s one few = let grown = push_counts t.streams s in omega (arith, grown, one)
new_if false t s one few = omega (arith, few)

new_counts : (kind : Kind) (sender receiver : Peer) (moment : ℕ) (found : Sign) (t : TableState) → found.kind ≡ kind → all_leaders t + leads kind < 2 ^ 64 - 1
    → all_leaders (with_new_by kind sender receiver moment found t) ≡ all_leaders t + leads kind
new_counts (Leader extended block info) sender receiver moment found t is few =
    let one : leads found.kind ≡ 1 = ap leads is in
    let first : (begun sender receiver moment block found).leaders ≡ 0 + leads found.kind =
    more_counts moment found (blank sender receiver moment block) (omega (arith, one, few)) in
    new_if (nat_lt (length t.streams) 256) t (begun sender receiver moment block found) (omega (arith, first, one)) few
new_counts (Payload n) sender receiver moment found t is few = omega arith
new_counts Other sender receiver moment found t is few = omega arith

datagram_counts : (place : Option ℕ) (sender receiver : Peer) (moment : ℕ) (found : Sign) (t : TableState) → position (is_between sender receiver) t.streams ≡ place
    → all_leaders t + leads found.kind < 2 ^ 64 - 1 → all_leaders (with_datagram place sender receiver moment found t) ≡ all_leaders t + leads found.kind
datagram_counts None sender receiver moment found t is few = new_counts found.kind sender receiver moment found t refl few
datagram_counts (Some place) sender receiver moment found t is few =
    let there = found_at (is_between sender receiver) place t.streams is in
    let less = at_most t.streams place there.stream there.at in
    let more = more_counts moment found there.stream (omega (arith, less, few)) in
    let set = set_counts t.streams place (leads found.kind) there.stream (with_one_more moment found there.stream) there.at more in
    let same = ap (λ (o : Option Stream). leaders_in (with_one_more_at place moment found o t.streams)) there.at in
    omega (arith, set, same)

seen_counts : (begin moment : ℕ) (what : Seen) (t : TableState) → all_leaders t + leaders_seen what < 2 ^ 64 - 1
    → all_leaders (counted (record { begin = begin; moment = moment; what = what }) t) ≡ all_leaders t + leaders_seen what
seen_counts begin moment other t few = omega arith
seen_counts begin moment fragment t few = omega arith
seen_counts begin moment cut t few = omega arith
seen_counts begin moment (lost before now) t few = omega arith
seen_counts begin moment (datagram c) t few =
    let is : leads (sign c.bytes).kind ≡ leaders_of (packet_in c.bytes) = sign_leads (widened 0 c.bytes) c.bytes in
    let step = datagram_counts (position (is_between c.sender c.receiver) t.streams) c.sender c.receiver moment (sign c.bytes)
    (record { streams = t.streams; counts = counts_after begin (datagram c) t.counts }) refl (omega (arith, is, few)) in
    omega (arith, step, is)

all_count : (t : TableState) (xs : List Sighting) → all_leaders t + leaders_among xs < 2 ^ 64 - 1 → all_leaders (table_from t xs) ≡ all_leaders t + leaders_among xs
all_count t [] few = omega arith
all_count t (x ∷ xs) few =
    let one = seen_counts x.begin x.moment x.what t (omega (arith, few)) in
    let rest = all_count (counted x t) xs (omega (arith, one, few)) in
    omega (arith, one, rest)

-- ---- each stream

resent_few : (resent : Bool) (n d : ℕ) → n ≤ d → d ≤ 2 ^ 64 - 1 → with_resent resent n ≤ one_more d
resent_few true n d few most = omega (arith, few)
resent_few false n d few most = omega (arith, few, most)

kind_keeps : (kind : Kind) (moment : ℕ) (resent : Bool) (s : Stream) → IsCounted s → IsCounted (with_kind kind (came moment resent s))
kind_keeps (Leader extended block info) moment resent s is = record {
  led = omega arith;
  leaders = (let l = is.leaders in omega (arith, l));
  resent = resent_few resent s.resent s.datagrams is.resent is.most;
  most = omega arith;
}
kind_keeps (Payload n) moment resent s is = record {
  led = is.led;
  leaders = (let l = is.leaders in let m = is.most in omega (arith, l, m));
  resent = resent_few resent s.resent s.datagrams is.resent is.most;
  most = omega arith;
}
kind_keeps Other moment resent s is = record {
  led = is.led;
  leaders = (let l = is.leaders in let m = is.most in omega (arith, l, m));
  resent = resent_few resent s.resent s.datagrams is.resent is.most;
  most = omega arith;
}

begun_is : (kind : Kind) (sender receiver : Peer) (moment block : ℕ) (resent : Bool) → leads kind ≡ 1 → IsCounted (with_kind kind (came moment resent (blank sender receiver moment block)))
begun_is (Leader extended block info) sender receiver moment first resent e = record {
  led = omega arith;
  leaders = omega arith;
  resent = resent_few resent 0 0 (omega arith) (omega arith);
  most = omega arith;
}
begun_is (Payload n) sender receiver moment first resent e = absurd cc
begun_is Other sender receiver moment first resent e = absurd cc

abbrev AreCounted : List Stream → Type 0
AreCounted streams = AllByRecursion IsCounted streams

each_at : (streams : List Stream) (place : ℕ) (s : Stream) → AreCounted streams → slice_get streams place ≡ Some s → IsCounted s
each_at [] place s all e = absurd cc
each_at (t ∷ streams) zero s all e = let same : t ≡ s = cc in subst IsCounted same all.0
each_at (t ∷ streams) (suc place) s all e = each_at streams place s all.1 e

each_set : (streams : List Stream) (place : ℕ) (new : Stream) → AreCounted streams → IsCounted new → AreCounted (slice_set streams place new)
each_set [] place new all is = tt
each_set (t ∷ streams) zero new all is = (is, all.1)
each_set (t ∷ streams) (suc place) new all is = (all.0, each_set streams place new all.1 is)

each_push : (streams : List Stream) (s : Stream) → AreCounted streams → IsCounted s → AreCounted (streams ++ s ∷ [])
each_push [] s all is = (is, tt)
each_push (t ∷ streams) s all is = (all.0, each_push streams s all.1 is)

each_more : (o : Option Stream) (place moment : ℕ) (found : Sign) (streams : List Stream) → slice_get streams place ≡ o → AreCounted streams
    → AreCounted (with_one_more_at place moment found o streams)
each_more None place moment found streams e all = all
each_more (Some s) place moment found streams e all =
    each_set streams place (with_one_more moment found s) all (kind_keeps found.kind moment found.resent s (each_at streams place s all e))

-- one more stream, where there is room
abbrev grown_if : Bool → TableState → Stream → TableState
grown_if b t s = if b then record { streams = t.streams ++ s ∷ []; counts = t.counts } else record { streams = t.streams; counts = with_unlisted t.counts }

each_if : (b : Bool) (t : TableState) (s : Stream) → AreCounted t.streams → IsCounted s → AreCounted (grown_if b t s).streams
each_if true t s all is = each_push t.streams s all is
each_if false t s all is = all

each_new : (kind : Kind) (sender receiver : Peer) (moment : ℕ) (found : Sign) (t : TableState) → found.kind ≡ kind → AreCounted t.streams
    → AreCounted (with_new_by kind sender receiver moment found t).streams
each_new (Leader extended block info) sender receiver moment found t is all =
    each_if (nat_lt (length t.streams) 256) t (begun sender receiver moment block found) all
    (begun_is found.kind sender receiver moment block found.resent (ap leads is))
each_new (Payload n) sender receiver moment found t is all = all
each_new Other sender receiver moment found t is all = all

each_datagram : (place : Option ℕ) (sender receiver : Peer) (moment : ℕ) (found : Sign) (t : TableState) → AreCounted t.streams
    → AreCounted (with_datagram place sender receiver moment found t).streams
each_datagram None sender receiver moment found t all = each_new found.kind sender receiver moment found t refl all
each_datagram (Some place) sender receiver moment found t all = each_more (slice_get t.streams place) place moment found t.streams refl all

each_seen : (begin moment : ℕ) (what : Seen) (t : TableState) → AreCounted t.streams → AreCounted (counted (record { begin = begin; moment = moment; what = what }) t).streams
each_seen begin moment other t all = all
each_seen begin moment fragment t all = all
each_seen begin moment cut t all = all
each_seen begin moment (lost before now) t all = all
each_seen begin moment (datagram c) t all =
    each_datagram (position (is_between c.sender c.receiver) t.streams) c.sender c.receiver moment (sign c.bytes)
    (record { streams = t.streams; counts = counts_after begin (datagram c) t.counts }) all

each_of : (t : TableState) (xs : List Sighting) → AreCounted t.streams → AreCounted (table_from t xs).streams
each_of t [] all = all
each_of t (x ∷ xs) all = each_of (counted x t) xs (each_seen x.begin x.moment x.what t all)

-- ---- the law

pub streams_are_within : StreamsAreWithin
streams_are_within xs = record {
  datagrams = datagrams_are_within xs;
  leaders = λ few. (let all = all_count empty_table xs (omega (arith, few)) in omega (arith, all));
  each = each_of empty_table xs tt;
}
