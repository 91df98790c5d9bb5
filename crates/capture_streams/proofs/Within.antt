-- The datagrams of the streams are among those of the capture.
use Rattle.std.proofs.Common.{◌≡◌, ℕ, zero, suc, ◌+◌, ◌-◌, ◌^◌, ◌<◌, ◌≤◌, List, [], ◌∷◌, ◌++◌, length, Bool, true, false, Option, Some, None, refl, ap, arith}
use Rattle.std.specs.Prelude.{nat_lt, position, slice_get, slice_set, if◌then◌else◌}
use Rattle.gev_types.specs.declared.peer.Peer.{Peer}
use Rattle.gev_links.specs.Given.{one_more}
use Rattle.gev_capture.specs.Contents.{Seen, other, fragment, cut, datagram, lost}
use Rattle.gev_capture.specs.Sightings.{Sighting}
use Rattle.capture_streams.specs.declared.sign.Kind.{Kind}
use Rattle.capture_streams.specs.declared.sign.Kind.TheVariants.{Leader, Payload, Other}
use Rattle.capture_streams.specs.declared.sign.Sign.{Sign}
use Rattle.capture_streams.specs.declared.stream.Stream.{Stream}
use Rattle.capture_streams.specs.Signs.{sign}
use Rattle.capture_streams.specs.Streams.{TableState, empty_table, is_between, with_kind, with_resent, with_one_more, blank, begun, with_one_more_at, with_unlisted, with_new_by, with_datagram, counts_after, counted}
use Rattle.capture_streams.specs.Texts.{table_from, table_of}
use Rattle.capture_streams.specs.Laws.{datagrams_in}

-- one more datagram of a stream
same_datagrams : (kind : Kind) (s : Stream) → (with_kind kind s).datagrams ≡ s.datagrams
same_datagrams (Leader extended block info) s = refl
same_datagrams (Payload n) s = refl
same_datagrams Other s = refl

pub one_datagram : (moment : ℕ) (found : Sign) (s : Stream) → (with_one_more moment found s).datagrams ≡ one_more s.datagrams
one_datagram moment found s =
    same_datagrams found.kind (record s { datagrams = one_more s.datagrams; resent = with_resent found.resent s.resent; ended = moment })

set_in : (streams : List Stream) (place : ℕ) (s new : Stream) → slice_get streams place ≡ Some s → new.datagrams ≤ s.datagrams + 1
    → datagrams_in (slice_set streams place new) ≤ datagrams_in streams + 1
set_in [] place s new e few = omega arith
set_in (t ∷ streams) zero s new e few = let here : t.datagrams ≡ s.datagrams = (let same : t ≡ s = cc in ap (λ (x : Stream). x.datagrams) same) in omega (arith, few, here)
set_in (t ∷ streams) (suc place) s new e few = omega (arith, set_in streams place s new e few)

at_in : (streams : List Stream) (place moment : ℕ) (found : Sign) (o : Option Stream) → slice_get streams place ≡ o → datagrams_in (with_one_more_at place moment found o streams) ≤ datagrams_in streams + 1
at_in streams place moment found None e = omega arith
at_in streams place moment found (Some s) e = set_in streams place s (with_one_more moment found s) e (let one = one_datagram moment found s in omega (arith, one))

push_in : (streams : List Stream) (s : Stream) → datagrams_in (streams ++ s ∷ []) ≡ datagrams_in streams + s.datagrams
push_in [] s = omega arith
push_in (t ∷ streams) s = omega (arith, push_in streams s)

-- the streams have at most one datagram more, and the count of all is this
record OneMore (t new : TableState) : Type 0 where
  streams : datagrams_in new.streams ≤ datagrams_in t.streams + 1
  counts : new.counts.datagrams ≡ t.counts.datagrams

none_more : (t : TableState) → OneMore t t
none_more t = record { streams = omega arith; counts = refl }

new_in : (b : Bool) (t : TableState) (s : Stream) → s.datagrams ≤ 1
    → OneMore t (if b then record { streams = t.streams ++ s ∷ []; counts = t.counts } else record { streams = t.streams; counts = with_unlisted t.counts })
new_in true t s few = record { streams = omega (arith, push_in t.streams s, few); counts = refl }
new_in false t s few = record { streams = omega arith; counts = refl }

with_new_in : (kind : Kind) (sender receiver : Peer) (moment : ℕ) (found : Sign) (t : TableState) → OneMore t (with_new_by kind sender receiver moment found t)
with_new_in (Leader extended block info) sender receiver moment found t =
    new_in (nat_lt (length t.streams) 256) t (begun sender receiver moment block found)
    (let one = one_datagram moment found (blank sender receiver moment block) in omega (arith, one))
with_new_in (Payload n) sender receiver moment found t = none_more t
with_new_in Other sender receiver moment found t = none_more t

datagram_in : (place : Option ℕ) (sender receiver : Peer) (moment : ℕ) (found : Sign) (t : TableState) → OneMore t (with_datagram place sender receiver moment found t)
datagram_in (Some place) sender receiver moment found t = record { streams = at_in t.streams place moment found (slice_get t.streams place) refl; counts = refl }
datagram_in None sender receiver moment found t = with_new_in found.kind sender receiver moment found t

abbrev IsWithin : TableState → Type 0
IsWithin t = t.counts.datagrams < 2 ^ 64 - 1 → datagrams_in t.streams ≤ t.counts.datagrams

seen_in : (begin moment : ℕ) (what : Seen) (t : TableState) → IsWithin t → IsWithin (counted (record { begin = begin; moment = moment; what = what }) t)
seen_in begin moment other t h few = h few
seen_in begin moment fragment t h few = h few
seen_in begin moment cut t h few = h few
seen_in begin moment (lost before now) t h few = h few
seen_in begin moment (datagram c) t h few =
    let one = datagram_in (position (is_between c.sender c.receiver) t.streams) c.sender c.receiver moment (sign c.bytes) (record { streams = t.streams; counts = counts_after begin (datagram c) t.counts }) in
    let n : ℕ = t.counts.datagrams in
    let up : one_more n < 2 ^ 64 - 1 = omega (arith, few, one.counts) in
    let below : n < 2 ^ 64 - 1 = omega (arith, up) in
    let before = h below in
    omega (arith, one.streams, one.counts, before, up)

all_in : (t : TableState) (xs : List Sighting) → IsWithin t → IsWithin (table_from t xs)
all_in t [] h = h
all_in t (x ∷ xs) h = all_in (counted x t) xs (seen_in x.begin x.moment x.what t h)

pub datagrams_are_within : (xs : List Sighting) → (table_of xs).counts.datagrams < 2 ^ 64 - 1 → datagrams_in (table_of xs).streams ≤ (table_of xs).counts.datagrams
datagrams_are_within xs = all_in empty_table xs (λ few. omega arith)
