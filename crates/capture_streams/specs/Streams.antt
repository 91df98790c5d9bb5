-- The image streams in a capture, and what is counted of each. Counts stand still at 2 ^ 64 - 1, and that of what was
-- dropped at 2 ^ 128 - 1.
use Rattle.std.specs.Prelude.{ℕ, ◌+◌, ◌-◌, ◌^◌, ◌==◌, ◌&&◌, ◌||◌, not, min, max, nat_lt, List, [], ◌∷◌, ◌++◌, length, position, slice_get, slice_set, Bool, true, false, Option, Some, None, if◌then◌else◌}
use Rattle.gev_types.specs.declared.peer.Peer.{Peer}
use Rattle.gev_links.specs.Given.{one_more}
use Rattle.stream_packets.specs.declared.fields.LeaderInfo.{LeaderInfo}
use Rattle.gev_capture.specs.Contents.{Seen, Carried, other, fragment, cut, datagram, lost}
use Rattle.gev_capture.specs.Sightings.{Sighting}
use Rattle.capture_streams.specs.declared.counts.Counts.{Counts}
use Rattle.capture_streams.specs.declared.sign.Kind.{Kind}
use Rattle.capture_streams.specs.declared.sign.Kind.TheVariants.{Leader, Payload, Other}
use Rattle.capture_streams.specs.declared.sign.Sign.{Sign}
use Rattle.capture_streams.specs.declared.stream.Stream.{Stream}
use Rattle.capture_streams.specs.Signs.{sign}

pub record TableState : Type 0 where
  -- in the order in which they begin
  pub streams : List Stream
  pub counts : Counts

abbrev pub no_counts : Counts
no_counts = record { packets = 0; datagrams = 0; fragments = 0; cut = 0; other = 0; unlisted = 0; dropped = 0; begin = 0 }

abbrev pub empty_table : TableState
empty_table = record { streams = []; counts = no_counts }

-- ---- a stream

abbrev pub same_peer : Peer → Peer → Bool
same_peer a b = a.address == b.address && a.port == b.port

-- who sends and who receives is that of the stream
abbrev pub is_between : Peer → Peer → Stream → Bool
is_between sender receiver s = same_peer s.sender sender && same_peer s.receiver receiver

-- what a leader tells, the last one
abbrev pub with_leader : Bool → ℕ → LeaderInfo → Stream → Stream
with_leader extended block info s = record s {
  extended = s.extended || extended;
  standard = s.standard || not extended;
  leaders = one_more s.leaders;
  width = info.size_x;
  height = info.size_y;
  pixel = info.pixel;
  bytes = info.size;
  last = block;
}

abbrev pub with_kind : Kind → Stream → Stream
with_kind (Leader extended block info) s = with_leader extended block info s
with_kind (Payload n) s = record s { payload = max s.payload n }
with_kind Other s = s

-- so many packets were sent again, and one more where this is one
abbrev pub with_resent : Bool → ℕ → ℕ
with_resent true n = one_more n
with_resent false n = n

-- one more datagram of a stream, at this moment
abbrev pub with_one_more : ℕ → Sign → Stream → Stream
with_one_more moment found s =
    with_kind found.kind (record s { datagrams = one_more s.datagrams; resent = with_resent found.resent s.resent; ended = moment })

-- a stream whose first leader, of this block, comes at this moment, before it's counted
abbrev pub blank : Peer → Peer → ℕ → ℕ → Stream
blank sender receiver moment block = record {
  sender = sender;
  receiver = receiver;
  extended = false;
  standard = false;
  datagrams = 0;
  payload = 0;
  resent = 0;
  leaders = 0;
  width = 0;
  height = 0;
  pixel = 0;
  bytes = 0;
  first = block;
  last = block;
  begun = moment;
  ended = moment;
}

-- a stream with its first leader, which is of this block
abbrev pub begun : Peer → Peer → ℕ → ℕ → Sign → Stream
begun sender receiver moment block found = with_one_more moment found (blank sender receiver moment block)

-- ---- the table

-- the streams with one more datagram of the one at this place
abbrev pub with_one_more_at : ℕ → ℕ → Sign → Option Stream → List Stream → List Stream
with_one_more_at place moment found None streams = streams
with_one_more_at place moment found (Some s) streams = slice_set streams place (with_one_more moment found s)

-- one leader more of a stream that isn't listed
abbrev pub with_unlisted : Counts → Counts
with_unlisted counts = record counts { unlisted = one_more counts.unlisted }

-- A datagram of a pair that is no stream yet: a leader begins one, of which at most 256 are listed.
abbrev pub with_new_by : Kind → Peer → Peer → ℕ → Sign → TableState → TableState
with_new_by (Leader extended block info) sender receiver moment found t =
    if nat_lt (length t.streams) 256 then record { streams = t.streams ++ begun sender receiver moment block found ∷ []; counts = t.counts }
    else record { streams = t.streams; counts = with_unlisted t.counts }
with_new_by (Payload n) sender receiver moment found t = t
with_new_by Other sender receiver moment found t = t

abbrev pub with_new : Peer → Peer → ℕ → Sign → TableState → TableState
with_new sender receiver moment found t = with_new_by found.kind sender receiver moment found t

-- by the place of the pair's stream, if there is one
abbrev pub with_datagram : Option ℕ → Peer → Peer → ℕ → Sign → TableState → TableState
with_datagram (Some place) sender receiver moment found t =
    record { streams = with_one_more_at place moment found (slice_get t.streams place) t.streams; counts = t.counts }
with_datagram None sender receiver moment found t = with_new sender receiver moment found t

abbrev pub with_carried : Carried → ℕ → TableState → TableState
with_carried c moment t =
    with_datagram (position (is_between c.sender c.receiver) t.streams) c.sender c.receiver moment (sign c.bytes) t

-- An interface that told of so many dropped packets tells now of so many: of all interfaces they are the sum.
abbrev pub dropped_now : ℕ → ℕ → ℕ → ℕ
dropped_now before now sum = min (2 ^ 128 - 1) (sum + now) - before

-- one packet more, by what it is, or more that were dropped
abbrev pub counts_by : Seen → Counts → Counts
counts_by other counts = record counts { packets = one_more counts.packets; other = one_more counts.other }
counts_by fragment counts = record counts { packets = one_more counts.packets; fragments = one_more counts.fragments }
counts_by cut counts = record counts { packets = one_more counts.packets; cut = one_more counts.cut }
counts_by (datagram c) counts = record counts { packets = one_more counts.packets; datagrams = one_more counts.datagrams }
counts_by (lost before now) counts = record counts { dropped = dropped_now before now counts.dropped }

-- where the first packet came at this time of day
abbrev pub counts_after : ℕ → Seen → Counts → Counts
counts_after begin what counts = record (counts_by what counts) { begin = begin }

abbrev pub with_seen : ℕ → Seen → TableState → TableState
with_seen moment other t = t
with_seen moment fragment t = t
with_seen moment cut t = t
with_seen moment (datagram c) t = with_carried c moment t
with_seen moment (lost before now) t = t

-- the table with one more packet
abbrev pub counted : Sighting → TableState → TableState
counted x t = with_seen x.moment x.what (record { streams = t.streams; counts = counts_after x.begin x.what t.counts })
