-- Each packet is counted, and by what it is.
use Rattle.std.proofs.Common.{◌≡◌, ℕ, zero, suc, ◌+◌, ◌-◌, ◌^◌, ◌<◌, ◌≤◌, List, [], ◌∷◌, ◌++◌, length, Bool, true, false, Option, Some, None, refl, ◌∙◌, arith}
use Rattle.std.specs.Prelude.{◌==◌, nat_lt, position, if◌then◌else◌}
use Rattle.gev_types.specs.declared.peer.Peer.{Peer}
use Rattle.gev_links.specs.Given.{one_more}
use Rattle.gev_capture.specs.Contents.{Seen, other, fragment, cut, datagram, lost}
use Rattle.gev_capture.specs.Sightings.{Sighting}
use Rattle.capture_streams.specs.declared.counts.Counts.{Counts}
use Rattle.capture_streams.specs.declared.sign.Kind.{Kind}
use Rattle.capture_streams.specs.declared.sign.Kind.TheVariants.{Leader, Payload, Other}
use Rattle.capture_streams.specs.declared.sign.Sign.{Sign}
use Rattle.capture_streams.specs.Signs.{sign}
use Rattle.capture_streams.specs.Streams.{TableState, empty_table, is_between, begun, with_unlisted, with_new_by, with_datagram, counts_by, counts_after, with_seen, counted}
use Rattle.capture_streams.specs.Texts.{table_from}
use Rattle.capture_streams.specs.Laws.{AddUp, packets_of, packets_among, PacketsAreCounted}

-- the same of each packet
record SamePackets (a b : Counts) : Type 0 where
  packets : a.packets ≡ b.packets
  datagrams : a.datagrams ≡ b.datagrams
  fragments : a.fragments ≡ b.fragments
  cut : a.cut ≡ b.cut
  other : a.other ≡ b.other

same_packets : (a : Counts) → SamePackets a a
same_packets a = record { packets = refl; datagrams = refl; fragments = refl; cut = refl; other = refl }

either : (Q : TableState → Type 0) (b : Bool) (x y : TableState) → Q x → Q y → Q (if b then x else y)
either Q true x y p q = p
either Q false x y p q = q

-- a stream that isn't listed is counted beside them
new_keeps : (kind : Kind) (sender receiver : Peer) (moment : ℕ) (found : Sign) (t : TableState) → SamePackets (with_new_by kind sender receiver moment found t).counts t.counts
new_keeps (Leader extended block info) sender receiver moment found t =
    either (λ (u : TableState). SamePackets u.counts t.counts) (nat_lt (length t.streams) 256)
    (record { streams = t.streams ++ begun sender receiver moment block found ∷ []; counts = t.counts }) (record { streams = t.streams; counts = with_unlisted t.counts })
    (same_packets t.counts) (record { packets = refl; datagrams = refl; fragments = refl; cut = refl; other = refl })
new_keeps (Payload n) sender receiver moment found t = same_packets t.counts
new_keeps Other sender receiver moment found t = same_packets t.counts

datagram_keeps : (place : Option ℕ) (sender receiver : Peer) (moment : ℕ) (found : Sign) (t : TableState) → SamePackets (with_datagram place sender receiver moment found t).counts t.counts
datagram_keeps (Some place) sender receiver moment found t = same_packets t.counts
datagram_keeps None sender receiver moment found t = new_keeps found.kind sender receiver moment found t

seen_keeps : (moment : ℕ) (what : Seen) (t : TableState) → SamePackets (with_seen moment what t).counts t.counts
seen_keeps moment other t = same_packets t.counts
seen_keeps moment fragment t = same_packets t.counts
seen_keeps moment cut t = same_packets t.counts
seen_keeps moment (lost before now) t = same_packets t.counts
seen_keeps moment (datagram c) t = datagram_keeps (position (is_between c.sender c.receiver) t.streams) c.sender c.receiver moment (sign c.bytes) t

-- one packet more, or none
abbrev more_packets : ℕ → ℕ → ℕ
more_packets k n = if k == 0 then n else one_more n

after_packets : (begin : ℕ) (what : Seen) (a : Counts) → (counts_after begin what a).packets ≡ more_packets (packets_of what) a.packets
after_packets begin other a = refl
after_packets begin fragment a = refl
after_packets begin cut a = refl
after_packets begin (datagram c) a = refl
after_packets begin (lost before now) a = refl

one_or_none : (what : Seen) → packets_of what ≤ 1
one_or_none other = omega arith
one_or_none fragment = omega arith
one_or_none cut = omega arith
one_or_none (datagram c) = omega arith
one_or_none (lost before now) = omega arith

more_few : (k n : ℕ) → k ≤ 1 → k + n < 2 ^ 64 - 1 → more_packets k n ≡ k + n
more_few zero n small few = omega arith
more_few (suc zero) n small few = omega (arith, few)
more_few (suc (suc k)) n small few = absurd (omega (arith, small))

one_part : (n d f c o e : ℕ) → (n < 2 ^ 64 - 1 → n ≡ d + f + c + o) → e ≤ d + f + c + o → one_more n < 2 ^ 64 - 1 → (one_more n ≡ n + 1) × (one_more e ≡ e + 1) × (n ≡ d + f + c + o)
one_part n d f c o e h within few =
    let small : n < 2 ^ 64 - 1 = omega (arith, few) in
    let sum : n ≡ d + f + c + o = h small in
    (omega (arith, few), omega (arith, few, sum, within), sum)

after_adds : (what : Seen) (a : Counts) → AddUp a → AddUp (counts_by what a)
after_adds other a h few =
    let p = one_part a.packets a.datagrams a.fragments a.cut a.other a.other h (omega arith) few in omega (arith, p.0, p.1, p.2)
after_adds fragment a h few =
    let p = one_part a.packets a.datagrams a.fragments a.cut a.other a.fragments h (omega arith) few in omega (arith, p.0, p.1, p.2)
after_adds cut a h few =
    let p = one_part a.packets a.datagrams a.fragments a.cut a.other a.cut h (omega arith) few in omega (arith, p.0, p.1, p.2)
after_adds (datagram c) a h few =
    let p = one_part a.packets a.datagrams a.fragments a.cut a.other a.datagrams h (omega arith) few in omega (arith, p.0, p.1, p.2)
after_adds (lost before now) a h few = h few

same_adds : (a b : Counts) → SamePackets a b → AddUp b → AddUp a
same_adds a b s h few =
    let sum = h (omega (arith, s.packets, few)) in omega (arith, s.packets, s.datagrams, s.fragments, s.cut, s.other, sum)

counted_packets : (x : Sighting) (t : TableState) → (counted x t).counts.packets ≡ more_packets (packets_of x.what) t.counts.packets
counted_packets x t =
    (seen_keeps x.moment x.what (record { streams = t.streams; counts = counts_after x.begin x.what t.counts })).packets ∙ after_packets x.begin x.what t.counts

counted_adds : (x : Sighting) (t : TableState) → AddUp t.counts → AddUp (counted x t).counts
counted_adds x t h =
    same_adds (counted x t).counts (counts_after x.begin x.what t.counts) (seen_keeps x.moment x.what (record { streams = t.streams; counts = counts_after x.begin x.what t.counts }))
    (after_adds x.what t.counts h)

-- ---- all packets

all_counted : (t : TableState) (xs : List Sighting) → t.counts.packets + packets_among xs < 2 ^ 64 - 1 → (table_from t xs).counts.packets ≡ t.counts.packets + packets_among xs
all_counted t [] few = omega arith
all_counted t (x ∷ xs) few =
    let e = counted_packets x t in
    let more : (counted x t).counts.packets ≡ packets_of x.what + t.counts.packets = e ∙ more_few (packets_of x.what) t.counts.packets (one_or_none x.what) (omega (arith, few)) in
    omega (arith, all_counted (counted x t) xs (omega (arith, more, few)), more)

all_add : (t : TableState) (xs : List Sighting) → AddUp t.counts → AddUp (table_from t xs).counts
all_add t [] h = h
all_add t (x ∷ xs) h = all_add (counted x t) xs (counted_adds x t h)

pub packets_are_counted : PacketsAreCounted
packets_are_counted xs = record {
  packets = λ few. let all : (table_from empty_table xs).counts.packets ≡ 0 + packets_among xs = all_counted empty_table xs (omega (arith, few)) in omega (arith, all);
  add_up = all_add empty_table xs (λ few. refl);
}
