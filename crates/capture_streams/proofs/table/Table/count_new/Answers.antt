-- A leader begins a stream where fewer than 256 are listed.
use Rattle.std.proofs.Common.{◌≡◌, ℕ, ◌<◌, ◌≤◌, List, [], ◌∷◌, ◌++◌, length, Bool, true, false, refl, sym, ap, subst, ◌∙◌, arith}
use Rattle.std.specs.Prelude.{nat_lt, vec_capacity, if◌then◌else◌}
use Rattle.std.proofs.lemmas.Bool.{lt-ltb}
use Rattle.gev_types.specs.declared.peer.Peer.{Peer}
use Rattle.stream_packets.specs.declared.fields.LeaderInfo.{LeaderInfo}
use Rattle.capture_streams.specs.declared.counts.Counts.{Counts}
use Rattle.capture_streams.specs.declared.sign.Kind.{Kind}
use Rattle.capture_streams.specs.declared.sign.Kind.TheVariants.{Leader}
use Rattle.capture_streams.specs.declared.sign.Sign.{Sign}
use Rattle.capture_streams.specs.declared.stream.Stream.{Stream}
use Rattle.capture_streams.specs.Streams.{TableState, begun, with_unlisted, with_new_by, with_new}
use Rattle.capture_streams.proofs.table.Table.count_new.Goals as goal

abbrev table : List Stream → Counts → TableState
table streams counts = record { streams = streams; counts = counts }

taken : (b : Bool) (x y : TableState) → b ≡ true → (if b then x else y) ≡ x
taken true x y e = refl
taken false x y e = cc

begins : (sender receiver : Peer) (moment : ℕ) (found : Sign) (extended : Bool) (block : ℕ) (info : LeaderInfo) (streams items : List Stream) (counts : Counts) (stream : Stream)
    → found.kind ≡ Leader extended block info → length streams < 256 → stream ≡ begun sender receiver moment block found → items ≡ streams ++ stream ∷ []
    → table items counts ≡ with_new sender receiver moment found (table streams counts)
begins sender receiver moment found extended block info streams items counts stream leads few is grown =
    ap (λ (l : List Stream). table l counts) (grown ∙ ap (λ (s : Stream). streams ++ s ∷ []) is)
    ∙ sym (taken (nat_lt (length streams) 256) (table (streams ++ begun sender receiver moment block found ∷ []) counts) (table streams (with_unlisted counts)) (lt-ltb (length streams) 256 few))
    ∙ ap (λ (k : Kind). with_new_by k sender receiver moment found (table streams counts)) (sym leads)

has_room : (n capacity : ℕ) → n < 256 → 256 ≤ capacity → n < capacity
has_room n capacity few room = omega arith

pub push_reserved-requires : goal.push_reserved-requires
push_reserved-requires c =
    subst (λ (n : ℕ). n < vec_capacity c.self.inside.streams) c.len.ensures (has_room c.len.result (vec_capacity c.self.inside.streams) c.if-len-lt-MOST_STREAMS.true c.self.invariant.0)

pub returns-then-len-lt-MOST_STREAMS : goal.returns-then-len-lt-MOST_STREAMS
returns-then-len-lt-MOST_STREAMS c =
    let few : length c.self.inside.streams.items < 256 = subst (λ (n : ℕ). n < 256) (c.len.ensures ∙ c.self.inside.streams.ok.0) c.if-len-lt-MOST_STREAMS.true in
    rw (← c.self.view_is)
    (begins c.args.sender c.args.receiver c.args.moment c.args.sign c.in-Leader._extended c.in-Leader.block c.in-Leader._info c.self.inside.streams.items c.push_reserved.new.self.items c.self.inside.counts c.begun-stream.result
    c.in-Leader.is few c.begun-stream.ensures c.push_reserved.ensures.items)
