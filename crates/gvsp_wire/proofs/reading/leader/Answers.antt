-- That a leader ends too early is told only where its id is 0.
use Rattle.std.proofs.Common.{◌≡◌, ℕ, ◌<◌, List, length, Err, refl}
use Rattle.std.proofs.lemmas.Bool.{lt-ltb, eq-eqb}
use Rattle.stream_packets.specs.declared.fields.Head.{Head}
use Rattle.gvsp_wire.specs.declared.wire_error.WireError.{WireError}
use Rattle.gvsp_wire.specs.declared.wire_error.WireError.TheVariants.{Short}
use Rattle.gvsp_wire.specs.Reading.{leader_of}
use Rattle.gvsp_wire.proofs.reading.leader.Goals as goal

leader_short : (h : Head) (bytes : List ℕ) (e : WireError) → h.id ≡ 0 → length bytes < 56 → e ≡ Short (length bytes) → Err e ≡ leader_of h bytes
unfolding leader_of
leader_short h bytes e id l is = rw (is, eq-eqb h.id 0 id, lt-ltb (length bytes) 56 l) refl

pub returns-then-bytes-lt-LEADER_SIZE : goal.returns-then-bytes-lt-LEADER_SIZE
returns-then-bytes-lt-LEADER_SIZE c = leader_short c.args.head c.args.bytes.now _ (cc) c.if-bytes-lt-LEADER_SIZE.true c.short.ensures
