use Rattle.std.proofs.Common.{◌≡◌, ℕ, ◌+◌, ◌-◌, ◌*◌, ◌<◌, ◌≤◌, true, false, List, ◌++◌, length, drop, ap, subst, ◌∙◌, arith}
use Rattle.std.specs.Prelude.{nat_le}
use Rattle.std.proofs.lemmas.Bool.{eq-eqb, ne_eqb, le-leb, lt-leb}
use Rattle.std.proofs.lemmas.List.{length-take}
use Rattle.std.proofs.lemmas.Nat.{le-div, div_below}
use Rattle.stream_packets.specs.Packets.{payload}
use Rattle.stream_packets.specs.FramePackets.{payload_count}
use Rattle.gvsp_wire.specs.Plain.{plain}
use Rattle.camera_stream.proofs.writing.write_packet.Goals as goal

next_start : (p k : ℕ) → 1 ≤ k → (k - 1) * p + p ≡ k * p
next_start p k one =
    let next : (k - 1) * p + p ≡ (k - 1 + 1) * p = omega arith in
    let same : k - 1 + 1 ≡ k = omega arith in
    next ∙ ap (λ (n : ℕ). n * p) same

is_among : (p len k : ℕ) → 1 ≤ p → 1 ≤ k → (k - 1) * p < len → nat_le k (payload_count p len) ≡ true
is_among p len k some one inside = le-leb k (payload_count p len) (le-div k (len + p - 1) p some (omega (arith, next_start p k one)))

is_past : (p len k : ℕ) → 1 ≤ p → 1 ≤ k → len ≤ (k - 1) * p → nat_le k (payload_count p len) ≡ false
is_past p len k some one past = lt-leb k (payload_count p len) (div_below (len + p - 1) p k some (omega (arith, next_start p k one)))

pub returns-then-head-eq0 : goal.returns-then-head-eq0
returns-then-head-eq0 c = rw (eq-eqb c.args.head.id 0 c.if-head-eq0.true) record {
  written = rw c.leader_info.ensures at c.write_leader.ensures.written;
  len = c.write_leader.ensures.len;
  fits = omega (arith, c.write_leader.ensures.len);
}

pub returns-then-start-pixels : goal.returns-then-start-pixels
returns-then-start-pixels c =
    let past : length c.args.frame.now.pixels ≤ (c.args.head.id - 1) * c.args.payload_size = omega (arith, c.if-start-pixels.true, ap length c.as_slice-pixels.ensures) in
    let behind = is_past c.args.payload_size (length c.args.frame.now.pixels) c.args.head.id c.requires.some (omega arith) past in
    rw (ne_eqb c.args.head.id 0 (λ e. omega arith), behind) record {
      written = c.write_trailer.ensures.written;
      len = c.write_trailer.ensures.len;
      fits = omega (arith, c.write_trailer.ensures.len);
    }

pub returns : goal.returns
returns c =
    let pixels = c.args.frame.now.pixels in
    let start = (c.args.head.id - 1) * c.args.payload_size in
    let spelled = λ (l : List ℕ). plain (payload c.args.head l) in
    let inside : start < length pixels = omega (arith, c.if-start-pixels.false, ap length c.as_slice-pixels.ensures) in
    let part = rw c.as_slice-pixels.ensures at c.part.ensures in
    let among = is_among c.args.payload_size (length pixels) c.args.head.id c.requires.some (omega arith) inside in
    rw (ne_eqb c.args.head.id 0 (λ e. omega arith), among) record {
      written = subst (λ (l : List ℕ). c.write_payload.new.out ≡ spelled l ++ drop (length (spelled l)) c.args.out.now) part c.write_payload.ensures.written;
      len = c.write_payload.ensures.len ∙ ap (λ (l : List ℕ). length (spelled l)) part;
      fits = omega (arith, c.write_payload.ensures.len, ap length part, length-take c.args.payload_size (drop start pixels));
    }
