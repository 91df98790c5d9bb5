-- An image is whole only where the kept trailer comes next.
use Rattle.std.proofs.Common.{◌≡◌, ℕ, ◌+◌, ◌<◌, ◌≤◌, List, Bool, true, false, sym, subst, ◌∙◌}
use Rattle.std.specs.Prelude.{nat_le, ◌&&◌}
use Rattle.std.proofs.lemmas.Bool.{le-leb, lt-leb, true≢false}
use Rattle.stream_packets.specs.Packets.{StreamPacket}
use Rattle.stream_packets.specs.FramePackets.{payload_count}
use Rattle.block_image.specs.Image.{has_image, has_payloads, has_trailer_at}
use Rattle.block_assembly.proofs.completing.has_image.Goals as goal
use Rattle.block_assembly.proofs.completing.has_image.Goals.{then-len-assembly, else-len-assembly}

whole : (p size len last : ℕ) (ks : List StreamPacket) (r : Bool) → last ≡ payload_count p len → len ≤ size → has_trailer_at (last + 1) ks ≡ true → r ≡ has_payloads p len last ks → r ≡ has_image p size len ks
whole p size len last ks r e l trail is =
    subst (λ (n : ℕ). r ≡ (nat_le len size && has_trailer_at (n + 1) ks && has_payloads p len n ks)) e (rw (le-leb len size l, trail) is)

untrailed : (p size len last : ℕ) (ks : List StreamPacket) (v : Bool) → last ≡ payload_count p len → len ≤ size → has_trailer_at (last + 1) ks ≡ false → v ≡ false → v ≡ has_image p size len ks
untrailed p size len last ks v e l trail is =
    subst (λ (n : ℕ). v ≡ (nat_le len size && has_trailer_at (n + 1) ks && has_payloads p len n ks)) e (rw (le-leb len size l, trail) is)

too_long : (p size len : ℕ) (ks : List StreamPacket) (v : Bool) → size < len → v ≡ false → v ≡ has_image p size len ks
too_long p size len ks v l is = rw (lt-leb len size l) is

pub returns-then-is_trailer_id : goal.returns-then-is_trailer_id
returns-then-is_trailer_id c ks s leads =
    elim c.if-len-assembly.branch [
      | then-len-assembly w ↦
          let trail : has_trailer_at (c.last_payload-last.result + 1) ks ≡ true =
          s.trailer (c.last_payload-last.result + 1) ∙ sym w.is_trailer_id.ensures ∙ sym w.value-is ∙ c.if-is_trailer_id.true in
          whole _ _ _ c.last_payload-last.result ks _ c.last_payload-last.ensures.value w.if-len-assembly.true trail (c.has_payloads.ensures ks s leads trail)
      | else-len-assembly w ↦ absurd (true≢false (sym c.if-is_trailer_id.true ∙ w.value-is ∙ lt-leb _ _ w.if-len-assembly.false))
    ]

pub returns-else-is_trailer_id : goal.returns-else-is_trailer_id
returns-else-is_trailer_id c ks s leads =
    elim c.if-len-assembly.branch [
      | then-len-assembly w ↦
          untrailed _ _ _ c.last_payload-last.result ks _ c.last_payload-last.ensures.value w.if-len-assembly.true
          (s.trailer (c.last_payload-last.result + 1) ∙ sym w.is_trailer_id.ensures ∙ sym w.value-is ∙ c.if-is_trailer_id.false) c.if-is_trailer_id.false
      | else-len-assembly w ↦ too_long _ _ _ ks _ w.if-len-assembly.false (w.value-is ∙ lt-leb _ _ w.if-len-assembly.false)
    ]
