-- What reasons and lost ranges are, in words of their own.
use Rattle.std.specs.Prelude.{◌≡◌, ◌↔◌, ℕ, ◌+◌, ◌≤◌, ◌&&◌, not, List, [], true, false, Some, None}
use Rattle.stream_packets.specs.Packets.{StreamPacket}
use Rattle.stream_packets.specs.FramePackets.{payload_count}
use Rattle.block_image.specs.Kept.{has_id, kept}
use Rattle.block_image.specs.Image.{image, has_payloads}
use Rattle.missing_ranges.specs.Missing.{top_of}
use Rattle.missing_ranges.specs.RangeLaws.{AreHoles}
use Rattle.gev_types.specs.Reasons.{no_reason, has_reason}
use Rattle.missing_ranges.specs.Reasons.{has_payloads_to, has_short_to, reasons}
use Rattle.missing_ranges.specs.Lost.{lost, ids_in, count_false}

-- The image of a block is whole in its buffer exactly where no reason holds.
pub record ReasonsAreReasons : Type 0 where
  pub none :
      (p b size : ℕ) (heard : List StreamPacket) → 1 ≤ p
      → ((image p b size heard).rec.complete ≡ true) ↔ (reasons p size (kept p b heard) ≡ no_reason)
  pub some :
      (p b size : ℕ) (heard : List StreamPacket) → 1 ≤ p
      → ((image p b size heard).rec.complete ≡ false) ↔ (has_reason (reasons p size (kept p b heard)) ≡ true)

-- The payloads of an image are there, each as long as it has to be, exactly where each was kept and none is short.
abbrev pub ShortOnesSpoil : Type 0
ShortOnesSpoil =
    (p b len : ℕ) (heard : List StreamPacket) → 1 ≤ p
    → has_payloads p len (payload_count p len) (kept p b heard)
    ≡ (has_payloads_to (payload_count p len) (kept p b heard) && not (has_short_to p len (payload_count p len) (kept p b heard)))

-- all lost ranges up to this last id
pub record AreLost (ks : List StreamPacket) (top : ℕ) (rs : List (ℕ × ℕ)) : Type 0 where
  pub holes : AreHoles (λ k. has_id k ks) 0 (top + 1) rs
  pub count : ids_in rs ≡ count_false (λ k. has_id k ks) 0 (top + 1)
  pub none : (ids_in rs ≡ 0) ↔ (rs ≡ [])

-- Where the last id is known, the lost ranges are these. Where nothing was kept, there are none.
pub record LostIdsHaveNoPacket : Type 0 where
  pub up_to_the_top : (p top : ℕ) (ks : List StreamPacket) → top_of p ks ≡ Some top → AreLost ks top (lost p ks)
  pub with_nothing : (p : ℕ) (ks : List StreamPacket) → top_of p ks ≡ None → lost p ks ≡ []
