-- What missing ranges are, in words of their own.
use Rattle.std.specs.Prelude.{◌≡◌, ℕ, ◌+◌, List, [], Some}
use Rattle.stream_packets.specs.Packets.{StreamPacket}
use Rattle.block_image.specs.Kept.{kept}
use Rattle.missing_ranges.specs.RangeLaws.{AreHoles}
use Rattle.missing_ranges.specs.Missing.{is_settled, top_of, missing}

-- Where the last id is known, the missing ranges are all maximal ranges of ids up to it of which the
-- packet neither was kept nor is gone. Where nothing was kept, there are none.
pub record MissingIsMaximal : Type 0 where
  pub up_to_the_top :
      (p b top : ℕ) (heard : List StreamPacket) → top_of p (kept p b heard) ≡ Some top
      → AreHoles (is_settled p b heard) 0 (top + 1) (missing p b heard)
  pub with_nothing : (p b : ℕ) (heard : List StreamPacket) → kept p b heard ≡ [] → missing p b heard ≡ []
