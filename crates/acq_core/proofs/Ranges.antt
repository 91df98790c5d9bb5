-- What two bitmaps tell of the missing ranges.
use Rattle.std.proofs.Common.{◌≡◌, ℕ, ◌+◌, ◌<◌, List, take, Bool, refl, ap, ◌∙◌, arith}
use Rattle.std.specs.Prelude.{◌||◌, Some}
use Rattle.stream_packets.specs.Packets.{StreamPacket}
use Rattle.block_image.specs.Kept.{kept, has_id}
use Rattle.missing_ranges.specs.Ranges.{holes}
use Rattle.missing_ranges.proofs.HoleLemmas.{holes_ask_within}
use Rattle.missing_ranges.specs.Missing.{has_gone, is_settled, top_of, missing_to, missing}
use Rattle.packet_bitmap.specs.Bits.{has}
use Rattle.acq_core.specs.Either.{in_either}
use Rattle.block_assembly.specs.PacketIds.{packet_ids}

both_same : (a b c d : Bool) → a ≡ c → b ≡ d → (a || b) ≡ (c || d)
both_same a b c d e f = rw (e, f) refl

-- the holes of both bitmaps together are the missing ranges
pub missing_is : (p b top : ℕ) (heard : List StreamPacket) (kept_ids refused_ids : List Bool) → Some top ≡ top_of p (kept p b heard) → ((id : ℕ) → has kept_ids id ≡ has_id id (kept p b heard)) → ((id : ℕ) → id < packet_ids → has refused_ids id ≡ has_gone id heard) → top < packet_ids → take 8 (holes (in_either kept_ids refused_ids) 0 (top + 1)) ≡ take 8 (missing p b heard)
missing_is p b top heard kept_ids refused_ids is kept_is gone_is within =
    let same : holes (in_either kept_ids refused_ids) 0 (top + 1) ≡ holes (is_settled p b heard) 0 (top + 1) =
    holes_ask_within (in_either kept_ids refused_ids) (is_settled p b heard) 0 (top + 1)
    (λ k low high.
    let few : k < packet_ids = omega arith in
    both_same (has kept_ids k) (has refused_ids k) (has_id k (kept p b heard)) (has_gone k heard) (kept_is k) (gone_is k few)) in
    ap (λ l. take 8 l) same ∙ ap (λ o. take 8 (missing_to p b heard o)) is
