-- How many packet ids a block may have.
use Rattle.std.specs.Prelude.{◌≡◌, ℕ, ◌+◌}
use Rattle.gev_types.specs.Limits.{max_packet_id}
use Rattle.block_assembly.specs.declared.progress.TheConstants.{PACKET_IDS}

-- those from 0 to the highest that fits
abbrev pub packet_ids : ℕ
packet_ids = 131074

-- The constant of the code is this number.
pub record ArePacketIds : Type 0 where
  pub constant : PACKET_IDS ≡ packet_ids
  pub highest : packet_ids ≡ max_packet_id + 1
