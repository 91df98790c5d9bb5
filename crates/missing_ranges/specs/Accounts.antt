-- What becomes of a block that retires with a buffer: its account, and the image that has it in its record.
use Rattle.std.specs.Prelude.{ℕ, ◌-◌, List, ◌++◌, take, length, replicate, Some}
use Rattle.gev_types.specs.declared.block_account.BlockAccount.{BlockAccount}
use Rattle.gev_types.specs.declared.block_account.Cause.{Cause}
use Rattle.gev_types.specs.declared.block_account.Lost.{Lost}
use Rattle.gev_types.specs.declared.block_record.Record.{Record}
use Rattle.gev_types.specs.Filling.{Filling}
use Rattle.stream_packets.specs.Packets.{StreamPacket}
use Rattle.block_image.specs.Kept.{kept}
use Rattle.block_image.specs.Image.{image, record_of}
use Rattle.missing_ranges.specs.Lost.{lost, ids_in}
use Rattle.missing_ranges.specs.Reasons.{reasons}

-- the first eight of these ranges, and (0, 0) where there are fewer
abbrev pub first_eight : List (ℕ × ℕ) → List (ℕ × ℕ)
first_eight rs = take 8 rs ++ replicate (8 - length rs) (0, 0)

-- how many ids these ranges have, how many ranges there are, and the first eight
abbrev pub lost_of : List (ℕ × ℕ) → Lost
lost_of rs = record { ids = ids_in rs; ranges = length rs; first = first_eight rs }

-- The account of a block with these kept packets, with payloads of p bytes at most, that retired with a buffer of
-- this size.
abbrev pub block_account : Cause → ℕ → ℕ → List StreamPacket → BlockAccount
block_account cause p size ks = record { cause = cause; lost = lost_of (lost p ks); why = reasons p size ks }

-- The record of block b, read over its kept packets, with the account.
abbrev pub retired_record : Cause → ℕ → ℕ → ℕ → List StreamPacket → Record
retired_record cause p b size ks = record (record_of p b size ks) { account = Some (block_account cause p size ks) }

-- What these packets, in order of arrival, give of block b as it retires: the block image, with the account in its
-- record.
abbrev pub retired_image : Cause → ℕ → ℕ → ℕ → List StreamPacket → Filling
retired_image cause p b size packets = record { bytes = (image p b size packets).bytes; rec = retired_record cause p b size (kept p b packets) }
