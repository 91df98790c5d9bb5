-- What is told of a block that retires with a buffer, beside its image.
use Rattle.std.specs.Prelude.{ℕ, List, length}
use Rattle.stream_packets.specs.Packets.{StreamPacket}
use Rattle.block_image.specs.Image.{is_complete, extent_in, leader_in, lines_in}
use Rattle.missing_ranges.specs.Reasons.{reasons}
use Rattle.missing_ranges.specs.Lost.{lost}
use Rattle.block_assembly.specs.declared.account.Account.{Account}
use Rattle.missing_ranges.specs.Accounts.{lost_of}

-- The account of a block with these kept packets, with payloads of p bytes at most, in a buffer of this size.
abbrev pub account_of : ℕ → ℕ → List StreamPacket → Account
account_of p size ks = record {
  complete = is_complete p size ks (extent_in ks);
  kept = length ks;
  why = reasons p size ks;
  lost = lost_of (lost p ks);
  leader = leader_in ks;
  lines = lines_in ks;
}
