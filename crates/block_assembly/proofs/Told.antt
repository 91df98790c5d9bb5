-- What is told of a block, part by part.
use Rattle.std.proofs.Common.{◌≡◌, ℕ, List, length, Bool, Option}
use Rattle.stream_packets.specs.Packets.{StreamPacket}
use Rattle.block_image.specs.Image.{is_complete, extent_in}
use Rattle.gev_types.specs.declared.reasons.Reasons.{Reasons}
use Rattle.missing_ranges.specs.Reasons.{reasons}
use Rattle.missing_ranges.specs.Lost.{lost}
use Rattle.block_assembly.specs.declared.progress.Progress.{Progress}
use Rattle.gev_types.specs.declared.block_account.Lost.{Lost}
use Rattle.block_assembly.specs.declared.account.Account.{Account}
use Rattle.block_assembly.specs.Assembly.{IsAssembly, lines_of}
use Rattle.missing_ranges.specs.Accounts.{lost_of}
use Rattle.block_assembly.specs.Accounts.{account_of}
use Rattle.block_assembly.proofs.FewKept.{count_is}

abbrev pub of_parts : Progress → Bool → Reasons → Lost → Option ℕ → Account
of_parts a complete why l lines = record {
  complete = complete;
  kept = a.count;
  why = why;
  lost = l;
  leader = a.leader;
  lines = lines;
}

pub account_is : (a : Progress) (ks : List StreamPacket) (complete : Bool) (why : Reasons) (l : Lost) (lines : Option ℕ) → IsAssembly a ks
    → complete ≡ is_complete a.payload_size a.size ks (extent_in ks) → why ≡ reasons a.payload_size a.size ks → l ≡ lost_of (lost a.payload_size ks) → lines ≡ lines_of a.trailer
    → of_parts a complete why l lines ≡ account_of a.payload_size a.size ks
account_is a ks complete why l lines s is_whole is_why is_lost are_lines =
    let count : a.count ≡ length ks = count_is a.payload_size a.block a.count ks s.are_kept s.count in cc (s.leader, s.lines)
