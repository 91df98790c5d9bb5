use Rattle.std.proofs.Common.{◌≡◌, ◌-◌}
use Rattle.stream_packets.specs.FramePackets.{payload_start}
use Rattle.block_assembly.proofs.Missed.{short_is}
use Rattle.block_assembly.proofs.account.is_short.Goals as goal

remains : (c : goal.After-are_long) → c.saturating_sub-rest.result ≡ c.args.len - payload_start c.args.assembly.now.payload_size c.args.last
remains c = cc (c.saturating_sub-rest.ensures, c.from.ensures, c.start_of_payload.ensures)

pub returns : goal.returns
returns c ks s = short_is c.args.assembly.now c.args.len c.args.last c.saturating_sub-rest.result c.are_long.result ks s c.requires.last (remains c) c.are_long.ensures
