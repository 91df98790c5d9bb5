use Rattle.std.proofs.Common.{◌≡◌}
use Rattle.stream_packets.specs.FramePackets.{payloads_of}
use Rattle.gev_make.specs.MakeText.{payload_size}
use Rattle.gev_make.specs.Network.{all_carried}
use Rattle.gev_make.proofs.packets.carry_frame.Given as goal

abbrev pub invariant-loop-count : goal.invariant-loop-count
invariant-loop-count l = l.network ≡ all_carried l.initial.network (payloads_of l.frame payload_size l.count)
