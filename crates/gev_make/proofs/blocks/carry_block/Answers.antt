use Rattle.std.proofs.Common.{ℕ, ◌≡◌, ap, ◌∙◌, subst}
use Rattle.std.specs.Result.{OnOk}
use Rattle.gev_types.specs.declared.frame.Frame.{Frame}
use Rattle.gev_frames.specs.Frames.{frame_of}
use Rattle.stream_packets.specs.FramePackets.{packets_of}
use Rattle.gev_make.specs.MakeText.{image_shape, payload_size, block_packets}
use Rattle.gev_make.specs.Network.{all_carried}
use Rattle.gev_make.proofs.blocks.carry_block.Goals as goal

pub returns : goal.returns
unfolding block_packets
returns c =
    subst (λ (f : Frame). OnOk c.carry_frame.result (c.carry_frame.new.network ≡ all_carried c.args.network.now (packets_of f payload_size)))
    (c.in_ok-frame.ensures.made ∙ ap (λ (b : ℕ). frame_of c.args.seed b image_shape) c.from.ensures)
    c.carry_frame.ensures
