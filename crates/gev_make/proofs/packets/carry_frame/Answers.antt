use Rattle.std.proofs.Common.{ℕ, ◌+◌, List, ◌≡◌, ap, ◌∙◌, subst, arith}
use Rattle.std.proofs.lemmas.Result.{on_ok_weaker}
use Rattle.stream_packets.specs.FramePackets.{payload_bytes, payloads_of}
use Rattle.gev_make.specs.MakeText.{payload_size}
use Rattle.gev_make.specs.Network.{all_carried}
use Rattle.gev_make.proofs.Carrying.{payloads_more, packets_are}
use Rattle.gev_make.proofs.packets.carry_frame.Goals as goal

pub loop-count-preserved : goal.loop-count-preserved
loop-count-preserved c =
    payloads_more c.carry_leader.new.network c.loop-count.network c.carry_payload.new.network c.args.frame.now payload_size c.loop-count.count
    c.payload_at.result.now c.loop-count.invariant c.in_ok-carry_payload.ensures (c.payload_at.ensures.bytes ∙ ap (λ (pixels : List ℕ). payload_bytes payload_size pixels (c.loop-count.count + 1)) c.as_slice.ensures)

pub returns : goal.returns
returns c =
    let all : c.loop-count.count ≡ c.payload_count-payloads.result = omega arith in
    on_ok_weaker c.carry_trailer.result
    (λ last. packets_are c.args.network.now c.carry_leader.new.network c.loop-count.network c.carry_trailer.new.network c.args.frame.now payload_size
    c.payload_count-payloads.result c.in_ok-carry_leader.ensures
    (subst (λ (k : ℕ). c.loop-count.network ≡ all_carried c.carry_leader.new.network (payloads_of c.args.frame.now payload_size k)) all c.loop-count.invariant)
    c.payload_count-payloads.ensures.counted last)
    c.carry_trailer.ensures
