use Rattle.std.proofs.Common.{ap, ◌∙◌}
use Rattle.gvsp_wire.specs.View.{views}
use Rattle.block_image.proofs.PlainSteps.{kept_more_taken, kept_more_left}
use Rattle.block_image.proofs.keeping.kept_packets.Goals as goal
use Rattle.block_image.proofs.keeping.kept_packets.Goals.{then-is_kept+in_ok-push, else-is_kept}

pub loop-packet-preserved : goal.loop-packet-preserved
loop-packet-preserved c =
    elim c.if-is_kept.branch [
      | then-is_kept+in_ok-push w ↦
          kept_more_taken c.args.p c.args.block c.args.packets.now c.loop-packet.packet-index _ c.loop-packet.ks.items c.deref.result.now
          c.if-is_kept.ks.items c.is_kept.result c.loop-packet-test.true c.loop-packet.invariant c.deref.ensures.value c.is_kept.ensures
          w.if-is_kept.true (ap (λ ks. ks.items) w.ks-is ∙ w.in_ok-push.ensures.items)
      | else-is_kept w ↦
          ap (λ ks. views ks.items) w.ks-is
          ∙ kept_more_left c.args.p c.args.block c.args.packets.now c.loop-packet.packet-index _ c.loop-packet.ks.items c.deref.result.now
          c.is_kept.result c.loop-packet-test.true c.loop-packet.invariant c.deref.ensures.value c.is_kept.ensures w.if-is_kept.false
    ]
