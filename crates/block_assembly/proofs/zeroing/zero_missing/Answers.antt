use Rattle.std.proofs.Common.{◌+◌, ◌∙◌, arith}
use Rattle.packet_bitmap.specs.Bits.{has}
use Rattle.block_assembly.proofs.Zeros.{zeroes_more}
use Rattle.block_assembly.proofs.zeroing.zero_missing.Goals as goal

pub loop-from-preserved : goal.loop-from-preserved
loop-from-preserved c =
    let old = c.loop-from.invariant in (
      omega arith,
      zeroes_more (has c.args.kept.now) c.args.payload_size c.loop-from.from (c.last_payload-last.result + 1) c.args.buf.now.bytes c.loop-from.buf.bytes c.zero_places.new.buf.bytes
          c.in-Some.range old.0 old.1 c.in-Some.ensures c.zero_places.ensures.bytes,
      c.zero_places.ensures.rec ∙ old.2,
    )
