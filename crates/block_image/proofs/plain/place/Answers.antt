use Rattle.std.proofs.Common.{arith, ap, ◌∙◌}
use Rattle.gvsp_wire.specs.View.{views}
use Rattle.block_image.proofs.CountLemmas.{placed_count-le}
use Rattle.block_image.proofs.PlainSteps.{bytes_more_some, bytes_more_none, count_more_some, count_more_none, end_more_some, end_more_none}
use Rattle.block_image.proofs.plain.place.Goals as goal
use Rattle.block_image.proofs.plain.place.Goals.{in-Some, in_default}

pub overflow_add-count : goal.overflow_add-count
overflow_add-count c =
    omega (arith, placed_count-le c.args.p (views c.args.kept.now) c.loop-position.position)

pub loop-position-preserved : goal.loop-position-preserved
loop-position-preserved c =
    let p = c.args.p in
    let ks = views c.args.kept.now in
    let i = c.loop-position.position in
    let inv = c.loop-position.invariant in
    elim c.match-byte_at.branch [
      | in-Some w ↦ record {
        bytes = bytes_more_some p ks c.args.size i w.in-Some.byte c.byte_at.result c.loop-position.buf.bytes c.match-byte_at.buf.bytes
            c.loop-position-test.true inv.bytes c.byte_at.ensures w.in-Some.is (ap (λ b. b.bytes) w.buf-is ∙ w.put.ensures.bytes);
        rec = ap (λ b. b.rec) w.buf-is ∙ w.put.ensures.rec ∙ inv.rec;
        count = count_more_some p ks i w.in-Some.byte c.loop-position.count c.match-byte_at.count c.byte_at.result
            c.byte_at.ensures w.in-Some.is inv.count w.count-is;
        end = end_more_some p ks i w.in-Some.byte c.match-byte_at.end c.byte_at.result c.byte_at.ensures w.in-Some.is w.end-is;
      }
      | in_default w ↦ record {
        bytes = ap (λ b. b.bytes) w.buf-is
            ∙ bytes_more_none p ks c.args.size i c.byte_at.result c.loop-position.buf.bytes c.loop-position-test.true inv.bytes
            c.byte_at.ensures w.in_default.is;
        rec = ap (λ b. b.rec) w.buf-is ∙ inv.rec;
        count = w.count-is ∙ count_more_none p ks i c.loop-position.count c.byte_at.result c.byte_at.ensures w.in_default.is inv.count;
        end = w.end-is ∙ end_more_none p ks i c.loop-position.end c.byte_at.result c.byte_at.ensures w.in_default.is inv.end;
      }
    ]
