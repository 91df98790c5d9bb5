use Rattle.std.proofs.Common.{◌≢◌, ◌<◌, length, arith, get_or-set_other, get_or-set_same, below_more}
use Rattle.std.proofs.Math.ListN.{length-set}
use Rattle.bootstrap_regs.proofs.regs.first_words.Goals as goal

pub loop-i-preserved : goal.loop-i-preserved
loop-i-preserved c = record {
  size = simp length-set c.loop-i.invariant.size;
  first =
      below_more _ _
      (λ k h.
      let ne : k ≢ c.loop-i.i = omega arith in
      rw get_or-set_other (c.loop-i.invariant.first k h))
      (let lt : c.loop-i.i < length c.loop-i.words = omega arith in
      rw get_or-set_same c.initial_at.ensures);
}

pub returns : goal.returns
returns c = record { size = c.loop-i.invariant.size; values = λ i h. c.loop-i.invariant.first i (omega arith) }
