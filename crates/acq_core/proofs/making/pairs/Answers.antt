use Rattle.std.proofs.Common.{◌≡◌, ℕ, ◌+◌, ◌<◌, ◌≤◌, sym, ap, subst, ◌∙◌, arith}
use Rattle.std.specs.Vec.{vec_capacity}
use Rattle.acq_core.proofs.Widths.{wide_none, wide_more}
use Rattle.acq_core.proofs.making.pairs.Goals as goal

is_free : (len block window capacity : ℕ) → len ≡ block → block < window → window ≤ capacity → len < capacity
is_free len block window capacity count more room = omega arith

is_over : (len block window : ℕ) → len ≡ block → block ≤ window → window ≤ block → len ≡ window
is_over len block window count most least = omega arith

pub loop-block-init : goal.loop-block-init
loop-block-init c = record {
  count = c.in_ok-spare.ensures.len;
  wide = wide_none c.in_ok-spare.spare.items c.in_ok-spare.ensures.items;
  room = subst (λ n. n ≤ vec_capacity c.in_ok-spare.spare) c.from.ensures c.in_ok-spare.ensures.capacity;
}

pub push_reserved-requires : goal.push_reserved-requires
push_reserved-requires c = is_free _ _ _ _ c.loop-block.invariant.count c.loop-block-test.true c.loop-block.invariant.room

pub loop-block-preserved : goal.loop-block-preserved
loop-block-preserved c = record {
  count = c.push_reserved.ensures.len ∙ ap (λ k. k + 1) c.loop-block.invariant.count;
  wide = wide_more c.loop-block.spare.items c.push_reserved.new.self.items c.in_ok-pair.field-0 c.loop-block.invariant.wide c.in_ok-pair.ensures c.push_reserved.ensures.items;
  room = subst (λ n. c.args.window ≤ n) (sym c.push_reserved.ensures.capacity) c.loop-block.invariant.room;
}

pub returns-clause-count : goal.returns-clause-count
returns-clause-count c = is_over _ _ _ c.loop-block.invariant.count c.loop-block.auto._block-end c.loop-block-test.false
