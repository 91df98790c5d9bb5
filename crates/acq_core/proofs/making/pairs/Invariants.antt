use Rattle.std.proofs.Common.{◌≡◌, ◌≤◌}
use Rattle.std.specs.List.{AllByRecursion}
use Rattle.std.specs.Vec.{vec_len, vec_capacity}
use Rattle.acq_core.specs.Standing.{IsWide}
use Rattle.acq_core.proofs.making.pairs.Given as goal

abbrev pub invariant-loop-block : goal.invariant-loop-block
invariant-loop-block l = record {
  count : vec_len l.spare ≡ l._block;
  wide : AllByRecursion IsWide l.spare.items;
  room : l.window ≤ vec_capacity l.spare;
}
