use Rattle.std.proofs.Common.{◌≡◌, ◌≤◌, length, vec_capacity}
use Rattle.std.specs.List.{AllByRecursion}
use Rattle.take_lines.proofs.player.new_buffers.Given as goal

abbrev pub invariant-loop : goal.invariant-loop
invariant-loop l = record {
  count : length l.spare.items ≡ l.counter;
  sized : AllByRecursion (λ f. length f.bytes ≡ l.size) l.spare.items;
  room : 4 ≤ vec_capacity l.spare;
}
