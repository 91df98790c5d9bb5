use Rattle.std.proofs.Common.{◌≡◌, ◌+◌, length}
use Rattle.gev_lanes.proofs.making.put_cells.Given as goal

abbrev pub invariant-cells : goal.invariant-cells
invariant-cells l = record { line : l.start.line ≡ l.fn.start.line; number : length l.start.given ≡ length l.fn.start.given + l._cell }
