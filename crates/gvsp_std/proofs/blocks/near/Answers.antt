-- A block is near up to the definitions' reach.
use Rattle.std.proofs.Common.{◌≡◌, ℕ, ◌+◌, ◌≤◌, Some, refl, subst}
use Rattle.std.proofs.lemmas.Bool.{le-leb}
use Rattle.gvsp_std.specs.Blocks.{ahead, near, reach}
use Rattle.gvsp_std.proofs.blocks.near.Goals as goal

in_reach : (top s gap : ℕ) → gap ≡ ahead top s → gap ≤ reach → Some (top + gap) ≡ near top s
in_reach top s gap is l = rw (is, le-leb (ahead top s) reach (subst (λ (n : ℕ). n ≤ reach) is l)) refl

pub returns-then-ahead-le-REACH : goal.returns-then-ahead-le-REACH
returns-then-ahead-le-REACH c = in_reach c.args.top c.args.id c.ahead-ahead.result c.ahead-ahead.ensures c.if-ahead-le-REACH.true
