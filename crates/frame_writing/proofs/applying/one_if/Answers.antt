-- A buffer that isn't complete counts for none.
use Rattle.std.proofs.Common.{Bool, ℕ, sym, ap}
use Rattle.std.specs.Prelude.{cond}
use Rattle.frame_writing.proofs.applying.one_if.Goals as goal

pub returns-else-complete : goal.returns-else-complete
returns-else-complete c = sym (ap (λ (b : Bool). let n : ℕ = cond b 1 0 in n) c.if-complete.false)
