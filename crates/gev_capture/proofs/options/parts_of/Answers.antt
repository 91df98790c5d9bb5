use Rattle.std.proofs.Common.{arith, lit<}
use Rattle.std.proofs.Math.Nat.{one-le-pow}
use Rattle.gev_capture.proofs.options.parts_of.Goals as goal

pub returns-then-r-le19-clause-some : goal.returns-then-r-le19-clause-some
returns-then-r-le19-clause-some c = omega (arith, c.pow.ensures, one-le-pow c.from.result 10 (lit< tt))
