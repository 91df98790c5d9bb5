use Rattle.std.proofs.Common.{drop}
use Rattle.gev_record.proofs.Taking.{IsFreeing}
use Rattle.gev_record.proofs.used.Used.free_all.Given as goal

abbrev pub invariant-loop-place : goal.invariant-loop-place
invariant-loop-place l = IsFreeing l.places (drop l.place-index l.places) l.fn.self l.used
