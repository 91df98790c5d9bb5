use Rattle.gev_lanes.specs.Sides.{AreReadersOf, AreKept}
use Rattle.live_tests.proofs.rounds.hear_many.Given as goal

abbrev pub invariant-moments : goal.invariant-moments
invariant-moments g l = record { readers : AreReadersOf l.lanes l.reader; kept : AreKept l.reader }
