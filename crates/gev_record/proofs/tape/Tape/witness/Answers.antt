use Rattle.std.proofs.Common.{subst}
use Rattle.std.specs.List.{AllByRecursion}
use Rattle.gev_record.specs.Marks.{IsReceived}
use Rattle.gev_record.specs.Taped.{TapeState, KeepsFront}
use Rattle.gev_record.proofs.Front.{all_received}
use Rattle.gev_record.proofs.tape.Tape.witness.Goals as goal

pub returns-clause-front : goal.returns-clause-front
returns-clause-front g c = subst (λ (t : TapeState _). KeepsFront t.turns (g.L.Link.received t.inner) t.kept) c.self.view_is c.self.invariant.3

pub returns-clause-received : goal.returns-clause-received
returns-clause-received g c = subst (λ (t : TapeState _). AllByRecursion IsReceived t.kept) c.self.view_is (all_received _ c.self.invariant.2)
