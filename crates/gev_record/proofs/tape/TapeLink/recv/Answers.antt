use Rattle.std.proofs.Common.{arith, ap}
use Rattle.gev_record.specs.Taped.{TapeState}
use Rattle.gev_record.proofs.Front.{front_told}
use Rattle.gev_record.proofs.tape.TapeLink.recv.Goals as goal

pub returns-in-Ok-Some-clause-received : goal.returns-in-Ok-Some-clause-received
returns-in-Ok-Some-clause-received g c =
    let few = rw c.in-Ok-Some.field-0-is at c.in-Ok-Some.ensures.count in
    let kept = c.recv_front.auto.out in
    front_told _ _ _ c.in-Ok-Some.len _ _ c.in-Ok-Some.peer (ap (λ (t : TapeState _). g.L.Link.received t.inner) c.self.view_is) (omega (arith, few, kept)) (rw c.in-Ok-Some.field-0-is at c.in-Ok-Some.ensures.received)
