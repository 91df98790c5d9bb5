-- A turn that failed ends the run by a link's fault.
use Rattle.std.proofs.Common.{refl, subst, sym}
use Rattle.camera_serving.specs.declared.ends.TurnsEnd.{TurnsEnd}
use Rattle.camera_serving.specs.declared.ends.SimulateEnd.TheVariants.{LinkFault}
use Rattle.camera_serving.specs.Turning.{WroteEnd}
use Rattle.camera_serving.proofs.finishing.finish.Goals as goal

pub returns-in-Fault-clause-wrote : goal.returns-in-Fault-clause-wrote
returns-in-Fault-clause-wrote g c =
    subst (λ (end : TurnsEnd). WroteEnd end LinkFault (g.K.Sink.written c.args.sink.now) (g.K.Sink.written c.args.sink.now)) (sym c.in-Fault.is) refl
