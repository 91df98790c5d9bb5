use Rattle.std.proofs.Common.{ℕ, false, refl, subst}
use Rattle.client_machine.specs.Machine.{Client}
use Rattle.gev_control.specs.Sends.{Fails}
use Rattle.gev_control.specs.CarriesOut.{ControlSide}
use Rattle.camera_description.specs.Describing.{found, not_found, Describes, is_fault}
use Rattle.camera_description.specs.Locating.{GivesLocation, FailsAs}
use Rattle.camera_description.proofs.describing.describe.Goals as goal

pub returns-in-Ok-clause-describes : goal.returns-in-Ok-clause-describes
returns-in-Ok-clause-describes g c =
    let m : ControlSide = record {
      heard = g.L.Link.received c.locate-back.result.0;
      sent = g.L.Link.sent c.locate-back.result.0;
      told = g.C.Clock.told c.locate-back.new.clock;
      client = c.locate-back.new.client;
    } in
    let o : ControlSide = record {
      heard = g.L.Link.received c.args.link;
      sent = g.L.Link.sent c.args.link;
      told = g.C.Clock.told c.args.clock.now;
      client = c.with_limit-client.result;
    } in (
      c.copy.new.client,
      subst (λ (x : Client). Describes c.args.camera
          (record { heard = g.L.Link.received c.args.link; sent = g.L.Link.sent c.args.link; told = g.C.Clock.told c.args.clock.now; client = x })
          (record { heard = g.L.Link.received c.copy.result.0; sent = g.L.Link.sent c.copy.result.0; told = g.C.Clock.told c.copy.new.clock; client = c.copy.new.client })
          c.copy.result.1 (g.K.Sink.written c.args.sink.now) (g.K.Sink.written c.copy.new.sink)) c.with_limit-client.ensures.new
          (found m c.in-Ok.location (subst (GivesLocation c.args.camera o m) c.in-Ok.is c.locate-back.ensures.gives) c.copy.ensures.copies),
    )

pub returns-in-Ok-clause-fails : goal.returns-in-Ok-clause-fails
returns-in-Ok-clause-fails g c =
    subst (λ (x : ℕ). Fails false (is_fault c.copy.result.1) x (g.L.Link.faults c.copy.result.0))
    (subst (λ r. FailsAs r (g.L.Link.faults c.args.link) (g.L.Link.faults c.locate-back.result.0)) c.in-Ok.is c.locate-back.ensures.fails) c.copy.ensures.fails

pub returns-in-Ok-clause-steady : goal.returns-in-Ok-clause-steady
returns-in-Ok-clause-steady g c = c.copy.ensures.steady

pub returns-in-Ok-clause-failed : goal.returns-in-Ok-clause-failed
returns-in-Ok-clause-failed g c = c.copy.ensures.failed

pub returns-in-Err-clause-describes : goal.returns-in-Err-clause-describes
returns-in-Err-clause-describes g c =
    let o : ControlSide = record {
      heard = g.L.Link.received c.args.link;
      sent = g.L.Link.sent c.args.link;
      told = g.C.Clock.told c.args.clock.now;
      client = c.with_limit-client.result;
    } in
    let n : ControlSide = record {
      heard = g.L.Link.received c.locate-back.result.0;
      sent = g.L.Link.sent c.locate-back.result.0;
      told = g.C.Clock.told c.locate-back.new.clock;
      client = c.locate-back.new.client;
    } in (
      c.locate-back.new.client,
      subst (λ (x : Client). Describes c.args.camera
          (record { heard = g.L.Link.received c.args.link; sent = g.L.Link.sent c.args.link; told = g.C.Clock.told c.args.clock.now; client = x }) n
          c.in-Err.end (g.K.Sink.written c.args.sink.now) (g.K.Sink.written c.args.sink.now)) c.with_limit-client.ensures.new
          (not_found (subst (GivesLocation c.args.camera o n) c.in-Err.is c.locate-back.ensures.gives) refl),
    )
