use Rattle.std.proofs.Common.{Option, Ok, subst}
use Rattle.camera_description.specs.declared.location.Location.{Location}
use Rattle.gev_control.specs.CarriesOut.{ControlSide}
use Rattle.camera_description.specs.Url.{FIRST_URL}
use Rattle.camera_description.specs.Locating.{GivesUrl}
use Rattle.camera_description.proofs.Pieces.{gives_then}
use Rattle.camera_description.proofs.locating.locate.Goals as goal

pub returns-in-None-clause-gives : goal.returns-in-None-clause-gives
returns-in-None-clause-gives g c =
    let o : ControlSide = record { heard = g.L.Link.received c.args.link; sent = g.L.Link.sent c.args.link; told = g.C.Clock.told c.args.clock.now; client = c.args.client.now } in
    let m : ControlSide = record {
      heard = g.L.Link.received c.read_url-back.result.0;
      sent = g.L.Link.sent c.read_url-back.result.0;
      told = g.C.Clock.told c.read_url-back.new.clock;
      client = c.read_url-back.new.client;
    } in
    gives_then c.args.camera o m
    (record {
      heard = g.L.Link.received c.locate_second.result.0;
      sent = g.L.Link.sent c.locate_second.result.0;
      told = g.C.Clock.told c.locate_second.new.clock;
      client = c.locate_second.new.client;
    })
    c.locate_second.result.1
    (subst (λ (f : Option Location). GivesUrl c.args.camera o FIRST_URL m (Ok f)) c.in-None.is
    (subst (GivesUrl c.args.camera o FIRST_URL m) c.in-Ok.is c.read_url-back.ensures.gives))
    c.locate_second.ensures.gives
