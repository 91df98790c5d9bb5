use Rattle.std.proofs.Common.{refl, ◌∙◌}
use Rattle.client_machine.specs.Machine.{new_client}
use Rattle.camera_description.specs.Describing.{SEND_LIMIT}
use Rattle.camera_description.proofs.Pieces.{told_back}
use Rattle.camera_registers.specs.Registers.{heard_of, accessed}
use Rattle.camera_registers.proofs.Made.{blank_of}
use Rattle.camera_registers.proofs.registering.register.Goals as goal

pub returns-clause-registers : goal.returns-clause-registers
returns-clause-registers g c =
    accessed c.access_from-back.result.0 c.access_from-back.new.clock
    (told_back _ _ _ _ _ (c.clock-clock.ensures.links ∙ c.bind_towards.ensures.links) c.unbind.ensures.links c.unclock.ensures.links)
    (told_back _ _ _ _ _ (c.unbind.ensures.clocks ∙ (c.clock-clock.ensures.clocks ∙ c.bind_towards.ensures.clocks)) c.unclock.ensures.clocks refl)
    (record {
      heard = heard_of c.args.address (g.P.L.Link.received c.in-Ok.link);
      sent = g.P.L.Link.sent c.in-Ok.link;
      told = g.P.C.Clock.told c.clock-clock.result;
      client = new_client SEND_LIMIT;
    })
    c.access_from-back.ensures.accesses.0
    (record {
      heard = blank_of c.args.address (g.P.L.Link.received c.in-Ok.link) c.in-Ok.ensures.unheard;
      sent = c.in-Ok.ensures.unsent;
      told = c.clock-clock.ensures.untold;
      client = refl;
    })
    c.access_from-back.ensures.accesses.1
