use Rattle.std.proofs.Common.{refl, ◌∙◌, option_map}
use Rattle.client_machine.specs.Machine.{new_client}
use Rattle.link_filters.specs.Strangers.{all_from}
use Rattle.camera_description.specs.Describing.{SEND_LIMIT, described}
use Rattle.camera_description.proofs.Pieces.{blank_from, told_back}
use Rattle.camera_description.proofs.describing.fetch.Goals as goal

pub returns-clause-fetches : goal.returns-clause-fetches
returns-clause-fetches g c =
    described c.describe_from-back.result.0 c.describe_from-back.new.clock
    (told_back _ _ _ _ _ (c.clock-clock.ensures.links ∙ c.bind_towards.ensures.links) c.unbind.ensures.links c.unclock.ensures.links)
    (told_back _ _ _ _ _ (c.unbind.ensures.clocks ∙ (c.clock-clock.ensures.clocks ∙ c.bind_towards.ensures.clocks)) c.unclock.ensures.clocks refl)
    (record {
      heard = option_map (all_from c.args.address) (g.P.L.Link.received c.in-Ok.link);
      sent = g.P.L.Link.sent c.in-Ok.link;
      told = g.P.C.Clock.told c.clock-clock.result;
      client = new_client SEND_LIMIT;
    })
    c.describe_from-back.ensures.describes.0
    (record {
      heard = blank_from c.args.address (g.P.L.Link.received c.in-Ok.link) c.in-Ok.ensures.unheard;
      sent = c.in-Ok.ensures.unsent;
      told = c.clock-clock.ensures.untold;
      client = refl;
    })
    c.describe_from-back.ensures.describes.1
