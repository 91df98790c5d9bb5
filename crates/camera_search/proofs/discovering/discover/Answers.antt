use Rattle.std.proofs.Common.{refl, sym, ◌∙◌}
use Rattle.camera_search.specs.Searched.{searched}
use Rattle.camera_search.proofs.Given.{told_back}
use Rattle.camera_search.proofs.discovering.discover.Goals as goal

pub returns-clause-discovers : goal.returns-clause-discovers
returns-clause-discovers g c =
    searched c.search-end.new.link c.search-end.new.clock
    (told_back _ _ _ _ _ (c.clock-clock.ensures.links ∙ c.bind_broadcasting.ensures.links) c.unbind.ensures.links c.unclock.ensures.links)
    (told_back _ _ _ _ _ (c.unbind.ensures.clocks ∙ (c.clock-clock.ensures.clocks ∙ c.bind_broadcasting.ensures.clocks)) c.unclock.ensures.clocks refl)
    (record {
      heard = g.P.L.Link.received c.in-Ok.link;
      sent = g.P.L.Link.sent c.in-Ok.link;
      told = g.P.C.Clock.told c.clock-clock.result;
      written = g.K.Sink.written c.args.sink.now;
    })
    (record { heard = c.in-Ok.ensures.unheard; sent = c.in-Ok.ensures.unsent; told = c.clock-clock.ensures.untold }) refl c.search-end.ensures.searches
