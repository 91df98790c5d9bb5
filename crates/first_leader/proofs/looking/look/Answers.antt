-- What no leader was is received and dropped, and a look alone receives nothing.
use Rattle.std.proofs.Common.{List, Option, subst}
use Rattle.gev_links.specs.Links.{Answer}
use Rattle.first_leader.specs.Waiting.{Drops}
use Rattle.first_leader.proofs.looking.look.Goals as goal

pub returns-in-Ok-clause-looks : goal.returns-in-Ok-clause-looks
returns-in-Ok-clause-looks g c =
    subst (λ (old : Option (List Answer)). Drops old (g.L.Link.received c.drop_one.new.stream)) c.peek.ensures.received c.drop_one.ensures.drops
