-- One more receive, heard or failed.
use Rattle.std.proofs.Common.{Ok, refl, rules, arith}
use Rattle.gev_links.specs.Links.{answer_of, failed}
use Rattle.link_filters.proofs.Growing.{told_on, keeps_wide}
use Rattle.link_filters.proofs.widened.WidenedLink.recv.Goals as goal

pub invariant_of-self : goal.invariant_of-self
invariant_of-self g c =
    keeps_wide g.B.Behind.before c.self.inside.widener c.self.inside.refused _ _ (g.L.Link.received c.self.inside.inner) _
    (answer_of (Ok c.in-Ok.came) c.recv.new.out) c.in-Ok.ensures.received c.self.invariant c.hear.ensures.top c.hear.ensures.refused

pub invariant_of-self-in-Err : goal.invariant_of-self-in-Err
invariant_of-self-in-Err g c =
    keeps_wide g.B.Behind.before c.self.inside.widener c.self.inside.refused _ _ (g.L.Link.received c.self.inside.inner) _ failed
    c.in-Err.ensures.received c.self.invariant refl (omega (arith, c.self.ranges.1.1.0.1))

pub returns-in-Ok-clause-received : goal.returns-in-Ok-clause-received
returns-in-Ok-clause-received g c =
    told_on g.B.Behind.before c.self.inside.widener c.self.inside.refused _ (g.L.Link.received c.self.inside.inner) _
    (answer_of (Ok c.in-Ok.came) c.recv.new.out) _ (search rules) c.in-Ok.ensures.received c.self.invariant c.hear.ensures.heard

pub returns-in-Err-clause-received : goal.returns-in-Err-clause-received
returns-in-Err-clause-received g c =
    told_on g.B.Behind.before c.self.inside.widener c.self.inside.refused _ (g.L.Link.received c.self.inside.inner) _ failed _ (search rules)
    c.in-Err.ensures.received c.self.invariant refl
