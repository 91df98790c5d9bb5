-- Behind a datagram that is heard the widener stands where widening left it.
use Rattle.std.proofs.Common.{ℕ, Option, Ok, sym, ap, ◌∙◌}
use Rattle.gev_links.specs.Links.{Address, answer_of}
use Rattle.link_filters.specs.Wide.{next_top}
use Rattle.link_filters.proofs.widened.hear.Goals as goal

pub returns-in-Some-clause-top : goal.returns-in-Some-clause-top
returns-in-Some-clause-top c =
    c.widen.ensures.top ∙ sym (ap (λ (came : Option (ℕ × Address)). next_top c.args.widener.now (answer_of (Ok came) c.args.own.now)) c.in_ok-count.was)
