-- Behind the list one more nothing is told.
use Rattle.std.proofs.Common.{arith}
use Rattle.gev_links.proofs.Receiving.{silence_told}
use Rattle.gev_links.proofs.receptions.Receptions.answer_into.Goals as goal

pub returns-then-place-self-clause-told : goal.returns-then-place-self-clause-told
returns-then-place-self-clause-told c =
    silence_told _ c.self.inside.given.items _ c.self.inside.count c.in-Some.count _ c.self.view_is c.in-Some.is c.self.invariant.counted (omega arith)
    c.one_more-self-inside.ensures.more c.one_more-self-inside.ensures.most
