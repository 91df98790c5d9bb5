use Rattle.gev_program.proofs.Backs.{three_back, raises_all}
use Rattle.gev_program.proofs.returning.give_links.Goals as goal

pub returns-clause-links : goal.returns-clause-links
returns-clause-links g c = three_back _ _ _ _ _ _ _ c.unbind.ensures.links c.unbind-2.ensures.links c.unbind-3.ensures.links

pub returns-clause-faults : goal.returns-clause-faults
returns-clause-faults g c =
    raises_all _ _ _ _ _ _ _ c.unbind.ensures.faults c.unbind.ensures.never_falls c.unbind-2.ensures.faults c.unbind-2.ensures.never_falls c.unbind-3.ensures.faults c.unbind-3.ensures.never_falls
