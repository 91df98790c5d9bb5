use Rattle.gev_live.proofs.LanesTelling.{so_alone}
use Rattle.gev_live.proofs.LanesSteady.{so_steady, so_failed, so_writes_steady}
use Rattle.gev_live.proofs.live.live_over.Goals as goal

pub returns-clause-alone : goal.returns-clause-alone
returns-clause-alone g c = so_alone _ _ _ _ _ _ _ _ _ _ _ c.run_over.ensures.live

pub returns-clause-links_steady : goal.returns-clause-links_steady
returns-clause-links_steady g c = λ ne. so_steady _ _ _ _ _ _ _ _ _ _ _ c.run_over.ensures.live ne

pub returns-clause-link_fault : goal.returns-clause-link_fault
returns-clause-link_fault g c = λ is. so_failed _ _ _ _ _ _ _ _ _ _ _ c.run_over.ensures.live is

pub returns-clause-writes_steady : goal.returns-clause-writes_steady
returns-clause-writes_steady g c = λ ne. so_writes_steady _ _ _ _ _ _ _ _ _ _ _ c.run_over.ensures.live ne
