-- What came back tells of the run, and links that failed go back with their counts.
use Rattle.std.proofs.Common.{arith}
use Rattle.gev_program.proofs.Counted.{one_rose}
use Rattle.gev_program.proofs.Recorded.{recorded_over, record_ends, record_understood}
use Rattle.gev_program.proofs.recording.record_on.Goals as goal

pub returns-in-Ok-clause-recorded : goal.returns-in-Ok-clause-recorded
returns-in-Ok-clause-recorded g c =
    recorded_over _ _ _ _ _ _ _ _ _ _ _ _ _ _ _ _ _ _ _ _ _ _ _ _ _
    c.requires.untold c.requires.within.mode (rw c.give_taped.ensures.told at c.record_over-status.ensures.records) c.give_taped.ensures.links c.give_taped.ensures.clocks

pub returns-in-Ok-clause-link_fault : goal.returns-in-Ok-clause-link_fault
returns-in-Ok-clause-link_fault g c =
    λ is.
    c.give_taped.ensures.faults.rises
    (one_rose _ _ _ _ _ _ c.requires.untold.camera.no_fault c.requires.untold.stream.no_fault c.requires.untold.control.no_fault
    ((rw c.give_taped.ensures.told at c.record_over-status.ensures.link_fault) is))

pub returns-in-Ok-clause-links_steady : goal.returns-in-Ok-clause-links_steady
returns-in-Ok-clause-links_steady g c =
    λ other.
    let kept = (rw c.give_taped.ensures.told at c.record_over-status.ensures.links_steady) other in
    c.give_taped.ensures.faults.stays
    (omega (arith, kept.0, kept.1, kept.2, c.requires.untold.camera.no_fault, c.requires.untold.stream.no_fault, c.requires.untold.control.no_fault))

pub returns-in-Ok-clause-understood : goal.returns-in-Ok-clause-understood
returns-in-Ok-clause-understood g c = λ place. record_understood _ _ _ _ _ _ _ _ _ _ _ _ c.record_over-status.ensures.records place

pub returns-in-Ok-clause-complete : goal.returns-in-Ok-clause-complete
returns-in-Ok-clause-complete g c = λ none other. record_ends _ _ _ _ _ _ _ _ _ _ _ _ c.record_over-status.ensures.records none other
