use Rattle.std.proofs.Common.{refl}
use Rattle.live_recording.proofs.Whole.{recorded}
use Rattle.live_recording.proofs.Steady.{recorded_alone, recorded_steady, recorded_failed, recorded_writes_steady}
use Rattle.live_recording.proofs.recording.record_over.Goals as goal

pub returns-clause-records : goal.returns-clause-records
returns-clause-records g c =
    rw (← c.ends.view_is)
    (recorded _ _ _ c.live_with_journal-lived.result.0 _ _ _ _ _ c.live_with_journal-lived.result.2.items c.as_slice.result.now _ _ _ _ _ refl c.requires.few_turns c.witness-2.ensures.front c.witness-2.ensures.received
    (rw (← c.ends.view_is) at c.live_with_journal-lived.ensures.live) c.witness.ensures.run c.as_slice.ensures.value c.finish-status.ensures)

pub returns-clause-alone : goal.returns-clause-alone
returns-clause-alone g c = recorded_alone _ _ _ _ _ _ _ _ _ _ _ _ (returns-clause-records g c)

pub returns-clause-links_steady : goal.returns-clause-links_steady
returns-clause-links_steady g c = λ ne. recorded_steady _ _ _ _ _ _ _ _ _ _ _ _ (returns-clause-records g c) ne

pub returns-clause-link_fault : goal.returns-clause-link_fault
returns-clause-link_fault g c = λ is. recorded_failed _ _ _ _ _ _ _ _ _ _ _ _ (returns-clause-records g c) is

pub returns-clause-writes_steady : goal.returns-clause-writes_steady
returns-clause-writes_steady g c = λ ne. recorded_writes_steady _ _ _ _ _ _ _ _ _ _ _ _ (returns-clause-records g c) ne
