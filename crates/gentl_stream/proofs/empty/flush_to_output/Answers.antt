use Rattle.gentl_stream.proofs.Emptying.{empties, flushes_to_output}
use Rattle.gentl_stream.proofs.Giving.{gave_back}
use Rattle.gentl_stream.proofs.empty.flush_to_output.Goals as goal

pub returns-clause-entries : goal.returns-clause-entries
returns-clause-entries g c =
    flushes_to_output _ _ (empties _ _ _ _ _ c.as_slice.ensures.value c.sweep-pooled.ensures.entry c.sweep-pooled.ensures.hands c.fill_each.ensures.entries)

pub returns-clause-fills : goal.returns-clause-fills
returns-clause-fills g c = empties _ _ _ _ _ c.as_slice.ensures.value c.sweep-pooled.ensures.entry c.sweep-pooled.ensures.hands c.fill_each.ensures.entries

pub returns-clause-hands : goal.returns-clause-hands
returns-clause-hands g c = gave_back _ _ _ _ _ c.as_slice.ensures.value c.sweep-pooled.ensures.hands c.fill_each.ensures.hands
