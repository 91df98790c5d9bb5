use Rattle.gentl_stream.proofs.Sweeping.{discards_output}
use Rattle.gentl_stream.proofs.Giving.{gave_back}
use Rattle.gentl_stream.proofs.flush.discard_output.Goals as goal

pub returns-clause-entries : goal.returns-clause-entries
returns-clause-entries c = discards_output _ _ _ _ _ c.as_slice.ensures.value c.sweep-output.ensures.entry c.lay_each.ensures.entries

pub returns-clause-hands : goal.returns-clause-hands
returns-clause-hands c = gave_back _ _ _ _ _ c.as_slice.ensures.value c.sweep-output.ensures.hands c.lay_each.ensures.hands
