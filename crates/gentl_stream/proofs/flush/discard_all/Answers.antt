use Rattle.gentl_stream.proofs.Sweeping.{discards_all}
use Rattle.gentl_stream.proofs.Giving.{gave_both_back}
use Rattle.gentl_stream.proofs.flush.discard_all.Goals as goal

pub returns-clause-entries : goal.returns-clause-entries
returns-clause-entries c =
    discards_all _ _ _ _ _ _ _ _ _ c.as_slice.ensures.value c.as_slice-2.ensures.value
    c.sweep-pooled.ensures.entry c.sweep-output.ensures.entry
    c.lay_each.ensures.entries c.lay_each-2.ensures.entries

pub returns-clause-hands : goal.returns-clause-hands
returns-clause-hands c =
    gave_both_back _ _ _ _ _ _ _ _ _ c.as_slice.ensures.value c.as_slice-2.ensures.value
    c.sweep-pooled.ensures.hands c.sweep-output.ensures.hands
    c.lay_each.ensures.hands c.lay_each-2.ensures.hands
