use Rattle.gentl_stream.proofs.Sweeping.{flushes_to_input}
use Rattle.buffer_words.proofs.Retries.{hands_then}
use Rattle.gentl_stream.proofs.Giving.{gave_back}
use Rattle.gentl_stream.proofs.flush.flush_to_input.Goals as goal

pub returns-clause-entries : goal.returns-clause-entries
returns-clause-entries c =
    flushes_to_input _ _ _ _ _ _ c.as_slice.ensures.value c.sweep-output.ensures.entry
    c.pool_each.ensures.entries c.pool_held.ensures.entries

pub returns-clause-hands : goal.returns-clause-hands
returns-clause-hands c =
    hands_then _ _ _ (gave_back _ _ _ _ _ c.as_slice.ensures.value c.sweep-output.ensures.hands c.pool_each.ensures.hands) c.pool_held.ensures.hands
