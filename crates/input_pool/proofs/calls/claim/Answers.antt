use Rattle.buffer_words.proofs.Retries.{grows_self, grows_then, grows_then_enters, hands_self, hands_then}
use Rattle.input_pool.proofs.calls.claim.Goals as goal

pub tries-init : goal.tries-init
tries-init g c = (grows_self _, hands_self _)

pub returns-in-Did-clause-entry : goal.returns-in-Did-clause-entry
returns-in-Did-clause-entry g c = grows_then_enters _ _ _ _ c.tries.invariant.0 c.in-Did.ensures.entry

pub tries-preserved : goal.tries-preserved
tries-preserved g c =
    let lost = c.in-Lost.ensures.lost in
    (grows_then _ _ _ c.tries.invariant.0 lost.grows, hands_then _ _ _ c.tries.invariant.1 lost.hands)
