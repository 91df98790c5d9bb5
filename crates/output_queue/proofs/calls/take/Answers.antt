use Rattle.buffer_words.proofs.Retries.{grows_self, grows_then, grows_then_enters, grows_then_take, hands_self, hands_then}
use Rattle.output_queue.proofs.calls.take.Goals as goal

pub tries-init : goal.tries-init
tries-init g c = (grows_self _, hands_self _)

pub returns-in-Did-clause-entry : goal.returns-in-Did-clause-entry
returns-in-Did-clause-entry g c = grows_then_enters _ _ _ _ c.tries.invariant.0 c.in-Did.ensures.entry

pub returns-in-Did-clause-hands : goal.returns-in-Did-clause-hands
returns-in-Did-clause-hands g c = grows_then_take _ _ _ _ c.tries.invariant.0 c.tries.invariant.1 c.in-Did.ensures.entry c.in-Did.ensures.hands

pub tries-preserved : goal.tries-preserved
tries-preserved g c =
    let lost = c.in-Lost.ensures.lost in
    (grows_then _ _ _ c.tries.invariant.0 lost.grows, hands_then _ _ _ c.tries.invariant.1 lost.hands)
