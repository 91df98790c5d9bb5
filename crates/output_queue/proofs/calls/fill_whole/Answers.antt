use Rattle.buffer_words.proofs.Retries.{grows_self, grows_then, grows_then_fill, hands_self, hands_then}
use Rattle.output_queue.proofs.calls.fill_whole.Goals as goal

pub returns-in-Did : goal.returns-in-Did
returns-in-Did g c = record { did = grows_then_fill _ _ _ _ _ c.tries.invariant.0 c.tries.invariant.1 c.in-Did.ensures.did }

pub tries-init : goal.tries-init
tries-init g c = (grows_self _, hands_self _)

pub tries-preserved : goal.tries-preserved
tries-preserved g c =
    let lost = c.in-Lost.ensures.lost in
    (grows_then _ _ _ c.tries.invariant.0 lost.grows, hands_then _ _ _ c.tries.invariant.1 lost.hands)
