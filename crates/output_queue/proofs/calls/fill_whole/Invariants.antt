use Rattle.buffer_words.specs.Passes.{GrowsTo, SameHands}
use Rattle.output_queue.proofs.calls.fill_whole.Given as goal

abbrev pub invariant-tries : goal.invariant-tries
invariant-tries g l = GrowsTo l.fn.pass l.pass × SameHands l.fn.pass l.pass
