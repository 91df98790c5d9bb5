use Rattle.buffer_words.proofs.Fields.{Reading}
use Rattle.buffer_words.proofs.steps.output.places_in.Given as goal

abbrev pub invariant-loop-rest : goal.invariant-loop-rest
invariant-loop-rest l = Reading l.number l.rest l.places.items

abbrev pub decreases-loop-rest : goal.decreases-loop-rest
decreases-loop-rest l = l.rest
