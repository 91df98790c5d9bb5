use Rattle.buffer_words.proofs.Partings.{has_then, stays_enters}
use Rattle.buffer_words.proofs.words.Board.vacate.Goals as goal

pub returns-clause-entry : goal.returns-clause-entry
returns-clause-entry c = stays_enters _ _ _ _ c.lift-buf.ensures.stays c.vacate_lifted.ensures.entry

pub returns-clause-hands : goal.returns-clause-hands
returns-clause-hands c = has_then _ _ _ _ _ _ c.lift-buf.ensures.hands c.vacate_lifted.ensures.hands
