use Rattle.buffer_words.proofs.Holders.{grab_done, grab_refused}
use Rattle.buffer_words.proofs.words.Board.grab_front.Goals as goal

pub returns-then-found-number-clause-done : goal.returns-then-found-number-clause-done
returns-then-found-number-clause-done c =
    grab_done _ _ _ _ _ _ _ _ c.word_of-word.ensures c.if-not-is_held_as.ensures c.seek-number.ensures.found c.grab_held-found.ensures.done c.if-found-number.true

pub returns-else-found-number-clause-refused : goal.returns-else-found-number-clause-refused
returns-else-found-number-clause-refused c =
    grab_refused _ _ _ _ _ _ _ _ _ c.word_of-word.ensures c.word_of.ensures c.if-not-is_held_as.ensures c.seek-number.ensures.found c.grab_held-found.ensures.refused c.if-found-number.false
