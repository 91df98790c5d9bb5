use Rattle.std.proofs.Common.{subst}
use Rattle.gentl_types.specs.declared.word.Word.{Word}
use Rattle.board_machine.specs.Machine.{CanEnrol}
use Rattle.buffer_words.proofs.Holders.{enrol_done, enrol_lost}
use Rattle.buffer_words.proofs.words.Board.try_occupy.Goals as goal

pub returns-then-found-number-clause-done : goal.returns-then-found-number-clause-done
returns-then-found-number-clause-done c =
    enrol_done _ _ _ _ _ _ _ _ c.word_of-word.ensures c.if-not-can_enrol.ensures c.seek_vacancy-number.ensures.found c.enrol_vacant-found.ensures.done c.if-found-number.true

pub returns-else-found-number-clause-lost : goal.returns-else-found-number-clause-lost
returns-else-found-number-clause-lost c =
    enrol_lost _ _ _ _ _ _ _ c.word_of-word.ensures c.if-not-can_enrol.ensures
    (c.seek_vacancy-number.ensures.found (subst (λ (w : Word). CanEnrol w) c.word_of-word.ensures c.if-not-can_enrol.ensures))
    (c.enrol_vacant-found.ensures.lost c.if-found-number.false) c.if-found-number.false
