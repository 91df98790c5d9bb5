use Rattle.buffer_words.proofs.Fields.{reading_first, reading_next}
use Rattle.buffer_words.proofs.steps.output.first_place.Goals as goal

pub overflow_sub-result : goal.overflow_sub-result
overflow_sub-result c = (reading_next _ _ _ (reading_first _ c.requires.fields) c.requires.some).some
