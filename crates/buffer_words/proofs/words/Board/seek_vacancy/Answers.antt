use Rattle.std.proofs.Common.{rules, arith}
use Rattle.buffer_words.proofs.Own.{vacancies}
use Rattle.buffer_words.proofs.words.Board.seek_vacancy.Goals as goal

pub load-requires : goal.load-requires
load-requires g c = (c.requires.table, search rules, vacancies _ _ _ _ _ c.requires.idle (search rules) (omega (arith, c.requires.asked, c.requires.size.0)) (omega (arith, c.requires.asked, c.requires.size.1)))
