use Rattle.std.proofs.Common.{rules}
use Rattle.buffer_words.proofs.Own.{seeks}
use Rattle.buffer_words.proofs.words.Board.seek.Goals as goal

pub load-requires : goal.load-requires
load-requires g c = (c.requires.table, search rules, seeks _ _ _ _ _ c.requires.idle (search rules))
