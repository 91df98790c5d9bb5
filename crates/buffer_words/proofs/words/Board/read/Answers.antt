use Rattle.std.proofs.Common.{rules}
use Rattle.buffer_words.proofs.Own.{reads}
use Rattle.buffer_words.proofs.words.Board.read.Goals as goal

pub load-requires : goal.load-requires
load-requires c = (c.requires.table, search rules, reads _ _ _ _ c.requires.idle (search rules))
