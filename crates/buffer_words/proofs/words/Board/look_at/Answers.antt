use Rattle.std.proofs.Common.{rules}
use Rattle.buffer_words.proofs.Own.{looks}
use Rattle.buffer_words.proofs.words.Board.look_at.Goals as goal

pub load-requires : goal.load-requires
load-requires c = (c.requires.table, search rules, looks _ _ _ _ c.requires.idle (search rules))
