use Rattle.std.proofs.Common.{rules}
use Rattle.buffer_words.proofs.Takings.{sees_first}
use Rattle.buffer_words.proofs.words.Board.see_first.Goals as goal

pub load-requires : goal.load-requires
load-requires c = (c.requires.table, search rules, sees_first _ _ _ c.requires.idle)
