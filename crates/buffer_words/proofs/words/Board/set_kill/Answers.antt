use Rattle.std.proofs.Common.{rules}
use Rattle.buffer_words.proofs.Marking.{posts}
use Rattle.buffer_words.proofs.words.Board.set_kill.Goals as goal

pub swap-requires : goal.swap-requires
swap-requires c = (c.requires.table, search rules, posts _ _ _ c.requires.idle)
