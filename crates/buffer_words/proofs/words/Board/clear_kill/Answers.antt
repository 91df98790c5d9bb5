use Rattle.std.proofs.Common.{rules}
use Rattle.buffer_words.proofs.Marking.{unposts}
use Rattle.buffer_words.proofs.words.Board.clear_kill.Goals as goal

pub swap-requires : goal.swap-requires
swap-requires c = (c.requires.table, search rules, unposts _ _ _ c.requires.idle)
