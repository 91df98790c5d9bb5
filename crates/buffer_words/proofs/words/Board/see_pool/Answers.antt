use Rattle.std.proofs.Common.{rules}
use Rattle.buffer_words.proofs.Pools.{sees_pool}
use Rattle.buffer_words.proofs.words.Board.see_pool.Goals as goal

pub load-requires : goal.load-requires
load-requires c = (c.requires.table, search rules, sees_pool _ _ _ c.requires.idle)
