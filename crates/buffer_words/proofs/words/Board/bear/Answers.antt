use Rattle.std.proofs.Common.{rules}
use Rattle.buffer_words.proofs.Meets.{bears}
use Rattle.buffer_words.proofs.words.Board.bear.Goals as goal

pub load-requires : goal.load-requires
load-requires c = (c.requires.table, search rules, bears _ _ _ c.requires.idle)

pub returns : goal.returns
returns c = record { table = c.load.ensures.0; bears = record { child = c.load.ensures.2.0; bears = c.load.ensures.2.1 } }
