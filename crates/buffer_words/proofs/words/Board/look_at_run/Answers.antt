use Rattle.std.proofs.Common.{rules}
use Rattle.buffer_words.proofs.Marking.{looks_run}
use Rattle.buffer_words.proofs.words.Board.look_at_run.Goals as goal

pub load-requires : goal.load-requires
load-requires c = (c.requires.table, search rules, looks_run _ _ _ c.requires.idle)
