use Rattle.std.proofs.Common.{rules}
use Rattle.buffer_words.proofs.Marking.{starts}
use Rattle.buffer_words.proofs.words.Board.set_running.Goals as goal

pub swap-run-requires : goal.swap-run-requires
swap-run-requires c = (c.requires.table, search rules, starts _ _ _ c.requires.idle)
