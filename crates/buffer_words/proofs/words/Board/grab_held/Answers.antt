use Rattle.std.proofs.Common.{rules}
use Rattle.buffer_words.proofs.Own.{grabs}
use Rattle.buffer_words.proofs.words.Board.grab_held.Goals as goal

pub compare_exchange-requires : goal.compare_exchange-requires
compare_exchange-requires c = (c.requires.table, search rules, grabs _ _ _ _ _ c.requires.idle (search rules) c.requires.is_held c.requires.read)
