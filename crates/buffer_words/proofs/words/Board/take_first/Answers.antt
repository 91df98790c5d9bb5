use Rattle.std.proofs.Common.{rules}
use Rattle.buffer_words.proofs.Takings.{takes_out}
use Rattle.buffer_words.proofs.words.Board.take_first.Goals as goal

pub compare_exchange-requires : goal.compare_exchange-requires
compare_exchange-requires c = (c.requires.table, search rules, takes_out _ _ _ _ c.requires.idle c.requires.some c.requires.open)
