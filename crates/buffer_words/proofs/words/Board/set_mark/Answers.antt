use Rattle.std.proofs.Common.{rules, refl}
use Rattle.buffer_words.proofs.Outs.{closes}
use Rattle.buffer_words.proofs.words.Board.set_mark.Goals as goal

pub fetch_or-requires : goal.fetch_or-requires
fetch_or-requires c = (c.requires.table, search rules, closes _ _ _ _ c.requires.idle refl)
