use Rattle.std.proofs.Common.{rules}
use Rattle.buffer_words.proofs.Meets.{ends_at}
use Rattle.buffer_words.proofs.Parts.{has_ended}
use Rattle.buffer_words.proofs.words.Board.finish.Goals as goal

pub load-requires : goal.load-requires
load-requires c = (c.requires.table, search rules, ends_at _ _ _ c.requires.joining.stays c.requires.joining.other c.requires.joining.slots c.requires.joining.is)

pub returns : goal.returns
returns c = record { table = c.load.ensures.0; met = λ stays other is. has_ended _ stays _ other c.load.ensures.2 is }
