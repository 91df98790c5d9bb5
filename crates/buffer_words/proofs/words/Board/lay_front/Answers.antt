use Rattle.std.proofs.Common.{rules, arith, ◌∙◌}
use Rattle.buffer_words.proofs.Holders.{lays_read, number_read}
use Rattle.buffer_words.proofs.Grown.{reads_gives}
use Rattle.buffer_words.proofs.words.Board.lay_front.Goals as goal

pub overflow_sub-number : goal.overflow_sub-number
overflow_sub-number c = omega (arith, number_read _ _ _ _ c.read-number.ensures.reads c.requires.holds.in_hand)

pub swap-requires : goal.swap-requires
swap-requires c = (c.read-number.ensures.table ∙ c.requires.table, search rules, lays_read _ _ _ _ _ _ c.requires.holds c.read-number.ensures.reads)

pub returns-clause-lays : goal.returns-clause-lays
returns-clause-lays c = reads_gives _ _ _ _ _ _ c.read-number.ensures.reads c.swap.ensures.2
