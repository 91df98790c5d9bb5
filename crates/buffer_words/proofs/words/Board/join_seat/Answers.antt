use Rattle.std.proofs.Common.{rules}
use Rattle.buffer_words.proofs.Meets.{meets}
use Rattle.buffer_words.proofs.words.Board.join_seat.Goals as goal

pub join_seat-requires : goal.join_seat-requires
join_seat-requires c = (c.requires.table, c.requires.same, c.requires.no_slots, search rules, meets _ _ _ _ c.requires.idle c.requires.idle_too c.requires.no_hands)
