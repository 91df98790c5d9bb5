use Rattle.std.proofs.Common.{◌≡◌, ◌-◌, ◌^◌}
use Rattle.board_machine.specs.Machine.{word_at}
use Rattle.board_machine.specs.Histories.{After}
use Rattle.buffer_words.specs.Plays.{HasGrown}
use Rattle.buffer_words.proofs.words.Board.occupy.Given as goal

abbrev pub invariant-tries : goal.invariant-tries
invariant-tries l = (l.seat.table_id ≡ l.fn.seat.table_id) × HasGrown l.fn.seat.me l.seat.me

abbrev pub decreases-tries : goal.decreases-tries
decreases-tries l = 2 ^ 32 - (word_at (After l.seat.me.0.seen) l.place).generation
