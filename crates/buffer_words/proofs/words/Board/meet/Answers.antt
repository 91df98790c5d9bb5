use Rattle.std.proofs.Common.{rules}
use Rattle.buffer_words.proofs.Parts.{has_met}
use Rattle.buffer_words.proofs.words.Board.meet.Goals as goal

pub returns-clause-met : goal.returns-clause-met
returns-clause-met c = has_met c.join_seat.new.seat.me c.args.seat.now.me _ c.args.other.me.0 (search rules) (search rules)
