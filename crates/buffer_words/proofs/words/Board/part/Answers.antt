use Rattle.std.proofs.Common.{rules}
use Rattle.buffer_words.proofs.words.Board.part.Goals as goal

pub returns-clause-parts : goal.returns-clause-parts
returns-clause-parts c = c.cut.ensures.parts c.args.seat.now.me (search rules)
