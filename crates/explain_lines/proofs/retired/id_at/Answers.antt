use Rattle.std.proofs.Common.{arith}
use Rattle.explain_lines.proofs.Tapes.{past_id}
use Rattle.explain_lines.proofs.retired.id_at.Goals as goal

pub returns-else-place-lt-PLACES : goal.returns-else-place-lt-PLACES
returns-else-place-lt-PLACES c before marks =
    past_id before c.args.board.now.board c.args.place marks (let wide = c.owned.ensures.counted.wide in let beyond = c.if-place-lt-PLACES.false in omega (arith, wide, beyond))
