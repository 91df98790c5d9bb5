use Rattle.std.proofs.Common.{◌≡◌}
use Rattle.buffer_words.proofs.Turns.{ahead_of, Turning}
use Rattle.buffer_words.proofs.pass.bring.Given as goal

abbrev pub invariant-loop-held : goal.invariant-loop-held
invariant-loop-held l = (l.seat.table_id ≡ l.fn.seat.table_id) × (l.seat.me.0 ≡ l.fn.seat.me.0) × Turning l.place l.fn.seat.me.1 l.seat.me.1 l.held.items

abbrev pub decreases-loop-held : goal.decreases-loop-held
decreases-loop-held l = ahead_of l.place l.held.items
