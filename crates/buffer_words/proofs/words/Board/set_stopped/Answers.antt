use Rattle.std.proofs.Common.{rules, sym, subst, ℕ, eqb}
use mathlib.Core.Option as opt
use prog.Atomic.{either}
use Rattle.atomic_table.specs.Table.{step, Allows}
use Rattle.buffer_words.specs.Rule.{Kept}
use Rattle.buffer_words.specs.Marks.{stopped}
use Rattle.buffer_words.proofs.Marking.{stops}
use Rattle.buffer_words.proofs.words.Board.set_stopped.Goals as goal

pub compare_exchange-run-requires : goal.compare_exchange-run-requires
compare_exchange-run-requires c = (
  c.requires.table,
  search rules,
  subst
      (λ (new : ℕ). Allows Kept c.args.self.now.table.shared.table_id.slots c.args.seat.now.id c.args.seat.now.me 18 (λ n. either (eqb n 1) new n) (stopped (step c.args.self.now.table.shared.table_id.slots 18 1 new opt.none) c.args.seat.now.me))
      (sym c.run_after_stop-new.ensures)
      (stops _ _ c.args.kill _ c.requires.idle),
)
