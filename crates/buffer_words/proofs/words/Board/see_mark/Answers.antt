use Rattle.std.proofs.Common.{rules, subst, ℕ}
use Rattle.buffer_words.specs.Plays.{HoldsBuffer}
use Rattle.buffer_words.proofs.Fillings.{sees_mark}
use Rattle.buffer_words.proofs.words.Board.see_mark.Goals as goal

pub load-requires : goal.load-requires
load-requires g c = (
  c.requires.table,
  search rules,
  sees_mark _ _ _ _ c.requires.idle (subst (λ (i : ℕ). HoldsBuffer c.args.seat.now.me i) c.requires.asked c.requires.holds),
)
