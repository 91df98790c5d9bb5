use Rattle.std.proofs.Common.{rules, arith, subst, ℕ}
use Rattle.buffer_words.specs.Plays.{HoldsBuffer}
use Rattle.buffer_words.specs.Output.{HasLast}
use Rattle.buffer_words.proofs.Fillings.{fills}
use Rattle.buffer_words.proofs.words.Board.put_last.Goals as goal

pub compare_exchange-requires : goal.compare_exchange-requires
compare_exchange-requires g c = (
  c.requires.table,
  search rules,
  fills _ _ _ _ _ _ c.requires.idle (subst (λ (i : ℕ). HoldsBuffer c.args.seat.now.me i) c.requires.asked c.requires.holds)
      (omega (arith, c.requires.room)) (subst (λ (i : ℕ). HasLast c.args.number i c.with_last.result) c.requires.asked c.with_last.ensures.last),
)
