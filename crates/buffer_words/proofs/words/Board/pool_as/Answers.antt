use Rattle.std.proofs.Common.{rules, ◌∙◌, ap, subst, sym, ◌^◌, ◌<◌, ℕ}
use Rattle.buffer_words.specs.Plays.{HoldsBuffer}
use Rattle.buffer_words.proofs.Bits.{bit_small}
use Rattle.buffer_words.proofs.Pools.{pools}
use Rattle.buffer_words.proofs.words.Board.pool_as.Goals as goal

pub fetch_or-requires : goal.fetch_or-requires
fetch_or-requires g c = (
  c.requires.table,
  search rules,
  pools _ _ _ _ _ c.requires.idle (subst (λ (i : ℕ). HoldsBuffer c.args.seat.now.me i) c.requires.asked c.requires.holds)
      (c.bit_of.ensures ∙ ap (λ (i : ℕ). 2 ^ i) c.requires.asked) (subst (λ (n : ℕ). n < 2 ^ 15) (sym c.bit_of.ensures) (bit_small _ c.requires.in_range)),
)
