use Rattle.std.proofs.Common.{rules, ◌∙◌, ◌≡◌, ap, subst, sym, ◌^◌, ◌<◌, ℕ}
use Rattle.std.specs.Int.{bit_at}
use Rattle.buffer_words.proofs.Bits.{bit_small}
use Rattle.buffer_words.proofs.Pools.{claims}
use Rattle.buffer_words.proofs.words.Board.claim_pooled.Goals as goal

pub compare_exchange-requires : goal.compare_exchange-requires
compare_exchange-requires g c = (
  c.requires.table,
  search rules,
  claims _ _ _ _ _ _ c.requires.idle
      (c.bit_of.ensures ∙ ap (λ (i : ℕ). 2 ^ i) c.requires.asked) (subst (λ (n : ℕ). n < 2 ^ 15) (sym c.bit_of.ensures) (bit_small _ c.requires.in_range))
      (subst (λ (i : ℕ). bit_at c.args.number i ≡ 1) c.requires.asked c.requires.lowest)
      (subst (λ (i : ℕ). (j : ℕ) → j < i → bit_at c.args.number j ≡ 0) c.requires.asked c.requires.none_below),
)
