use Rattle.std.proofs.Common.{rules, arith, ℕ, ◌+◌, ◌∙◌, ap}
use Rattle.gentl_types.specs.declared.word.Word.{Word}
use Rattle.buffer_words.specs.Codes.{code}
use Rattle.buffer_words.proofs.Own.{enrols, away_word}
use Rattle.buffer_words.proofs.words.Board.enrol_vacant.Goals as goal

pub compare_exchange-requires : goal.compare_exchange-requires
compare_exchange-requires g c = (
  c.requires.table,
  search rules,
  enrols _ _ _ _ _ _ _ c.requires.idle (search rules)
      (omega (arith, c.requires.asked, c.requires.size.0)) (omega (arith, c.requires.asked, c.requires.size.1)) c.requires.vacant
      (c.number_of-new.ensures ∙ (ap (λ (n : ℕ). code (away_word n (c.word_of.result.generation + 1))) c.requires.asked
      ∙ ap (λ (w : Word). code (away_word g.J.Asked.number (w.generation + 1))) c.word_of.ensures)),
)
