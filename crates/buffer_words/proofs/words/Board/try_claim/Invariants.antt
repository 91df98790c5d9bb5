use Rattle.buffer_words.proofs.words.Board.try_claim.Given as goal

abbrev pub ghosts-claim_pooled : goal.ghosts-claim_pooled
ghosts-claim_pooled a = record { number = a.place }
