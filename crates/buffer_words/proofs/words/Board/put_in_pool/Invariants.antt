use Rattle.buffer_words.proofs.words.Board.put_in_pool.Given as goal

abbrev pub ghosts-pool_as : goal.ghosts-pool_as
ghosts-pool_as a = record { number = a.place }
