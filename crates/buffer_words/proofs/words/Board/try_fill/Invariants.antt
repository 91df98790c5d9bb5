use Rattle.buffer_words.proofs.words.Board.try_fill.Given as goal

abbrev pub ghosts-see_mark : goal.ghosts-see_mark
ghosts-see_mark a = record { number = a.place }

abbrev pub ghosts-put_last : goal.ghosts-put_last
ghosts-put_last a = record { number = a.place }
