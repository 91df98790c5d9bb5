use Rattle.buffer_words.proofs.words.Board.grab_front.Given as goal

abbrev pub ghosts-seek : goal.ghosts-seek
ghosts-seek a = record { number = a.generation }
