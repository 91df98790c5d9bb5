use Rattle.buffer_words.proofs.words.Board.try_occupy.Given as goal

abbrev pub ghosts-seek_vacancy : goal.ghosts-seek_vacancy
ghosts-seek_vacancy a = record { number = a.size }

abbrev pub ghosts-enrol_vacant : goal.ghosts-enrol_vacant
ghosts-enrol_vacant a = record { number = a.size }
