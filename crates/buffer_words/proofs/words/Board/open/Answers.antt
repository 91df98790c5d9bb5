use Rattle.buffer_words.proofs.Opens.{opens}
use Rattle.buffer_words.proofs.words.Board.open.Goals as goal

pub vacant-requires : goal.vacant-requires
vacant-requires c = opens
