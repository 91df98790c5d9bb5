use Rattle.buffer_words.proofs.Lending.{loans_stay}
use Rattle.buffer_words.proofs.laws.loans_stay.Goals as goal

pub returns : goal.returns
returns c = loans_stay
