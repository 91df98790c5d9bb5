use Rattle.packet_requests.proofs.Numbered.{has_the_bit}
use Rattle.packet_requests.proofs.laws.numbers_have_the_bit.Goals as goal

pub returns : goal.returns
returns c = has_the_bit
