use Rattle.packet_requests.proofs.Asking.{asks_the_same}
use Rattle.packet_requests.proofs.laws.requests_ask_the_same.Goals as goal

pub returns : goal.returns
returns c = asks_the_same
