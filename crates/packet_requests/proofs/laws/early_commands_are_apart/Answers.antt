use Rattle.packet_requests.proofs.Apart.{keeps_apart}
use Rattle.packet_requests.proofs.laws.early_commands_are_apart.Goals as goal

pub returns : goal.returns
returns c = keeps_apart
