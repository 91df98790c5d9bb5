use Rattle.missing_ranges.proofs.LostLemmas.{lost_ids_have_no_packet}
use Rattle.missing_ranges.proofs.reason_laws.lost_ids_have_no_packet.Goals as goal

pub returns : goal.returns
returns c = lost_ids_have_no_packet
