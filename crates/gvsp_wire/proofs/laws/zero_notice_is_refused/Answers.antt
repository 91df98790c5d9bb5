use Rattle.gvsp_wire.proofs.Spellings.{zero_notice_refused}
use Rattle.gvsp_wire.proofs.laws.zero_notice_is_refused.Goals as goal

pub returns : goal.returns
returns c = zero_notice_refused
