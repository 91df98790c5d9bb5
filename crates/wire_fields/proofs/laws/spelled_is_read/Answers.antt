use Rattle.wire_fields.proofs.Spellings.{read_again}
use Rattle.wire_fields.proofs.laws.spelled_is_read.Goals as goal

pub returns : goal.returns
returns c = read_again
