use Rattle.wire_fields.proofs.Spellings.{one_way}
use Rattle.wire_fields.proofs.laws.fields_are_one.Goals as goal

pub returns : goal.returns
returns c = one_way
