use Rattle.wire_fields.proofs.InOrder.{fields_read, fields_made}
use Rattle.wire_fields.proofs.laws.fields_are_numbers.Goals as goal

pub returns : goal.returns
returns c place fields rest bytes = (fields_read place fields rest bytes, fields_made place fields rest bytes)
