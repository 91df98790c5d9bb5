use Rattle.std.proofs.Common.{refl}
use Rattle.wire_fields.specs.Fields.{number_at}
use Rattle.gvsp_std.specs.Widening.{wide_header}
use Rattle.gvsp_std.proofs.laws.standard_is_worked.Goals as goal

pub returns : goal.returns
unfolding number_at wide_header
returns c = record { leaders = refl; payloads = refl; written = refl }
