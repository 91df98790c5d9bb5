use Rattle.gvsp_std.proofs.Spelled.{narrowed_standard}
use Rattle.gvsp_std.proofs.laws.narrowed_is_standard.Goals as goal

pub returns : goal.returns
returns c = narrowed_standard
