use Rattle.gvsp_std.proofs.Spelled.{narrowed_widened}
use Rattle.gvsp_std.proofs.laws.narrowed_is_widened.Goals as goal

pub returns : goal.returns
returns c = narrowed_widened 0
