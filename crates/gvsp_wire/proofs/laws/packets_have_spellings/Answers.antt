use Rattle.gvsp_wire.proofs.Ranges.{spelling_of}
use Rattle.gvsp_wire.proofs.laws.packets_have_spellings.Goals as goal

pub returns : goal.returns
returns c = spelling_of
