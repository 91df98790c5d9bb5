use Rattle.std.proofs.Common.{refl}
use Rattle.block_assembly.proofs.laws.accounts_agree.Goals as goal

pub returns : goal.returns
returns c = λ p b size ks. record { image = refl; complete = refl }
