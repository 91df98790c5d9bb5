use Rattle.block_assembly.proofs.Wholes.{top_fits}
use Rattle.block_assembly.proofs.completing.top.Goals as goal

pub returns-in-None-clause-within : goal.returns-in-None-clause-within
returns-in-None-clause-within c ks s = top_fits c.args.assembly.now ks s
