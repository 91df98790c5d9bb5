use Rattle.block_assembly.proofs.Told.{account_is}
use Rattle.block_assembly.proofs.account.account_of.Goals as goal

pub returns : goal.returns
returns c ks s =
    account_is c.args.assembly.now ks c.completes.result c.reasons_in.result c.lost_in.result c.lines_of.result s (c.completes.ensures ks s) (c.reasons_in.ensures ks s) (c.lost_in.ensures ks s) c.lines_of.ensures
