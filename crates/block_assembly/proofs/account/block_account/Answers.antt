use Rattle.std.proofs.Common.{sym, ◌∙◌}
use Rattle.block_assembly.proofs.Intact.{whole_account}
use Rattle.block_assembly.proofs.account.block_account.Goals as goal

pub returns-then-completes : goal.returns-then-completes
returns-then-completes c ks s =
    whole_account c.args.cause c.args.assembly.now ks c.none_lost.result c.none.result s c.none_lost.ensures c.none.ensures (sym (c.completes.ensures ks s) ∙ c.if-completes.true)
