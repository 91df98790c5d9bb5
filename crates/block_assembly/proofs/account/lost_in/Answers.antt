use Rattle.block_assembly.proofs.Losses.{lost_known}
use Rattle.block_assembly.proofs.account.lost_in.Goals as goal

pub returns-in-Some : goal.returns-in-Some
returns-in-Some c ks s =
    lost_known c.args.assembly.now.payload_size c.in-Some.top c.args.assembly.now.kept ks c.lost_to.result (c.in-Some.ensures.value ks s) s.ids c.lost_to.ensures
