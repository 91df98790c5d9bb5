use Rattle.block_assembly.proofs.Losses.{more_told, full_told}
use Rattle.block_assembly.proofs.lost.add.Goals as goal
use Rattle.block_assembly.proofs.lost.add.Goals.{then-lost-lt8, else-lost-lt8}

pub returns : goal.returns
returns c rs is =
    elim c.if-lost-lt8.branch [
      | then-lost-lt8 w ↦ more_told c.args.lost.now c.if-lost-lt8.lost rs c.args.range is w.lost-is w.if-lost-lt8.true
      | else-lost-lt8 w ↦ full_told c.args.lost.now c.if-lost-lt8.lost rs c.args.range is w.lost-is w.if-lost-lt8.false
    ]
