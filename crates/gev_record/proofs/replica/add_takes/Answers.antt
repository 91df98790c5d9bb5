use Rattle.gev_record.proofs.Taking.{takes_of_each}
use Rattle.gev_record.proofs.replica.add_takes.Goals as goal

pub returns-clause-said : goal.returns-clause-said
returns-clause-said c = takes_of_each c.args.back.now c.args.text.now.items c.add_takes.new.out.items c.in_ok-add_takes.ensures
