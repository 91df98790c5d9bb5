use Rattle.std.proofs.Common.{rules}
use Rattle.gev_receive.proofs.Last.{with_line}
use Rattle.gev_receive.proofs.ending.finish.Goals as goal

pub returns : goal.returns
returns g c = with_line c.args.output c.args.ran.status _ c.args.ran.counts c.with_strangers-last.result c.args.strangers _ _ _ _ (search rules) (search rules) (search rules)
