use Rattle.gev_record.proofs.Telling.{script_tells_the_run}
use Rattle.gev_record.proofs.laws.script_tells_the_run.Goals as goal

pub returns : goal.returns
returns c = script_tells_the_run
