-- The pass was joined.
use Rattle.live_crew.proofs.running.take_back.Goals as goal

pub returns-clause-joins : goal.returns-clause-joins
returns-clause-joins c = assumption
