use Rattle.acquisition_machine.proofs.Agreeing.{runs_agree}
use Rattle.acquisition_machine.proofs.erased_laws.runs_agree.Goals as goal

pub returns : goal.returns
returns c = runs_agree
