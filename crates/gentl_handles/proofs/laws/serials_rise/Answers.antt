use Rattle.gentl_handles.proofs.Histories.{serials_given_rise}
use Rattle.gentl_handles.proofs.laws.serials_rise.Goals as goal

pub returns : goal.returns
returns c = serials_given_rise
