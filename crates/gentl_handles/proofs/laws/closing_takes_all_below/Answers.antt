use Rattle.gentl_handles.proofs.Histories.{closes_all}
use Rattle.gentl_handles.proofs.laws.closing_takes_all_below.Goals as goal

pub returns : goal.returns
returns c = closes_all
