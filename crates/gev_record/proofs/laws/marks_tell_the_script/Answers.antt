use Rattle.gev_record.proofs.Marking.{marks_tell_the_script}
use Rattle.gev_record.proofs.laws.marks_tell_the_script.Goals as goal

pub returns : goal.returns
returns c = marks_tell_the_script
