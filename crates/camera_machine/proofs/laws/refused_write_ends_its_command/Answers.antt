use Rattle.camera_machine.proofs.Passing.{refused_ends}
use Rattle.camera_machine.proofs.laws.refused_write_ends_its_command.Goals as goal

pub returns : goal.returns
returns c = refused_ends
