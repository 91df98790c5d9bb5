use Rattle.world_machine.proofs.Apart.{apart}
use Rattle.world_machine.proofs.session_laws.a_line_is_its_client_and_its_camera.Goals as goal

pub returns : goal.returns
returns c = apart
