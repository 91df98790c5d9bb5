-- What the code of a world stands for, and what its parts do to it.
use Rattle.std.specs.Prelude.{◌≡◌, ◌≤◌, []}
use Rattle.world_laws.specs.Receiver.{Receiver}
use Rattle.world_machine.specs.State.{Run, World}
use Rattle.world_machine.specs.ClientTurn.{SETUP_SIZE}
use Rattle.gev_world.specs.declared.stage.Stage.{Stage}

-- what the run is asked for
abbrev pub run_of : Stage → Run
run_of s = record { seed = s.seed; frames = s.frames; rates = s.rates; short = s.short }

-- the world with this host
abbrev pub world_of : Stage → Receiver → World Receiver
world_of s host = record {
  moment = s.moment;
  x = s.generator;
  to_camera = s.to_camera;
  to_host = s.to_host;
  camera = s.camera;
  client = s.client;
  host = host;
  begun = s.begun;
  done = s.done;
  made = s.made;
  is_over = s.is_over;
}

-- It does this to the world, whatever the host is.
pub record Does (old : Stage) (act : Run → World Receiver → World Receiver) (new : Stage) : Type 0 where
  pub run : run_of new ≡ run_of old
  pub world : (host : Receiver) → world_of new host ≡ act (run_of old) (world_of old host)

-- Between two rounds no packet waits in the camera, it counts no more frames than were made, and no more
-- commands of the setup were submitted than there are.
pub record IsBetween (s : Stage) : Type 0 where
  pub begun : s.begun ≤ SETUP_SIZE
  pub idle : s.camera.waiting ≡ []
  pub counted : s.camera.shelf.count ≤ s.made
