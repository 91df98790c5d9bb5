-- What the parts of a round do to a stage.
use Rattle.std.specs.Prelude.{◌≡◌, ◌≤◌, ℕ, Bool, true, false, List, [], length, take, Option, Some, None}
use Rattle.client_machine.specs.declared.outcome.Outcome.{Outcome}
use Rattle.client_machine.specs.Machine.{to_send, taken}
use Rattle.stream_packets.specs.Packets.{StreamPacket}
use Rattle.gvsp_wire.specs.Plain.{plain}
use Rattle.lossy_queue.specs.declared.datagram.Datagram.{Datagram}
use Rattle.lossy_queue.specs.declared.datagram.Channel.TheVariants.{Stream}
use Rattle.camera_machine.specs.Camera.{Camera}
use Rattle.camera_machine.specs.Commands.{commanded}
use Rattle.camera_machine.specs.Stream.{first_waiting, given, all_waiting, emptied}
use Rattle.world_laws.specs.Receiver.{Receiver}
use Rattle.world_machine.specs.State.{Run, World}
use Rattle.world_machine.specs.Queues.{to_host, sent_to_camera, all_to_camera, ack_to_host, packets_to_host}
use Rattle.world_machine.specs.ClientTurn.{client_peer, end_of, client_turn}
use Rattle.world_machine.specs.CameraTurn.{obeys_all}
use Rattle.gev_world.specs.declared.stage.Stage.{Stage}
use Rattle.gev_world.specs.Seen.{run_of, world_of, Does}

-- what the client has to send is on its way
abbrev pub sends_waiting : Run → World Receiver → World Receiver
sends_waiting run w = sent_to_camera run (record w { client = taken w.client }) (to_send w.client.asked)

-- The client's turn was made, and the client was told this.
pub record ClientDoes (old : Stage) (outcome : Outcome) (new : Stage) : Type 0 where
  pub does : Does old (λ run w. (client_turn run w).world) new
  pub told : (host : Receiver) → end_of outcome ≡ (client_turn (run_of old) (world_of old host)).end

-- all packets that wait are on their way
abbrev pub drains : Run → World Receiver → World Receiver
drains run w = packets_to_host run (record w { camera = emptied w.camera }) (all_waiting w.camera.waiting)

-- what the camera makes of a datagram, with its acknowledge on its way
abbrev pub commanded_by : Run → List ℕ → World Receiver → World Receiver
commanded_by run bytes w =
    ack_to_host run (record w { camera = (commanded w.camera client_peer bytes w.moment).camera }) (commanded w.camera client_peer bytes w.moment).ack

-- A packet was given, and is on its way.
pub record CarriesOne (old new : Stage) : Type 0 where
  pub packet : StreamPacket
  pub first : first_waiting old.camera.waiting ≡ Some packet
  pub does : Does old (λ run w. to_host run (record w { camera = given w.camera }) (record { channel = Stream; bytes = plain packet })) new

-- Nothing waits.
pub record CarriesNone (old new : Stage) : Type 0 where
  pub none : old.camera.waiting ≡ []
  pub same : new ≡ old

abbrev pub Carries : Bool → Stage → Stage → Type 0
Carries true old new = CarriesOne old new
Carries false old new = CarriesNone old new

-- From here all that waits leads to the same world as it did at first.
pub record IsOnTheWay (start now : Stage) : Type 0 where
  pub run : run_of now ≡ run_of start
  pub world : (host : Receiver) → drains (run_of now) (world_of now host) ≡ drains (run_of start) (world_of start host)

-- The rest of what arrives at the camera leads to the same world as all of it did at first.
pub record Obeying (start now : Stage) (all rest : List Datagram) : Type 0 where
  pub run : run_of now ≡ run_of start
  pub world : (host : Receiver) → obeys_all (run_of now) (world_of now host) rest ≡ obeys_all (run_of start) (world_of start host) all

-- The rest of what is put into the camera's queue leads to the same world as all of it did at first.
pub record Putting (start now : Stage) (all rest : List (List ℕ)) : Type 0 where
  pub run : run_of now ≡ run_of start
  pub world : (host : Receiver) → all_to_camera (run_of now) (world_of now host) rest ≡ all_to_camera (run_of start) (world_of start host) all
