-- What the links and the clocks of a live run tell, and the conditions under which its workers begin.
use Rattle.std.specs.Prelude.{◌≡◌, ℕ, ◌≤◌, List, [], Option}
use Rattle.client_machine.specs.Machine.{Client}
use Rattle.acq_core.specs.Receiver.{config_of, buffers, Stands}
use Rattle.acq_core.specs.declared.window.Window.{Window}
use Rattle.acq_core.specs.Waiting.{waiting_fills, waiting_requests}
use Rattle.camera_machine.specs.Camera.{Camera, new_camera}
use Rattle.acquisition_machine.specs.declared.config.AcqConfig.{AcqConfig}
use Rattle.gev_types.specs.declared.frame.Shape.{Shape}
use Rattle.gev_acq.specs.declared.turn.Turn.{Turn}
use Rattle.gev_serve.specs.Wires.{Wire, wire}
use Rattle.gev_links.specs.Links.{Address, Answer}
use Rattle.gev_acq.specs.Turns.{Outside}
use Rattle.gev_acq.specs.declared.acquired.Acquired.{Acquired}
use Rattle.gev_serve.specs.declared.working.CameraDone.{CameraDone}
use Rattle.gev_apply.specs.declared.working.ApplicationDone.{ApplicationDone}

-- how a live run receives: packets of 1500 bytes, two open blocks, 200 and 20 milliseconds, three rounds
abbrev pub live_config : AcqConfig
live_config = record { p = 1452; window = 2; timeout = 200; age = 20; rounds = 3 }

-- images of 640 x 480 pixels of one byte each (Mono8)
abbrev pub live_shape : Shape
live_shape = record { pixel = 17301505; size_x = 640; size_y = 480 }

-- the camera of a live run, which can send the packets of its last four frames again
abbrev pub live_camera : ℕ → Camera
live_camera seed = new_camera seed live_shape 4

-- what the links and the clocks tell
pub record Told : Type 0 where
  pub camera : Wire
  pub stream : Wire
  pub control : Wire
  -- the moments of the camera's clock, of the host's and of the application's
  pub camera_clock : Option (List ℕ)
  pub host_clock : Option (List ℕ)
  pub app_clock : Option (List ℕ)

-- the same of these links and clocks, by what each link was received, sent and failed, and each clock told
abbrev pub told_by : {L S C : Type 0} → (L → Option (List Answer)) → (L → Option (List (Address × List ℕ))) → (L → ℕ) → (S → Option (List Answer)) → (S → Option (List (Address × List ℕ))) → (S → ℕ)
    → (C → Option (List ℕ)) → L → S → L → C → C → C → Told
told_by received sent faults stream_received stream_sent stream_faults told camera stream control camera_clock host_clock app_clock = record {
  camera = wire (received camera) (sent camera) (faults camera);
  stream = wire (stream_received stream) (stream_sent stream) (stream_faults stream);
  control = wire (received control) (sent control) (faults control);
  camera_clock = told camera_clock;
  host_clock = told host_clock;
  app_clock = told app_clock;
}

-- The links and the clocks of a run, and what they tell.
pub record EndsState (L S C : Type 0) : Type 0 where
  pub camera : L
  pub stream : S
  pub control : L
  pub camera_clock : C
  pub host_clock : C
  pub app_clock : C
  pub told : Told

-- what the links and the clocks tell that the workers gave back
abbrev pub told_back : {L S C : Type 0} → (L → Option (List Answer)) → (L → Option (List (Address × List ℕ))) → (L → ℕ) → (S → Option (List Answer)) → (S → Option (List (Address × List ℕ))) → (S → ℕ)
    → (C → Option (List ℕ)) → CameraDone L C → Acquired S L C → ApplicationDone C → Told
told_back received sent faults stream_received stream_sent stream_faults told served acquired applied =
    told_by received sent faults stream_received stream_sent stream_faults told served.link acquired.host.stream acquired.host.control served.clock acquired.host.clock applied.clock

-- what the reader is told, with its client
abbrev pub reader_side : Told → Client → Outside
reader_side t client = record { received = t.stream.received; heard = t.control.received; sent = t.control.sent; told = t.host_clock; client = client }

-- A receiver that took nothing yet.
pub record IsNewReceiver (receiver : Window) : Type 0 where
  pub config : config_of receiver ≡ live_config
  pub stands : Stands receiver []
  pub fills : waiting_fills receiver ≡ []
  pub requests : waiting_requests receiver ≡ []
  pub buffers_none : buffers receiver ≡ []

-- The camera, the receiver and the journal are new, and the journal has room for so many turns.
pub record AreNew (seed turns : ℕ) (camera : Camera) (receiver : Window) (journal : List Turn) (room : ℕ) : Type 0 where
  pub camera_is : camera ≡ live_camera seed
  pub receiver_new : IsNewReceiver receiver
  pub unwritten : journal ≡ []
  pub room_for : turns ≤ room
