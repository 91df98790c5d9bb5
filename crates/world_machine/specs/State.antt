-- The world of a soak run: a camera, a network and a host, as they are at a moment.
use Rattle.std.specs.Prelude.{ℕ, Bool, false, List, []}
use Rattle.gev_types.specs.declared.frame.Shape.{Shape}
use Rattle.lossy_queue.specs.declared.datagram.Datagram.{Datagram}
use Rattle.lossy_queue.specs.declared.rates.Rates.{Rates}
use Rattle.client_machine.specs.Times.{SEND_LIMIT}
use Rattle.client_machine.specs.Machine.{Client, new_client}
use Rattle.camera_machine.specs.Camera.{Camera, new_camera}
use Rattle.camera_machine.specs.Events.{step, set_short}

-- What a host counts by the end of a run.
pub record HostNumbers : Type 0 where
  -- buffers that the application took, those of them with a complete record, and those without
  pub taken : ℕ
  pub complete : ℕ
  pub incomplete : ℕ
  -- blocks for which the pool had no buffer
  pub underrun : ℕ
  -- packet resend commands that were asked for
  pub requests : ℕ

-- The receiver of the stream with its board and its application, as the world sees it. Whatever has such
-- functions can be the host.
pub record Host (A : Type 0) : Type 0 where
  -- after a datagram of the stream
  pub hears : A → List ℕ → A
  -- after time has come to a moment
  pub ticks : A → ℕ → A
  -- the packet resend commands that it asks for when time comes to a moment, in order
  pub requests : A → ℕ → List (List ℕ)
  -- after the application took buffers until the output was empty, and returned and queued each
  pub takes : A → A
  -- the take lines of that
  pub lines : A → List ℕ
  -- whether no block is open
  pub is_idle : A → Bool
  pub numbers : A → HostNumbers

-- What a run is asked for: what its images and its draws are made of, how many frames there are, how often
-- the network loses, repeats and swaps, and whether the frames are short ones.
pub record Run : Type 0 where
  pub seed : ℕ
  pub frames : ℕ
  pub rates : Rates
  pub short : Bool

pub record World (A : Type 0) : Type 0 where
  -- in milliseconds
  pub moment : ℕ
  -- the generator of both queues
  pub x : ℕ
  -- what is on its way to the camera's control port
  pub to_camera : List Datagram
  -- what is on its way to the client and to the host
  pub to_host : List Datagram
  pub camera : Camera
  pub client : Client
  pub host : A
  -- how many commands of the setup were submitted, and how many of them acknowledged
  pub begun : ℕ
  pub done : ℕ
  -- how many frames were made
  pub made : ℕ
  -- whether the sending of frames ended for good, since the channel was closed
  pub is_over : Bool

-- the images: 64 columns and 48 lines of Mono8
abbrev pub image_shape : Shape
image_shape = record { pixel = 0x01080001; size_x = 64; size_y = 48 }

-- how many frames the camera can send again
abbrev pub STORE_ROOM : ℕ
STORE_ROOM = 4

-- a camera that was told whether its frames are short, before anything else happens to it
abbrev pub first_camera : Run → Camera
first_camera run = step (new_camera run.seed image_shape STORE_ROOM) (set_short run.short)

abbrev pub new_world : {A : Type 0} → Run → A → World A
new_world run host = record {
  moment = 0;
  x = run.seed;
  to_camera = [];
  to_host = [];
  camera = first_camera run;
  client = new_client SEND_LIMIT;
  host = host;
  begun = 0;
  done = 0;
  made = 0;
  is_over = false;
}
