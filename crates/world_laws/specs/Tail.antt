-- The last phase of a soak run, in which no frame is sent any more: what the receiver's open blocks and the
-- commands on their way still bring, counted in rounds.
use Rattle.std.specs.Prelude.{◌≡◌, ◌⊎◌, ℕ, ◌+◌, ◌-◌, ◌*◌, ◌/◌, ◌^◌, ◌<◌, ◌≤◌, min, List, [], ◌∷◌, length, slice_get, Option, Some, None, IfSome, All}
use Rattle.std.specs.List.{AllByRecursion}
use Rattle.lossy_queue.specs.declared.datagram.Datagram.{Datagram}
use Rattle.gvcp_wire.specs.Reading.{command_reading}
use Rattle.client_machine.specs.Machine.{Asked}
use Rattle.resend_store.specs.Shelf.{Shelf}
use Rattle.camera_machine.specs.Camera.{Camera}
use Rattle.camera_machine.specs.Sending.{asked_in}
use Rattle.acquisition_machine.specs.Blocks.{Open}
use Rattle.acquisition_machine.specs.Machine.{State, Request, request_bytes}
use Rattle.acquisition_machine.specs.Sound.{IsRequestNumber, IsSound}
use Rattle.world_laws.specs.Receiver.{Receiver, soak_config}
use Rattle.world_machine.specs.State.{World}
use Rattle.world_machine.specs.Rounds.{ROUND_TIME}
use Rattle.world_laws.specs.Sizes.{ReadsSize}

-- ---- how many rounds are left

-- Packets that come when they were asked for make two blocks younger by at most 19 rounds each, and the
-- round in which they come is one more.
abbrev pub REPLY_ROUNDS : ℕ
REPLY_ROUNDS = 39

-- what these blocks may still ask for, a round of requests at a time
abbrev pub asks_left : List Open → ℕ
asks_left [] = 0
asks_left (o ∷ os) = REPLY_ROUNDS * (soak_config.rounds - o.rounds) + asks_left os

-- in how many rounds each of these blocks is as old as the timeout says, added up
abbrev pub ages_left : ℕ → List Open → ℕ
ages_left now [] = 0
ages_left now (o ∷ os) = (soak_config.timeout - (now - o.last)) / ROUND_TIME + ages_left now os

-- what the commands on their way to the camera bring
abbrev pub queue_left : List Datagram → ℕ
queue_left [] = 0
queue_left (d ∷ ds) = REPLY_ROUNDS

-- The last phase takes at most so many rounds more.
abbrev pub tail_left : World Receiver → ℕ
tail_left w =
    asks_left w.host.acquisition.opens + ages_left w.host.acquisition.now w.host.acquisition.opens + queue_left w.to_camera

-- at most two blocks are open
abbrev pub MOST_TAIL : ℕ
MOST_TAIL = 313

-- ---- what holds between two rounds

-- one of these blocks has this id
abbrev pub HasBlock : ℕ → List Open → Type 0
HasBlock b [] = ⊥
HasBlock b (o ∷ os) = (o.block ≡ b) ⊎ HasBlock b os

-- The block's latest packet was kept by this moment, and its id has 64 bits.
pub record IsRecent (now : ℕ) (o : Open) : Type 0 where
  pub last : o.last ≤ now
  pub block : o.block < 2 ^ 64

-- the receiver at a moment
pub record ReceiverGoes (moment : ℕ) (s : State) : Type 0 where
  pub sound : IsSound soak_config s
  pub recent : AllByRecursion (IsRecent s.now) s.opens
  pub now : s.now ≤ moment

-- The bytes ask for packets of one of these blocks.
pub record AsksOpen (os : List Open) (bytes : List ℕ) : Type 0 where
  pub request : Request
  pub spelled : bytes ≡ request_bytes request
  pub number : IsRequestNumber request.number
  pub is_open : HasBlock request.resend.block os

-- The frames that are held are the last ones that were made, each under its number.
pub record IsCounted (shelf : Shelf) : Type 0 where
  pub some : 1 ≤ shelf.room
  pub filled : length shelf.frames ≡ min shelf.room shelf.count
  pub numbered : (place : ℕ) → IfSome (slice_get shelf.frames place) (λ sent. sent.frame.block + length shelf.frames ≡ shelf.count + place + 1)

-- no packet waits in the camera
pub record CameraGoes (s : Camera) : Type 0 where
  pub none_wait : s.waiting ≡ []
  pub counted : IsCounted s.shelf

-- The bytes are a command of the setup, or a heartbeat: they ask for no packets, and leave the packet size.
pub record IsOfSetup (bytes : List ℕ) : Type 0 where
  pub no_packets : asked_in (command_reading bytes) ≡ None
  pub size : ReadsSize (command_reading bytes)

-- so is the outstanding command, if there is one
abbrev pub SetsUp : Option Asked → Type 0
SetsUp None = Unit {0}
SetsUp (Some asked) = IsOfSetup asked.bytes

-- What holds of the receiver, the camera, the client and the queues of a world.
pub record HostGoes (w : World Receiver) : Type 0 where
  pub receiver : ReceiverGoes w.moment w.host.acquisition
  pub camera : CameraGoes w.camera
  pub client : SetsUp w.client.asked
  pub to_host : w.to_host ≡ []
  pub to_camera : All (λ d. AsksOpen w.host.acquisition.opens d.bytes) w.to_camera
