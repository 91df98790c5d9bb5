-- What a fetch of the packet that waits first did, as one fact.
use Rattle.std.specs.Prelude.{◌≡◌, ◌≤◌, ℕ, List, [], length, take, Option, Some, None}
use Rattle.gev_types.specs.declared.peer.Peer.{Peer}
use Rattle.stream_packets.specs.Packets.{StreamPacket}
use Rattle.gvsp_wire.specs.Plain.{plain}
use Rattle.camera_machine.specs.Camera.{Camera, stream_peer}
use Rattle.camera_machine.specs.Stream.{first_waiting, given}

-- The packet that waited first was fetched: it goes to this peer, and is so many bytes of these.
pub record FetchesOne (peer : Peer) (len : ℕ) (old : Camera) (bytes : List ℕ) (new : Camera) : Type 0 where
  pub packet : StreamPacket
  pub first : first_waiting old.waiting ≡ Some packet
  pub to : peer ≡ stream_peer old
  pub fits : len ≤ length bytes
  pub spelled : take len bytes ≡ plain packet
  pub rest : new ≡ given old

-- Nothing waits.
pub record FetchesNone (old new : Camera) : Type 0 where
  pub none : old.waiting ≡ []
  pub same : new ≡ old

abbrev pub Fetches : Option (Peer × ℕ) → Camera → List ℕ → Camera → Type 0
Fetches None old bytes new = FetchesNone old new
Fetches (Some sent) old bytes new = FetchesOne sent.0 sent.1 old bytes new
