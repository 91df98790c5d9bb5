-- One step of sending all packets that wait.
use Rattle.std.specs.Prelude.{◌≡◌, List, [], ◌∷◌, ◌++◌, Bool, true, false, Some, Result, Ok, Err}
use Rattle.stream_packets.specs.Packets.{StreamPacket}
use Rattle.gvsp_wire.specs.Plain.{plain}
use Rattle.camera_machine.specs.Camera.{Camera, stream_peer}
use Rattle.camera_machine.specs.Stream.{first_waiting, given, all_waiting, emptied}
use Rattle.gev_links.specs.Faults.{Rose}
use Rattle.gev_links.specs.Links.{Adds}
use Rattle.gev_serve.specs.Wires.{Wire}
use Rattle.gev_serve.specs.Turns.{packets_to}

-- The packet that waited first was sent to the stream's peer.
pub record SendsOne (s new : Camera) (v w : Wire) : Type 0 where
  pub packet : StreamPacket
  pub first : first_waiting s.waiting ≡ Some packet
  pub sent : Adds v.sent w.sent ((stream_peer s, plain packet) ∷ [])
  pub received : w.received ≡ v.received
  pub no_fault : w.faults ≡ v.faults
  pub rest : new ≡ given s

-- Nothing waits.
pub record SendsNone (s new : Camera) (v w : Wire) : Type 0 where
  pub none : s.waiting ≡ []
  pub same : w ≡ v
  pub rest : new ≡ s

-- A packet waited, and its send failed.
pub record FailsToSend (v w : Wire) : Type 0 where
  pub unsent : w.sent ≡ v.sent
  pub received : w.received ≡ v.received
  pub rose : Rose v.faults w.faults

abbrev pub SendsNext : {E : Type 0} → Result Bool E → Camera → Camera → Wire → Wire → Type 0
SendsNext (Ok true) s new v w = SendsOne s new v w
SendsNext (Ok false) s new v w = SendsNone s new v w
SendsNext (Err error) s new v w = FailsToSend v w

-- Some packets were sent since: these, and those that wait now, are all that waited then.
pub record IsSending (s now : Camera) (v w : Wire) : Type 0 where
  pub done : List StreamPacket
  pub are : all_waiting s.waiting ≡ done ++ all_waiting now.waiting
  pub sent : Adds v.sent w.sent (packets_to (stream_peer s) done)
  pub received : w.received ≡ v.received
  pub no_fault : w.faults ≡ v.faults
  pub state : emptied now ≡ emptied s
