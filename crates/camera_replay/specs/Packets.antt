-- How lines of packets are added to a report, one after the other.
use Rattle.std.specs.Prelude.{◌≡◌, ℕ, Bool, true, false, List, [], ◌++◌, Some}
use Rattle.stream_packets.specs.Packets.{StreamPacket}
use Rattle.gvsp_wire.specs.Plain.{plain}
use Rattle.gev_report.specs.CameraLines.{stream_line}
use Rattle.camera_machine.specs.Camera.{Camera, stream_peer}
use Rattle.camera_machine.specs.Stream.{first_waiting, given, all_waiting, emptied}
use Rattle.camera_replay.specs.Serving.{packets_text}

-- A packet was given, and its line added.
pub record GaveOne (old : Camera) (text text_after : List ℕ) (new : Camera) : Type 0 where
  pub packet : StreamPacket
  pub first : first_waiting old.waiting ≡ Some packet
  pub line : text_after ≡ text ++ stream_line (stream_peer old).port (plain packet)
  pub rest : new ≡ given old

-- Nothing waits.
pub record GaveNone (old : Camera) (text text_after : List ℕ) (new : Camera) : Type 0 where
  pub none : old.waiting ≡ []
  pub same_text : text_after ≡ text
  pub same : new ≡ old

abbrev pub Gave : Bool → Camera → List ℕ → List ℕ → Camera → Type 0
Gave true old text text_after new = GaveOne old text text_after new
Gave false old text text_after new = GaveNone old text text_after new

-- From here all that waits leads to the same report and the same camera as it did at first.
pub record IsOnTheWay (start : Camera) (text : List ℕ) (now : Camera) (text_now : List ℕ) : Type 0 where
  pub report :
      text_now ++ packets_text (stream_peer now).port (all_waiting now.waiting)
      ≡ text ++ packets_text (stream_peer start).port (all_waiting start.waiting)
  pub camera : emptied now ≡ emptied start
