-- What happens to the host in rounds, the latest first, and which packets the camera gave.
use Rattle.std.specs.Prelude.{◌≡◌, ℕ, zero, suc, List, [], ◌∷◌, Option, Some, None}
use Rattle.std.specs.List.{Contains}
use Rattle.stream_packets.specs.Packets.{StreamPacket}
use Rattle.gvsp_wire.specs.Plain.{plain}
use Rattle.lossy_queue.specs.declared.datagram.Channel.{Channel}
use Rattle.lossy_queue.specs.declared.datagram.Channel.TheVariants.{Control, Stream}
use Rattle.lossy_queue.specs.declared.datagram.Datagram.{Datagram}
use Rattle.camera_machine.specs.Camera.{Camera}
use Rattle.camera_machine.specs.Stream.{first_waiting}
use Rattle.camera_machine.specs.Events as cameras
use Rattle.world_machine.specs.Schedule.{Act, at_client, at_camera, Line, with_last, after}
use Rattle.world_machine.specs.State.{Host, Run, World}
use Rattle.world_machine.specs.ClientTurn.{End, client_turn}
use Rattle.world_machine.specs.CameraTurn.{camera_turn, makes}
use Rattle.world_machine.specs.HostTurn.{arrives, unless_ended, host_turn}
use Rattle.world_machine.specs.Rounds.{rises, world_after}

pub data HostAct : Type 0 where
  -- a datagram of the stream arrives
  host_hears : List ℕ → HostAct
  -- time comes to a moment
  host_ticks : ℕ → HostAct
  -- the application takes, returns and queues
  host_takes : HostAct

abbrev pub host_step : {A : Type 0} → Host A → A → HostAct → A
host_step host a (host_hears bytes) = host.hears a bytes
host_step host a (host_ticks moment) = host.ticks a moment
host_step host a host_takes = host.takes a

-- the host after these acts, the latest of which comes first
abbrev pub host_after : {A : Type 0} → Host A → A → List HostAct → A
host_after host start [] = start
host_after host start (e ∷ rest) = host_step host (host_after host start rest) e

-- ---- the acts of a round, in front of what was done before

abbrev pub with_hearing : Channel → List ℕ → List HostAct → List HostAct
with_hearing Control bytes before = before
with_hearing Stream bytes before = host_hears bytes ∷ before

abbrev pub with_hearings : {A : Type 0} → Host A → World A → List Datagram → List HostAct → List HostAct
with_hearings host w [] before = before
with_hearings host w (d ∷ rest) before =
    let first = arrives host w d.channel d.bytes in
    let before_rest = with_hearing d.channel d.bytes before in
    unless_ended first.end before_rest (with_hearings host first.world rest before_rest)

-- after what reached the host
abbrev pub with_host_turn : {A : Type 0} → Option End → World A → List HostAct → List HostAct
with_host_turn (Some e) w before = before
with_host_turn None w before = host_takes ∷ host_ticks w.moment ∷ before

-- after the client's turn
abbrev pub with_host_rest : {A : Type 0} → Run → Host A → Option End → World A → List HostAct → List HostAct
with_host_rest run host (Some e) w before = before
with_host_rest run host None w before =
    let shown = makes run (camera_turn run w) in
    let heard = host_turn host shown in
    with_host_turn heard.end heard.world (with_hearings host (record shown { to_host = [] }) shown.to_host before)

abbrev pub with_host_round : {A : Type 0} → Run → Host A → World A → List HostAct → List HostAct
with_host_round run host w before =
    let turn = client_turn run (rises w) in with_host_rest run host turn.end turn.world before

-- all that so many rounds did to the host
abbrev pub host_acts_after : {A : Type 0} → Run → Host A → A → ℕ → List HostAct
host_acts_after run host start zero = []
host_acts_after run host start (suc n) = with_host_round run host (world_after run host start n) (host_acts_after run host start n)

-- ---- the packets that a camera gave

abbrev pub given_by : Camera → cameras.Event → Option StreamPacket
given_by s (cameras.command peer bytes moment) = None
given_by s (cameras.tick moment) = None
given_by s cameras.make_frame = None
given_by s cameras.next_packet = first_waiting s.waiting
given_by s (cameras.set_short short) = None

abbrev pub given_at : Line → Act → Option StreamPacket
given_at l (at_client e) = None
given_at l (at_camera e) = given_by l.camera e

-- in the order in which it gave them
abbrev pub given_in : Line → List Act → List StreamPacket
given_in start [] = []
given_in start (a ∷ rest) = with_last (given_in start rest) (given_at (after start rest) a)

-- The bytes are the plain spelling of one of the packets.
pub record IsGiven (packets : List StreamPacket) (bytes : List ℕ) : Type 0 where
  pub packet : StreamPacket
  pub among : Contains packets packet
  pub spelled : bytes ≡ plain packet
