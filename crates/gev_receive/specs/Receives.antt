-- A run over a camera's frames: the camera is taken, its first leader is waited for, its frames are received and handed out,
-- and it's let go.
use Rattle.std.specs.Prelude.{◌≡◌, ◌⊎◌, ℕ, ◌+◌, ◌-◌, ◌^◌, min, Bool, true, false, List, [], ◌∷◌, option_map, Option, Some, None, Result, Ok, Err}
use Rattle.board_machine.specs.declared.events.Entry.{Entry}
use Rattle.client_machine.specs.Machine.{Client, new_client}
use Rattle.gev_links.specs.Links.{Address, Answer, IsBlank}
use Rattle.link_filters.specs.Strangers.{all_from, CountsStrangers}
use Rattle.link_filters.specs.Reads.{with_registers}
use Rattle.gev_control.specs.CarriesOut.{ControlSide}
use Rattle.camera_control.specs.declared.control_end.ControlEnd.{ControlEnd}
use Rattle.camera_control.specs.declared.stream_wish.StreamWish.{StreamWish}
use Rattle.camera_control.specs.declared.taken.Taken.{Taken}
use Rattle.camera_control.specs.declared.taken.NotTaken.{NotTaken}
use Rattle.camera_control.specs.Taking.{Takes, Leaves, FailsAs, TakeFails}
use Rattle.camera_words.specs.declared.settings.Settings.{Settings}
use Rattle.camera_words.specs.declared.settings.Output.{Output}
use Rattle.camera_words.specs.declared.settings.Output.TheVariants.{Lines, Pictures, Counts}
use Rattle.camera_words.specs.declared.register_write.Stage.TheVariants.{Set, Start, Stop}
use Rattle.first_leader.specs.declared.leading.FirstLeader.{FirstLeader}
use Rattle.first_leader.specs.declared.no_leader.NoLeader.{NoLeader}
use Rattle.first_leader.specs.declared.patience.Patience.{Patience}
use Rattle.first_leader.specs.Waiting.{WaitSide, AwaitsLeader, InputOf, FaultsOf, is_fault}
use Rattle.gev_acq.specs.Turns.{Outside}
use Rattle.frame_pictures.specs.declared.no_picture.NoPicture.{NoPicture}
use Rattle.gev_status.specs.declared.status.Status.{Status}
use Rattle.gev_status.specs.declared.status.Status.TheVariants as status
use Rattle.frame_writing.specs.declared.receive_counts.ReceiveCounts.{ReceiveCounts}
use Rattle.gev_receive.specs.Answers.{control_status, leave_status, weightier, is_lost, StreamEnd, unled_end, unread_end}
use Rattle.gev_receive.specs.Starting.{writes_at, lacks_picture, no_counts, leader_counts}
use Rattle.gev_receive.specs.Ending.{Finishes}
use Rattle.gev_receive.specs.Bound.{control_peer, AllTold, FailsToBind}
use Rattle.gev_receive.specs.Frames.{Runs}

-- ---- what is told

-- What the links and clocks of a run told: what was received on the stream's link and on the control link, what was sent
-- on the latter, and the moments of the host and of the application.
pub record Told : Type 0 where
  pub stream : Option (List Answer)
  pub control : Option (List Answer)
  pub sent : Option (List (Address × List ℕ))
  pub host_clock : Option (List ℕ)
  pub app_clock : Option (List ℕ)

-- none of them told anything yet
pub record IsUntold (t : Told) : Type 0 where
  pub stream : IsBlank t.stream
  pub control : IsBlank t.control
  pub sent : IsBlank t.sent
  pub host_clock : IsBlank t.host_clock
  pub app_clock : IsBlank t.app_clock

-- What the host heard of the camera's address alone; an acknowledge of READREG with success that has no register is none.
abbrev pub host_side : ℕ → Told → Client → WaitSide
host_side source t client = record {
  received = option_map (all_from source) t.stream;
  heard = option_map with_registers (option_map (all_from source) t.control);
  sent = t.sent;
  told = t.host_clock;
  client = client;
}

abbrev pub control_part : WaitSide → ControlSide
control_part s = record { heard = s.heard; sent = s.sent; told = s.told; client = s.client }

-- how many datagrams of other addresses came over both links
abbrev pub sum_of : ℕ → ℕ → ℕ
sum_of a b = min (a + b) (2 ^ 64 - 1)

-- ---- the steps

-- how many milliseconds after a send the next one comes
abbrev pub SEND_LIMIT : ℕ
SEND_LIMIT = 500

abbrev pub wish_of : Settings → Address → StreamWish
wish_of settings own = record { receiver = own; packet_size = settings.packet }

abbrev pub patience_of : Settings → Taken → Patience
patience_of settings taken = record { packet_size = taken.packet_size; silence = settings.silence; until_input = settings.until_input_ends }

-- with pictures images that have none end the run
abbrev pub picture_missing : Output → FirstLeader → Option NoPicture
picture_missing (Lines digest) leader = None
picture_missing Pictures leader = lacks_picture leader.info
picture_missing Counts leader = None

abbrev pub outside_of : WaitSide → Outside
outside_of s = record { received = s.received; heard = s.heard; sent = s.sent; told = s.told; client = s.client }

-- Behind the taking of the camera: no leader came; or images have no picture that are asked for; or the frames were received
-- as far as memory was there. How that ended, and the numbers.
pub data Streams (settings : Settings) (camera : Address) (taken : Taken) (o n : WaitSide) (stream stream_after control control_after : ℕ)
    (app app_after written written_after : Option (List ℕ)) (faults faults_after : ℕ) (left : Option (List ℕ)) (h : List Entry) (end : StreamEnd)
    (counts : ReceiveCounts) : Type 0 where
  unled : (found : Result FirstLeader NoLeader) (why : NoLeader) → AwaitsLeader camera (patience_of settings taken) o n found → found ≡ Err why → InputOf found left
      → FaultsOf (is_fault found) stream stream_after control control_after → app_after ≡ app → written_after ≡ written → faults_after ≡ faults → h ≡ []
      → end ≡ unled_end why → counts ≡ no_counts settings.frames
      → Streams settings camera taken o n stream stream_after control control_after app app_after written written_after faults faults_after left h end counts
  undrawn : (found : Result FirstLeader NoLeader) (leader : FirstLeader) (why : NoPicture) → AwaitsLeader camera (patience_of settings taken) o n found → found ≡ Ok leader
      → FaultsOf (is_fault found) stream stream_after control control_after → picture_missing settings.output leader ≡ Some why
      → app_after ≡ app → written_after ≡ written → faults_after ≡ faults → h ≡ [] → end ≡ unread_end (status.NoPicture why) → counts ≡ leader_counts settings leader
      → Streams settings camera taken o n stream stream_after control control_after app app_after written written_after faults faults_after left h end counts
  streamed : (found : Result FirstLeader NoLeader) (leader : FirstLeader) (m : WaitSide) (stream_mid control_mid faults_mid : ℕ) (written_mid input : Option (List ℕ)) (misses misses_after : ℕ)
      → AwaitsLeader camera (patience_of settings taken) o m found → found ≡ Ok leader → FaultsOf (is_fault found) stream stream_mid control control_mid
      → written_mid ≡ written → faults_mid ≡ faults → picture_missing settings.output leader ≡ None
      → Runs settings camera leader taken.resends (outside_of m) (outside_of n) stream_mid stream_after control_mid control_after app app_after
      written_mid written_after faults_mid faults_after input left misses misses_after end counts h
      → Streams settings camera taken o n stream stream_after control control_after app app_after written written_after faults faults_after left h end counts

-- The camera was let go, but where it had let its controller go, whatever the answer: the answer with that, and the control
-- link's count of faults.
abbrev pub LeavesUnless : Bool → Settings → Address → Bool → ℕ → Status → ControlSide → ControlSide → ℕ → ℕ → Status → Type 0
LeavesUnless true settings camera heartbeat frames first o n faults faults_after answer = (n ≡ o) × (faults_after ≡ faults) × (answer ≡ first)
LeavesUnless false settings camera heartbeat frames first o n faults faults_after answer =
    (result : Result (Unit {0}) ControlEnd) × (Leaves camera heartbeat (writes_at Stop settings.writes.items) o n result
    × FailsAs result faults faults_after × (answer ≡ weightier first (leave_status result frames)))

-- The camera that wasn't taken, since control ended so, was let go where it was held.
abbrev pub LeavesHeld : Bool → Settings → Address → ControlEnd → ControlSide → ControlSide → ℕ → ℕ → Status → Type 0
LeavesHeld false settings camera cause o n faults faults_after answer = (n ≡ o) × (faults_after ≡ faults) × (answer ≡ control_status cause 0)
LeavesHeld true settings camera cause o n faults faults_after answer =
    LeavesUnless (is_lost cause) settings camera false 0 (control_status cause 0) o n faults faults_after answer

-- the camera was taken, or that failed, by what the words ask for
abbrev pub TakesBy : Settings → Address → Address → ControlSide → ControlSide → Result Taken NotTaken → Type 0
TakesBy settings camera own o n found =
    Takes camera (wish_of settings own) (writes_at Set settings.writes.items) (writes_at Start settings.writes.items) o n found

-- The camera wasn't taken, and was let go where it was held. Nothing was received of the stream, and nothing written.
pub record MeetsNot (settings : Settings) (camera own : Address) (o n : WaitSide) (stream stream_after control control_after : ℕ)
    (app app_after written written_after : Option (List ℕ)) (faults faults_after : ℕ) (h : List Entry) (answer : Status) (counts : ReceiveCounts) : Type 0 where
  pub found : Result Taken NotTaken
  pub fault : NotTaken
  pub is : found ≡ Err fault
  -- behind the steps of the taking
  pub m : ControlSide
  pub control_mid : ℕ
  pub takes : TakesBy settings camera own (control_part o) m found
  pub take_fails : TakeFails found control control_mid
  pub leaves : LeavesHeld fault.held settings camera fault.end m (control_part n) control_mid control_after answer
  pub unreceived : n.received ≡ o.received
  pub stream_same : stream_after ≡ stream
  pub app_same : app_after ≡ app
  pub unwritten : written_after ≡ written
  pub no_fault : faults_after ≡ faults
  pub no_history : h ≡ []
  pub counts_are : counts ≡ no_counts settings.frames

-- The camera was taken, its stream was received, and it was let go.
pub record MeetsAndStreams (settings : Settings) (camera own : Address) (o n : WaitSide) (stream stream_after control control_after : ℕ)
    (app app_after written written_after : Option (List ℕ)) (faults faults_after : ℕ) (left : Option (List ℕ)) (h : List Entry) (answer : Status)
    (counts : ReceiveCounts) : Type 0 where
  pub found : Result Taken NotTaken
  pub taken : Taken
  pub is : found ≡ Ok taken
  -- behind the steps of the taking, and behind the stream
  pub m : WaitSide
  pub p : WaitSide
  pub control_m : ℕ
  pub control_p : ℕ
  pub takes : TakesBy settings camera own (control_part o) (control_part m) found
  pub take_fails : TakeFails found control control_m
  pub unreceived : m.received ≡ o.received
  -- how the stream's receiving ended
  pub first : StreamEnd
  pub streams : Streams settings camera taken m p stream stream_after control_m control_p app app_after written written_after faults faults_after left h first counts
  pub leaves : LeavesUnless first.lost settings camera true counts.taken first.status (control_part p) (control_part n) control_p control_after answer
  pub received_no_more : n.received ≡ p.received

abbrev pub Meets : Settings → Address → Address → WaitSide → WaitSide → ℕ → ℕ → ℕ → ℕ → Option (List ℕ) → Option (List ℕ) → Option (List ℕ) → Option (List ℕ) → ℕ → ℕ
    → Option (List ℕ) → List Entry → Status → ReceiveCounts → Type 0
Meets settings camera own o n stream stream_after control control_after app app_after written written_after faults faults_after left h answer counts =
    MeetsNot settings camera own o n stream stream_after control control_after app app_after written written_after faults faults_after h answer counts
    ⊎ MeetsAndStreams settings camera own o n stream stream_after control control_after app app_after written written_after faults faults_after left h answer counts

-- ---- the run

-- The run over links and clocks that told `o` before and `e` behind it: what was done with the camera, and the last line
-- with the number of datagrams of other addresses. `camera` is the camera's control port, `own` the address of the stream's
-- link, `h` the history of the run's board.
pub record Receives (settings : Settings) (camera own : Address) (o e : Told) (stream stream_after control control_after : ℕ)
    (written written_after : Option (List ℕ)) (faults faults_after : ℕ) (left : Option (List ℕ)) (h : List Entry) (answer : Status) : Type 0 where
  pub client : Client
  pub written_mid : Option (List ℕ)
  pub faults_mid : ℕ
  pub first : Status
  pub counts : ReceiveCounts
  pub meets : Meets settings camera own (host_side camera.address o (new_client SEND_LIMIT)) (host_side camera.address e client)
      stream stream_after control control_after o.app_clock e.app_clock written written_mid faults faults_mid left h first counts
  pub control_strangers : ℕ
  pub stream_strangers : ℕ
  pub control_counted : CountsStrangers camera.address e.control control_strangers
  pub stream_counted : CountsStrangers camera.address e.stream stream_strangers
  pub finishes : Finishes settings.output first answer counts (sum_of control_strangers stream_strangers) written_mid written_after faults_mid faults_after

-- ---- over ports

-- Nothing was done, since a bind failed.
pub record ReceivesNothing {L C : Type 0} (heard : L → Option (List Answer)) (sent : L → Option (List (Address × List ℕ))) (faults : L → ℕ)
    (answer : Status) (bound bound_after : Option (List Address)) (links links_after : Option (List L)) (clocks clocks_after : Option (List C))
    (written written_after : Option (List ℕ)) (writes writes_after : ℕ) (seen : Option (List Entry)) : Type 0 where
  pub failed : answer ≡ status.LinkFault
  pub binds : FailsToBind heard sent faults bound bound_after links links_after
  pub no_clock : clocks_after ≡ clocks
  pub unwritten : written_after ≡ written
  pub no_fault : writes_after ≡ writes
  pub no_board : seen ≡ None

-- the history of a board, where one was made
abbrev pub history_of : Option (List Entry) → List Entry
history_of None = []
history_of (Some h) = h

-- what these links and clocks tell
abbrev pub told_by : {L C : Type 0} → (L → Option (List Answer)) → (L → Option (List (Address × List ℕ))) → (C → Option (List ℕ)) → L → L → C → C → Told
told_by heard sent told control stream host_clock app_clock =
    record { stream = heard stream; control = heard control; sent = sent control; host_clock = told host_clock; app_clock = told app_clock }

-- The ports bound the control link and the stream's, which told nothing before and had no fault, and gave three clocks: the
-- host's, the application's, and one by which standard input is looked at. All came back, in this order, behind the run.
pub record ReceivesAll {L C : Type 0} (heard : L → Option (List Answer)) (sent : L → Option (List (Address × List ℕ))) (faults : L → ℕ)
    (told : C → Option (List ℕ)) (settings : Settings) (answer : Status) (bound bound_after : Option (List Address)) (links links_after : Option (List L))
    (clocks clocks_after : Option (List C)) (left_after written written_after : Option (List ℕ)) (writes writes_after : ℕ) (seen : Option (List Entry)) : Type 0 where
  pub control_address : Address
  pub own : Address
  pub are_bound : AllTold bound bound_after (control_address ∷ own ∷ [])
  pub control : L
  pub stream : L
  pub links_back : AllTold links links_after (control ∷ stream ∷ [])
  pub host_clock : C
  pub app_clock : C
  pub input_clock : C
  pub clocks_back : AllTold clocks clocks_after (host_clock ∷ app_clock ∷ input_clock ∷ [])
  pub begin : Told
  pub untold : IsUntold begin
  pub receives : Receives settings (control_peer settings.camera) own begin (told_by heard sent told control stream host_clock app_clock)
      0 (faults stream) 0 (faults control) written written_after writes writes_after left_after (history_of seen) answer

abbrev pub ReceivesOver : {L C : Type 0} → (L → Option (List Answer)) → (L → Option (List (Address × List ℕ))) → (L → ℕ) → (C → Option (List ℕ))
    → Settings → Status → Option (List Address) → Option (List Address) → Option (List L) → Option (List L) → Option (List C) → Option (List C)
    → Option (List ℕ) → Option (List ℕ) → Option (List ℕ) → ℕ → ℕ → Option (List Entry) → Type 0
ReceivesOver heard sent faults told settings answer bound bound_after links links_after clocks clocks_after left_after written written_after writes writes_after seen =
    ReceivesNothing heard sent faults answer bound bound_after links links_after clocks clocks_after written written_after writes writes_after seen
    ⊎ ReceivesAll heard sent faults told settings answer bound bound_after links links_after clocks clocks_after left_after written written_after writes writes_after seen
