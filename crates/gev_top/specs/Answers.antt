-- What each command has read and written by its answer, and when it gives which answer.
use Rattle.std.specs.Prelude.{⊤, ◌≡◌, ◌≢◌, ℕ, List, Option}
use Rattle.gev_links.specs.Faults.{Rose}
use Rattle.gev_links.specs.Told.{Appends, WritesFront}
use Rattle.script_runs.specs.Verdicts.{outcome}
use Rattle.script_trace.specs.Standing as replay
use Rattle.script_trace.specs.Laws.{StandsWell, HasSaid}
use Rattle.camera_replay.specs.Standing as camera
use Rattle.camera_replay.specs.Laws.{IsTold, CameraTells, HasOnePrimary}
use Rattle.gev_make.specs.MakeText.{make_text}
use Rattle.gev_status.specs.declared.status.Status.{Status}
use Rattle.gev_status.specs.declared.status.Status.TheVariants.{Done, Usage, BadScript, ReadFault, WriteFault, LinkFault, NoMemory, NoAnswer, Refused, TurnsSpent, BadCapture, NoPicture, Silent, Controlled, NoDescription, ControlLost, NoDatagram, RefusedAt}
use Rattle.gev_top.specs.declared.command.Command.{Command}
use Rattle.gev_top.specs.declared.command.Command.TheVariants.{Replay, Explain, Image, Streams, Capture, Camera, Make, Soak}
use Rattle.gev_top.specs.Scripts.{Ends, IfEnded, AnswersContent}
use Rattle.gev_top.specs.Explained.{Explains}
use Rattle.gev_top.specs.Imaging.{Images, AnswersImage}
use Rattle.gev_top.specs.Soaking.{Soaks}
use Rattle.gev_top.specs.Capturing.{ListsStreams, ScriptsCapture, IsCaptureRead, IsScriptRead, AnswersCapture, AnswersScript}

-- A replay: behind each line its trace keeps its promises. It is a run of the board machine, each buffer
-- has one owner at each step, buffers are handed out once and in the order of their fills, the
-- acquisition's fills are the blocks that retire, and each of them, and each buffer that is handed out
-- with a block in it, is its block's frame or has each received byte in place. The report of its lines is
-- the trace's text; where a datagram was widened, with requests in the standard form from a datagram on.
abbrev pub Replays : Status → Option (List ℕ) → Option (List ℕ) → ℕ → ℕ → Option (List ℕ) → Option (List ℕ) → ℕ → ℕ → Type 0
Replays status left left_after reads reads_after written written_after writes writes_after =
    IfEnded
    (λ ending. Ends replay.ReplayRuns replay.ReplayRefuses StandsWell HasSaid replay.first ending left left_after reads reads_after written written_after writes writes_after)
    status

-- A camera script: each line comes to events of the camera that it finds, and its report is what they print, which is the
-- camera's acknowledges, the numbers of its frames, and the packets that it gives. At most one peer has control of that
-- camera.
abbrev pub Serves : Status → Option (List ℕ) → Option (List ℕ) → ℕ → ℕ → Option (List ℕ) → Option (List ℕ) → ℕ → ℕ → Type 0
Serves status left left_after reads reads_after written written_after writes writes_after =
    IfEnded
    (λ ending. Ends CameraTells camera.CameraRefuses HasOnePrimary IsTold camera.first ending left left_after reads reads_after written written_after writes writes_after)
    status

-- Of a text that is made, the whole or a front was written, by the answer.
abbrev pub Writes : List ℕ → Status → Option (List ℕ) → Option (List ℕ) → ℕ → ℕ → Type 0
Writes text Done written written_after writes writes_after = Appends written written_after text
Writes text WriteFault written written_after writes writes_after = Rose writes writes_after × WritesFront written written_after text
Writes text NoMemory written written_after writes writes_after = WritesFront written written_after text
Writes text ReadFault written written_after writes writes_after = ⊥
Writes text (BadScript line kind) written written_after writes writes_after = ⊥
Writes text (Usage place) written written_after writes writes_after = ⊥
Writes text (NoAnswer req) written written_after writes writes_after = ⊥
Writes text (Refused status) written written_after writes writes_after = ⊥
Writes text LinkFault written written_after writes writes_after = ⊥
Writes text (TurnsSpent turns frames) written written_after writes writes_after = ⊥
Writes text (BadCapture number kind) written written_after writes writes_after = ⊥
Writes text (NoPicture why) written written_after writes writes_after = ⊥
Writes text (Silent frames) written written_after writes writes_after = ⊥
Writes text Controlled written written_after writes writes_after = ⊥
Writes text NoDescription written written_after writes writes_after = ⊥
Writes text (ControlLost frames) written written_after writes writes_after = ⊥
Writes text (NoDatagram port) written written_after writes writes_after = ⊥
Writes text (RefusedAt register code) written written_after writes writes_after = ⊥

-- A text is made, and nothing is read.
pub record Makes (text : List ℕ) (status : Status) (left left_after : Option (List ℕ)) (reads reads_after : ℕ) (written written_after : Option (List ℕ)) (writes writes_after : ℕ) : Type 0 where
  pub unread : left_after ≡ left
  pub no_faults : reads_after ≡ reads
  pub wrote : Writes text status written written_after writes writes_after

-- what the command has read and written by its answer; `left` is what the source had left, `written` what
-- stood in the sink, and the numbers are the counts of faults of both
abbrev pub Answers : Command → Status → Option (List ℕ) → Option (List ℕ) → ℕ → ℕ → Option (List ℕ) → Option (List ℕ) → ℕ → ℕ → Type 0
Answers Replay = Replays
Answers Explain = Explains
Answers (Image wanted) = Images wanted
Answers Streams = ListsStreams
Answers (Capture port p bytes) = ScriptsCapture port p bytes
Answers Camera = Serves
Answers (Make seed frames rates) = Makes (make_text seed frames rates)
Answers (Soak seed frames rates short) = Soaks (record { seed = seed; frames = frames; rates = rates; short = short })

-- How the source's count of faults stands by the answer: it changes only with the answer that tells of it. Behind a
-- read that failed lines of a capture are still written, so there it may also have changed with the answers that
-- writing failed and that memory ran out.
abbrev pub ReadsSteady : Command → Status → ℕ → ℕ → Type 0
ReadsSteady Replay status reads reads_after = status ≢ ReadFault → reads_after ≡ reads
ReadsSteady Explain status reads reads_after = status ≢ ReadFault → reads_after ≡ reads
ReadsSteady (Image wanted) status reads reads_after = status ≢ ReadFault → reads_after ≡ reads
ReadsSteady Streams status reads reads_after = IsCaptureRead status → reads_after ≡ reads
ReadsSteady (Capture port p bytes) status reads reads_after = IsScriptRead port status → reads_after ≡ reads
ReadsSteady Camera status reads reads_after = status ≢ ReadFault → reads_after ≡ reads
ReadsSteady (Make seed frames rates) status reads reads_after = status ≢ ReadFault → reads_after ≡ reads
ReadsSteady (Soak seed frames rates short) status reads reads_after = status ≢ ReadFault → reads_after ≡ reads

-- the answer where a source holds these bytes, but for faults and want of memory
abbrev pub IsDecided : Command → Status → List ℕ → Type 0
IsDecided Replay status content = AnswersContent status (outcome replay.replay_verdict content)
IsDecided Explain status content = AnswersContent status (outcome replay.replay_verdict content)
IsDecided (Image wanted) status content = AnswersImage wanted status (outcome replay.replay_verdict content)
IsDecided Streams status content = AnswersCapture status content
IsDecided (Capture port p bytes) status content = AnswersScript port status content
IsDecided Camera status content = AnswersContent status (outcome camera.camera_verdict content)
IsDecided (Make seed frames rates) status content = ⊤
IsDecided (Soak seed frames rates short) status content = ⊤
