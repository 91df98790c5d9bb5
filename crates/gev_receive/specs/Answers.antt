-- How a run ends, of several causes.
use Rattle.std.specs.Prelude.{ℕ, ◌==◌, nat_lt, Bool, true, false, if◌then◌else◌, Result, Ok, Err}
use Rattle.gev_status.specs.declared.status.Status.{Status}
use Rattle.gev_status.specs.declared.status.Status.TheVariants as status
use Rattle.camera_control.specs.declared.control_end.ControlEnd.{ControlEnd}
use Rattle.camera_control.specs.declared.control_end.ControlEnd.TheVariants as causes
use Rattle.first_leader.specs.declared.no_leader.NoLeader.{NoLeader}
use Rattle.first_leader.specs.declared.no_leader.NoLeader.TheVariants as waits
use Rattle.camera_reader.specs.declared.reader_end.ReaderEnd.{ReaderEnd}
use Rattle.camera_reader.specs.declared.reader_end.ReaderEnd.TheVariants as reads
use Rattle.frame_writing.specs.declared.handed_out.HandedEnd.{HandedEnd}
use Rattle.frame_writing.specs.declared.handed_out.HandedEnd.TheVariants as hands

-- ---- the answer of each part

-- by how control ended, behind so many frames
abbrev pub control_status : ControlEnd → ℕ → Status
control_status causes.LinkFault frames = status.LinkFault
control_status (causes.NoAnswer req) frames = status.NoAnswer req
control_status (causes.RefusedAt register code) frames = status.RefusedAt register code
control_status causes.Controlled frames = status.Controlled
control_status causes.ControlLost frames = status.ControlLost frames

-- where no leader came
abbrev pub leader_status : NoLeader → Status
leader_status waits.Silent = status.Silent 0
leader_status waits.InputEnded = status.Done
leader_status (waits.Ended cause) = control_status cause 0

-- by how the reader ended; a camera that is silent once all frames were handed out doesn't count
abbrev pub reader_status : ReaderEnd → ℕ → ℕ → Status
reader_status reads.Stopped frames taken = status.Done
reader_status reads.Silent frames taken = if taken == frames then status.Done else status.Silent taken
reader_status (reads.Ended cause) frames taken = control_status cause taken

-- by how the application ended
abbrev pub handed_status : HandedEnd → Status
handed_status hands.Enough = status.Done
handed_status hands.Over = status.Done
handed_status hands.InputEnded = status.Done
handed_status hands.WriteFault = status.WriteFault
handed_status hands.NoMemory = status.NoMemory

-- by how the camera was let go
abbrev pub leave_status : Result (Unit {0}) ControlEnd → ℕ → Status
leave_status (Ok done) frames = status.Done
leave_status (Err cause) frames = control_status cause frames

-- ---- which goes before which

-- The order: a link that failed, memory that was wanting, a write that failed, images without a picture, control that was
-- lost, a command without answer, one that was refused, a camera that another controls, a silent one, and the run that was
-- done. No run ends by another answer.
abbrev pub rank : Status → ℕ
rank status.LinkFault = 0
rank status.NoMemory = 1
rank status.WriteFault = 2
rank (status.NoPicture why) = 3
rank (status.ControlLost frames) = 4
rank (status.NoAnswer req) = 5
rank (status.RefusedAt register code) = 6
rank status.Controlled = 7
rank (status.Silent frames) = 8
rank status.Done = 9
rank _ = 10

-- of two of the same kind the first
abbrev pub weightier : Status → Status → Status
weightier first later = if nat_lt (rank later) (rank first) then later else first

-- ---- lost control

-- the camera let its controller go
abbrev pub is_lost : ControlEnd → Bool
is_lost causes.LinkFault = false
is_lost (causes.NoAnswer req) = false
is_lost (causes.RefusedAt register code) = false
is_lost causes.Controlled = false
is_lost causes.ControlLost = true

-- a heartbeat told so while the first leader was waited for
abbrev pub is_leader_lost : NoLeader → Bool
is_leader_lost waits.Silent = false
is_leader_lost waits.InputEnded = false
is_leader_lost (waits.Ended cause) = is_lost cause

-- a heartbeat told so while the reader ran
abbrev pub is_reader_lost : ReaderEnd → Bool
is_reader_lost reads.Stopped = false
is_reader_lost reads.Silent = false
is_reader_lost (reads.Ended cause) = is_lost cause

-- How the receiving of a stream ended: the answer with that, and whether the camera let its controller go. The answer alone
-- doesn't tell it: a write that failed, or memory that was wanting, goes before lost control.
pub record StreamEnd : Type 0 where
  pub status : Status
  pub lost : Bool

abbrev pub stream_end : Status → Bool → StreamEnd
stream_end answer lost = record { status = answer; lost = lost }

-- no leader came
abbrev pub unled_end : NoLeader → StreamEnd
unled_end why = stream_end (leader_status why) (is_leader_lost why)

-- a leader came, and no reader ran
abbrev pub unread_end : Status → StreamEnd
unread_end answer = stream_end answer false

-- application and reader ended so, of so many frames that were asked for and so many that were handed out
abbrev pub frames_end : HandedEnd → ReaderEnd → ℕ → ℕ → StreamEnd
frames_end handed read frames taken = stream_end (weightier (handed_status handed) (reader_status read frames taken)) (is_reader_lost read)

-- ---- the last line

-- the last line is written with this answer
abbrev pub is_told : Status → Bool
is_told status.Done = true
is_told (status.NoAnswer req) = true
is_told (status.RefusedAt register code) = true
is_told (status.Silent frames) = true
is_told status.Controlled = true
is_told (status.ControlLost frames) = true
is_told _ = false
