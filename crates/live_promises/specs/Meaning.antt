-- What the answer of a run over a camera's frames says, and what it wrote.
use Rattle.std.specs.Prelude.{◌≡◌, ◌≢◌, ◌⊎◌, ℕ, Bool, true, false, List, Option}
use Rattle.buffer_words.specs.Loans.{Lent}
use Rattle.gev_links.specs.Told.{IsSpent, Appends, WritesFront}
use Rattle.camera_control.specs.declared.control_end.ControlEnd.TheVariants as causes
use Rattle.camera_words.specs.declared.settings.Settings.{Settings}
use Rattle.camera_words.specs.declared.settings.Output.{Output}
use Rattle.camera_reader.specs.declared.reader_end.ReaderEnd.{ReaderEnd}
use Rattle.camera_reader.specs.declared.reader_end.ReaderEnd.TheVariants as reads
use Rattle.frame_writing.specs.declared.handed_out.HandedEnd.{HandedEnd}
use Rattle.frame_writing.specs.declared.handed_out.HandedEnd.TheVariants as hands
use Rattle.frame_writing.specs.declared.handed_out.HandedOut.{HandedOut}
use Rattle.frame_writing.specs.Texts.{texts_of}
use Rattle.gev_status.specs.declared.status.Status.{Status}
use Rattle.gev_status.specs.declared.status.Status.TheVariants as status

-- Done: all asked frames were handed out, or an input that is watched has ended, where it tells. A write failed, or memory
-- was wanting for one. Or the reader ended so: its link failed, a command had no answer or was refused, the camera let its
-- controller go, or was silent before all frames were handed out. No run ends by another answer.
abbrev pub Means : Status → Settings → HandedOut → ReaderEnd → Option (List ℕ) → Type 0
Means status.Done settings handed read left = (handed.taken ≡ settings.frames) ⊎ ((settings.until_input_ends ≡ true) × IsSpent left)
Means status.WriteFault settings handed read left = handed.end ≡ hands.WriteFault
Means status.NoMemory settings handed read left = handed.end ≡ hands.NoMemory
Means status.LinkFault settings handed read left = read ≡ reads.Ended causes.LinkFault
Means (status.NoAnswer req) settings handed read left = read ≡ reads.Ended (causes.NoAnswer req)
Means (status.RefusedAt register code) settings handed read left = read ≡ reads.Ended (causes.RefusedAt register code)
Means status.Controlled settings handed read left = read ≡ reads.Ended causes.Controlled
Means (status.ControlLost frames) settings handed read left = (read ≡ reads.Ended causes.ControlLost) × (frames ≡ handed.taken)
Means (status.Silent frames) settings handed read left = (read ≡ reads.Silent) × (frames ≡ handed.taken) × (handed.taken ≢ settings.frames)
Means _ settings handed read left = ⊥

-- no write failed, and memory was there for each
abbrev pub is_written : HandedEnd → Bool
is_written hands.Enough = true
is_written hands.Over = true
is_written hands.InputEnded = true
is_written hands.WriteFault = false
is_written hands.NoMemory = false

-- The texts of these buffers were written, in order: all of them, or a front where a write failed or memory was wanting.
pub record WritesTexts (output : Output) (end : HandedEnd) (taken : List Lent) (written written_after : Option (List ℕ)) : Type 0 where
  pub front : WritesFront written written_after (texts_of output taken)
  pub whole : is_written end ≡ true → Appends written written_after (texts_of output taken)
