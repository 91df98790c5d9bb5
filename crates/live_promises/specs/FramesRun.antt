-- A run over a camera's frames, by the whole history of its board: what each worker did, and how that ended.
use Rattle.std.specs.Prelude.{◌≡◌, ℕ, Bool, true, List, [], ◌∷◌, ◌++◌, Option}
use Rattle.board_machine.specs.declared.events.Entry.{Entry}
use Rattle.board_machine.specs.Histories.{After}
use Rattle.acquisition_machine.specs.declared.counts.Counts.{Counts}
use Rattle.acquisition_machine.specs.Machine.{stop}
use Rattle.acquisition_machine.specs.Runs.{After as AfterInputs}
use Rattle.acq_core.specs.Standing.{capped}
use Rattle.gev_links.specs.Links.{Address}
use Rattle.gev_links.specs.Told.{Drops}
use Rattle.gev_acq.specs.Turns.{Outside}
use Rattle.gev_acq.specs.Reading.{FaultsOf}
use Rattle.camera_words.specs.declared.settings.Settings.{Settings}
use Rattle.camera_reader.specs.declared.reader_end.ReaderEnd.{ReaderEnd}
use Rattle.camera_reader.specs.declared.reader_end.ReaderEnd.TheVariants as reads
use Rattle.camera_reader.specs.Reading.{is_fault}
use Rattle.first_leader.specs.declared.leading.FirstLeader.{FirstLeader}
use Rattle.frame_writing.specs.declared.handed_out.HandedEnd.TheVariants as hands
use Rattle.frame_writing.specs.declared.handed_out.HandedOut.{HandedOut}
use Rattle.frame_writing.specs.Work.{has_enough}
use Rattle.frame_writing.specs.declared.receive_counts.ReceiveCounts.{ReceiveCounts}
use Rattle.gev_receive.specs.Answers.{StreamEnd, frames_end}
use Rattle.gev_receive.specs.Starting.{config_of, mode_of, buffer_size, leader_counts, with_counts}
use Rattle.gev_receive.specs.Reader.{inputs_from, with_refused}
use Rattle.gev_receive.specs.Frames.{Pair, FramesHistory, CameraReader, FramesApplication}

-- Reader and application ran, and ended so. Buffers have one size, and blocks are received as the words and the first
-- leader say.
pub record FramesRun (settings : Settings) (camera : Address) (leader : FirstLeader) (resends : Bool) (o n : Outside) (stream stream_after control control_after : ℕ)
    (app app_after : Option (List ℕ)) (written written_after : Option (List ℕ)) (faults faults_after : ℕ) (input left : Option (List ℕ)) (misses misses_after : ℕ)
    (end : StreamEnd) (counts : ReceiveCounts) (h : List Entry) : Type 0 where
  pub crew : Pair
  pub history : FramesHistory (mode_of settings.mode) (buffer_size settings leader) settings.buffers crew h
  pub read : ReaderEnd
  pub reader_part : CameraReader (mode_of settings.mode) (config_of settings leader resends) leader.ids camera settings.silence (buffer_size settings leader) o n crew.reader read h
  pub reader_faults : FaultsOf (is_fault read) stream stream_after control control_after
  pub handed : HandedOut
  pub application_part : FramesApplication (mode_of settings.mode) settings.output settings.frames crew.application handed app app_after written written_after faults faults_after
      settings.until_input_ends left h
  pub dropped : Drops input left
  pub unmissed : misses_after ≡ misses
  pub counted : Counts
  pub counted_is : counted ≡ with_refused (capped (AfterInputs (config_of settings leader resends) (inputs_from reader_part.begin reader_part.made ++ stop ∷ [])).counts) reader_part.refused
  pub ended : end ≡ frames_end handed.end read settings.frames handed.taken
  pub counts_are : counts ≡ with_counts (leader_counts settings leader) handed.taken handed.complete counted
  -- where the application found the run over no buffer is left in the output
  pub none_left : handed.end ≡ hands.Over → (After h).out ≡ []
  -- a reader that found the run stopped was stopped by an application that has enough
  pub stopped_by : read ≡ reads.Stopped → has_enough handed.end ≡ true
