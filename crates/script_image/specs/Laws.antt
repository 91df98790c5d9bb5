-- What the count of taken buffers counts, and what a taken buffer shows.
use Rattle.std.specs.Prelude.{◌≡◌, ℕ, List, [], ◌∷◌, ◌++◌, Option, Some, Ok, true}
use Rattle.gev_types.specs.declared.frame.Frame.{Frame}
use Rattle.gev_types.specs.declared.image_info.ImageInfo.{ImageInfo}
use Rattle.gev_types.specs.Filling.{Filling}
use Rattle.block_image.specs.Infos.{IsInfoOf}
use Rattle.block_image.specs.OneBlock.{AreSent}
use Rattle.frame_pictures.specs.Pictures.{picture_of}
use Rattle.frame_pictures.specs.Laws.{ShowsFrame, ShowsWhatCame}
use Rattle.gev_script.specs.Lines as script_line
use Rattle.board_machine.specs.Machine.{Item, item}
use Rattle.acquisition_machine.specs.declared.config.AcqConfig.{AcqConfig}
use Rattle.acquisition_machine.specs.Blocks.{Open, kept_in}
use Rattle.acquisition_machine.specs.Machine.{Input}
use Rattle.acquisition_machine.specs.Runs.{packets_in}
use Rattle.block_fills.specs.Fills.{IsRetired, IsHandedSo}
use Rattle.script_runs.specs.Runs.{RunsLines, AreLines}
use Rattle.script_trace.specs.Trace.{Trace, Part, grown}
use Rattle.script_trace.specs.BoardLines.{TakesBuffer, TakesNothing}
use Rattle.script_trace.specs.Wide.{Wide}
use Rattle.script_trace.specs.Standing.{running}
use Rattle.script_image.specs.declared.wanted.Wanted.{Wanted}
use Rattle.script_image.specs.Taking.{Taking, beginning, TakingRuns, got_by}

-- A `take` line that takes a buffer gets one, and one that finds nothing gets none.
pub record TakesAreCounted : Type 0 where
  pub one :
      (c : AcqConfig) (w v : Wide) (t : Trace) (moment : ℕ) (part : Part) → TakesBuffer t moment part
      → got_by (Ok script_line.take) (running c w t) (running c v (grown t part)) ≡ 1
  pub none :
      (c : AcqConfig) (w v : Wide) (t : Trace) (moment : ℕ) (part : Part) → TakesNothing t moment part
      → got_by (Ok script_line.take) (running c w t) (running c v (grown t part)) ≡ 0

-- Behind lines that were run, in either version, a buffer that is taken was filled with a block that retired, or has the
-- empty record.
abbrev pub TakenBuffersAreHandedSo : Type 0
TakenBuffersAreHandedSo =
    (wanted : Wanted) (c : AcqConfig) (w : Wide) (t : Trace) (now : Taking) (lines : List (List ℕ)) (shown : List ℕ) (moment : ℕ) (part : Part) → AreLines lines
    → RunsLines (TakingRuns wanted) beginning 0 lines shown now → now.standing ≡ running c w t
    → (takes : TakesBuffer t moment part) → IsHandedSo c t.inputs (item takes.place takes.filling)

-- What the picture of a buffer shows of its block's frame, under a map of frames.
pub record ShowsBlock (frames : ℕ → Option Frame) (p : ℕ) (o : Open) (filling : Filling) : Type 0 where
  -- marked complete, it's the frame's own
  pub complete : filling.rec.complete ≡ true → ShowsFrame frames o.block filling.rec (picture_of filling)
  -- in any case it shows the bytes that came, each in its place, and 0 elsewhere
  pub came : (frame : Frame) → frames o.block ≡ Some frame → ShowsWhatCame frame p (kept_in p o) filling
  -- and its sizes and its pixel format are the frame's
  pub tells : (frame : Frame) (info : ImageInfo) → frames o.block ≡ Some frame → filling.rec.image ≡ Some info → IsInfoOf frame info

-- So it is of each buffer that was filled with a retired block, under each map of frames from which the datagrams of its
-- acquisition were sent.
abbrev pub PicturesShowBlocks : Type 0
PicturesShowBlocks =
    (c : AcqConfig) (inputs : List Input) (x : Item) → (r : IsRetired c inputs x)
    → (frames : ℕ → Option Frame) → AreSent frames c.p (packets_in (r.since ++ r.last ∷ []))
    → ShowsBlock frames c.p r.block.was x.filling
