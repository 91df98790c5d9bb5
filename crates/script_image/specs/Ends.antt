-- What the writing of pictures has read and written, by how it ended.
use Rattle.std.specs.Prelude.{◌≡◌, ◌≢◌, ⊤, ◌⊎◌, ℕ, ◌+◌, ◌<◌, ◌≤◌, List, [], ◌++◌, min, Option, None, Ok, Err, Result}
use Rattle.gev_links.specs.Faults.{Rose}
use Rattle.gev_links.specs.Told.{Appends}
use Rattle.gev_script.specs.Lines as script_line
use Rattle.gev_script.specs.Grammar.{line_of}
use Rattle.gev_script.specs.Streams.{IsOpen, IsLine}
use Rattle.board_machine.specs.Machine.{item}
use Rattle.acquisition_machine.specs.declared.config.AcqConfig.{AcqConfig}
use Rattle.frame_pictures.specs.declared.no_picture.NoPicture.{NoPicture}
use Rattle.frame_pictures.specs.declared.no_picture.NoPicture.TheVariants.{Taken, NoneOf, NoLeader, PixelFormat, NoPixels, PartBytes}
use Rattle.frame_pictures.specs.Pictures.{picture_of}
use Rattle.picture_report.specs.Writing.{Draws, DrawsFront}
use Rattle.script_runs.specs.declared.ran.Ran.TheVariants.{GoesOn, Ended}
use Rattle.script_runs.specs.Runs.{RunTo}
use Rattle.script_runs.specs.Outcomes.{RunsLast, RefusesUnread, RefusesLine}
use Rattle.script_runs.specs.Verdicts.{Outcome, whole, refused}
use Rattle.script_trace.specs.Trace.{Trace, Part}
use Rattle.script_trace.specs.BoardLines.{TakesBuffer}
use Rattle.script_trace.specs.Adding.{AddsPart}
use Rattle.script_trace.specs.Fills.{IsHandedSo}
use Rattle.script_trace.specs.Wide.{Wide}
use Rattle.script_trace.specs.Standing.{running, later_kind, ReplayRuns}
use Rattle.script_image.specs.declared.image_end.ImageEnd.{ImageEnd}
use Rattle.script_image.specs.declared.image_end.ImageEnd.TheVariants.{Done, BadLine, ReadFault, WriteFault, NoMemory}
use Rattle.script_image.specs.declared.image_end.ImageEnd.TheVariants as image_ends
use Rattle.script_image.specs.declared.wanted.Wanted.{Wanted}
use Rattle.script_image.specs.declared.wanted.Wanted.TheVariants.{One, All}
use Rattle.script_image.specs.Taking.{Taking, beginning, TakingRuns, TakingRefuses}

-- Behind n lines the bytes begin with a `take` line that gets the buffer which is wanted, the output's first. It was
-- filled with a block that retired, or has the empty record, and P holds of its picture.
pub record TakesWanted (wanted : ℕ) (now : Taking) (n : ℕ) (rest : List ℕ) (P : Result (List ℕ) NoPicture → Type 0) : Type 0 where
  pub text : List ℕ
  pub held : List ℕ
  pub is_line : IsLine rest text held
  pub counted : n + 1 ≤ 4294967295
  pub in_place : later_kind text ≡ None
  pub read : line_of text ≡ Ok script_line.take
  pub config : AcqConfig
  pub wide : Wide
  pub trace : Trace
  pub stands : now.standing ≡ running config wide trace
  pub moment : ℕ
  pub part : Part
  pub adds : AddsPart config trace script_line.take part
  pub takes : TakesBuffer trace moment part
  pub last : now.taken + 1 ≡ wanted
  pub is_so : IsHandedSo config trace.inputs (item takes.place takes.filling)
  pub shown : P (picture_of takes.filling)

-- The bytes begin with the script's last line, and this many buffers were taken.
pub record EndsBefore (count : ℕ) (now : Taking) (n : ℕ) (rest : List ℕ) : Type 0 where
  pub last : RunsLast ReplayRuns now.standing n Ended rest (λ report. ⊤)
  pub taken : count ≡ now.taken

-- The wanted buffer has no picture, for this cause.
abbrev pub HasNone : ℕ → Taking → ℕ → List ℕ → NoPicture → Type 0
HasNone wanted now n rest (Taken count) = EndsBefore count now n rest
HasNone wanted now n rest (NoneOf count) = ⊥
HasNone wanted now n rest NoLeader = TakesWanted wanted now n rest (λ shown. shown ≡ Err NoLeader)
HasNone wanted now n rest (PixelFormat pixel) = TakesWanted wanted now n rest (λ shown. shown ≡ Err (PixelFormat pixel))
HasNone wanted now n rest NoPixels = TakesWanted wanted now n rest (λ shown. shown ≡ Err NoPixels)
HasNone wanted now n rest PartBytes = TakesWanted wanted now n rest (λ shown. shown ≡ Err PartBytes)

-- ---- one picture

-- Behind n lines the run for one picture ends so, with these bytes read behind them.
abbrev pub OneEndsBy : ℕ → Taking → ℕ → List ℕ → ImageEnd → Option (List ℕ) → ℕ → ℕ → Option (List ℕ) → Option (List ℕ) → ℕ → ℕ → Type 0
OneEndsBy wanted now n rest Done left reads reads_after written written_after writes writes_after =
    TakesWanted wanted now n rest (λ shown. Draws shown written written_after)
OneEndsBy wanted now n rest (image_ends.NoPicture why) left reads reads_after written written_after writes writes_after =
    HasNone wanted now n rest why × (written_after ≡ written)
OneEndsBy wanted now n rest (BadLine number kind) left reads reads_after written written_after writes writes_after =
    (number ≡ n + 1) × (RefusesUnread kind rest left ⊎ RefusesLine TakingRefuses now n rest kind) × (written_after ≡ written)
OneEndsBy wanted now n rest ReadFault left reads reads_after written written_after writes writes_after =
    Rose reads reads_after × IsOpen rest × (written_after ≡ written)
OneEndsBy wanted now n rest WriteFault left reads reads_after written written_after writes writes_after =
    Rose writes writes_after × TakesWanted wanted now n rest (λ shown. DrawsFront shown written written_after)
OneEndsBy wanted now n rest NoMemory left reads reads_after written written_after writes writes_after = written_after ≡ written

-- The lines so far got fewer buffers than are wanted.
pub record OneEnds (wanted : ℕ) (now : Taking) (n : ℕ) (rest : List ℕ) (ending : ImageEnd) (left : Option (List ℕ)) (reads reads_after : ℕ) (written written_after : Option (List ℕ)) (writes writes_after : ℕ) : Type 0 where
  pub fewer : now.taken < wanted
  pub ends : OneEndsBy wanted now n rest ending left reads reads_after written written_after writes writes_after

-- ---- all pictures

-- Nothing was shown of so many buffers, and this is why. A count that is told stands still at its type's end.
abbrev pub ShowsNone : NoPicture → ℕ → Type 0
ShowsNone (Taken count) taken = (count ≡ 0) × (taken ≡ 0)
ShowsNone (NoneOf count) taken = (count ≡ min taken 4294967295) × (1 ≤ taken)
ShowsNone NoLeader taken = ⊥
ShowsNone (PixelFormat pixel) taken = ⊥
ShowsNone NoPixels taken = ⊥
ShowsNone PartBytes taken = ⊥

-- Behind these pictures a front of this one was written.
pub record ShowsPart (written written_after : Option (List ℕ)) (shown picture : List ℕ) : Type 0 where
  pub front : List ℕ
  pub rest : List ℕ
  pub parts : picture ≡ front ++ rest
  pub appended : Appends written written_after (shown ++ front)

-- Behind n lines, of which these are the pictures, the run for all ends so, with these bytes read behind them.
abbrev pub AllEndBy : Taking → ℕ → List ℕ → List ℕ → ImageEnd → Option (List ℕ) → ℕ → ℕ → Option (List ℕ) → Option (List ℕ) → ℕ → ℕ → Type 0
AllEndBy now n rest shown Done left reads reads_after written written_after writes writes_after =
    EndsBefore now.taken now n rest × (shown ≢ []) × Appends written written_after shown
AllEndBy now n rest shown (image_ends.NoPicture why) left reads reads_after written written_after writes writes_after =
    EndsBefore now.taken now n rest × ShowsNone why now.taken × (shown ≡ []) × (written_after ≡ written)
AllEndBy now n rest shown (BadLine number kind) left reads reads_after written written_after writes writes_after =
    (number ≡ n + 1) × (RefusesUnread kind rest left ⊎ RefusesLine TakingRefuses now n rest kind) × Appends written written_after shown
AllEndBy now n rest shown ReadFault left reads reads_after written written_after writes writes_after =
    Rose reads reads_after × IsOpen rest × Appends written written_after shown
AllEndBy now n rest shown WriteFault left reads reads_after written written_after writes writes_after =
    Rose writes writes_after × RunsLast (TakingRuns All) now n GoesOn rest (ShowsPart written written_after shown)
AllEndBy now n rest shown NoMemory left reads reads_after written written_after writes writes_after = Appends written written_after shown

-- ---- by what is wanted

abbrev pub EndsBy : Wanted → Taking → ℕ → List ℕ → List ℕ → ImageEnd → Option (List ℕ) → ℕ → ℕ → Option (List ℕ) → Option (List ℕ) → ℕ → ℕ → Type 0
EndsBy (One wanted) now n rest shown ending left reads reads_after written written_after writes writes_after =
    OneEnds wanted now n rest ending left reads reads_after written written_after writes writes_after
EndsBy All now n rest shown ending left reads reads_after written written_after writes writes_after =
    AllEndBy now n rest shown ending left reads reads_after written written_after writes writes_after

-- What was read and written, by the ending: lines were run from the first on as a replay runs them, and none of
-- their report was written; with one picture wanted nothing was written of lines before its own, with all the pictures
-- of what their `take` lines got, in order. `left` is what the source had left, `written` what stood in the sink, and
-- the numbers are the counts of faults of both.
abbrev pub ImageEnds : Wanted → ImageEnd → Option (List ℕ) → Option (List ℕ) → ℕ → ℕ → Option (List ℕ) → Option (List ℕ) → ℕ → ℕ → Type 0
ImageEnds wanted ending left left_after reads reads_after written written_after writes writes_after =
    RunTo (TakingRuns wanted) beginning left left_after
    (λ now n rest shown. EndsBy wanted now n rest shown ending left_after reads reads_after written written_after writes writes_after)

-- The ending over these bytes, all that a source holds: a line is refused just where it's the first that the bytes
-- have, and a script ended before the buffer, or with all pictures, just where it's whole.
abbrev pub AnswersContent : Wanted → ImageEnd → Outcome → Type 0
AnswersContent All Done found = found ≡ whole
AnswersContent wanted (image_ends.NoPicture (Taken count)) found = found ≡ whole
AnswersContent wanted (image_ends.NoPicture (NoneOf count)) found = found ≡ whole
AnswersContent wanted (BadLine number kind) found = found ≡ refused number kind
AnswersContent wanted _ found = ⊤

-- a number of a buffer counts from 1
abbrev pub IsInRange : Wanted → Type 0
IsInRange (One wanted) = 1 ≤ wanted
IsInRange All = ⊤

-- the endings where nothing outside failed; want of memory is one of them
abbrev pub IsComplete : ImageEnd → Type 0
IsComplete Done = ⊤
IsComplete (image_ends.NoPicture why) = ⊤
IsComplete (BadLine number kind) = ⊤
IsComplete NoMemory = ⊤
IsComplete ReadFault = ⊥
IsComplete WriteFault = ⊥
