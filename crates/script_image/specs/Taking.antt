-- A replay that counts the buffers which its `take` lines get, and shows those that are wanted.
use Rattle.std.specs.Prelude.{◌≡◌, ℕ, zero, suc, ◌+◌, ◌-◌, List, [], ◌∷◌, length, Result, Ok, Err}
use Rattle.gev_script.specs.declared.kind.ScriptKind.{ScriptKind}
use Rattle.gev_script.specs.Lines as script_line
use Rattle.gev_script.specs.Lines.{ScriptLine}
use Rattle.gev_script.specs.Words.{Read}
use Rattle.gev_script.specs.Grammar.{line_of}
use Rattle.board_machine.specs.Machine.{Item}
use Rattle.frame_pictures.specs.declared.no_picture.NoPicture.{NoPicture}
use Rattle.frame_pictures.specs.Pictures.{picture_of}
use Rattle.script_runs.specs.declared.ran.Ran.{Ran}
use Rattle.script_trace.specs.Trace.{board}
use Rattle.script_trace.specs.Modes.{handed_out}
use Rattle.script_trace.specs.Standing.{Standing, first, running, ReplayRuns, ReplayRefuses}
use Rattle.script_image.specs.declared.wanted.Wanted.{Wanted}
use Rattle.script_image.specs.declared.wanted.Wanted.TheVariants.{One, All}

pub record Taking : Type 0 where
  -- how the script stands
  pub standing : Standing
  -- how many buffers its `take` lines got so far
  pub taken : ℕ

-- before the first line
abbrev pub beginning : Taking
beginning = record { standing = first; taken = 0 }

-- how many buffers were handed out so far, by whatever line
abbrev pub handed_in : Standing → ℕ
handed_in first = 0
handed_in (running c w t) = length (handed_out t.entries)

-- How many buffers a line gets that leads from one standing to another: those that it hands out, where it's a
-- `take` line. (A `step` that takes gets none.)
abbrev pub got_by : Read ScriptLine → Standing → Standing → ℕ
got_by (Ok script_line.take) s t = handed_in t - handed_in s
got_by _ s t = 0

-- ---- pictures

-- the text of a picture; nothing, where there is none
abbrev pub shown_text : Result (List ℕ) NoPicture → List ℕ
shown_text (Ok text) = text
shown_text (Err why) = []

-- the picture of the first of these
abbrev pub first_shown : List Item → List ℕ
first_shown [] = []
first_shown (x ∷ xs) = shown_text (picture_of x.filling)

-- The picture of what a line gets from here, where it gets one: the output's first.
abbrev pub shown_by : ℕ → Standing → List ℕ
shown_by zero s = []
shown_by (suc got) first = []
shown_by (suc got) (running c w t) = first_shown (board t).out

-- of the lines before the one that gets the wanted buffer nothing is shown
abbrev pub shown_if : Wanted → List ℕ → List ℕ
shown_if (One k) picture = []
shown_if All picture = picture

-- ---- lines

-- The line is run as a replay runs it, what it gets is counted, and this is shown of it.
pub record TakingRuns (w : Wanted) (m : Taking) (n : ℕ) (text : List ℕ) (ran : Ran) (shown : List ℕ) (new : Taking) : Type 0 where
  pub report : List ℕ
  pub runs : ReplayRuns m.standing n text ran report new.standing
  pub counted : new.taken ≡ m.taken + got_by (line_of text) m.standing new.standing
  pub is : shown ≡ shown_if w (shown_by (got_by (line_of text) m.standing new.standing) m.standing)

-- It is refused as a replay refuses it.
abbrev pub TakingRefuses : Taking → ℕ → List ℕ → ScriptKind → Type 0
TakingRefuses m n text kind = ReplayRefuses m.standing n text kind
