-- The states of the run of a script whose pictures are written, and what its steps do.
use Rattle.std.specs.Prelude.{◌≡◌, ◌≢◌, ⊤, ℕ, ◌+◌, ◌<◌, ◌≤◌, ◌==◌, ◌||◌, Bool, true, false, List, [], ◌∷◌, ◌++◌, min, Option, Some, None, Result, Ok, Err, if◌then◌else◌}
use Rattle.std.specs.List.{AllByRecursion}
use Rattle.gev_links.specs.Faults.{Rose}
use Rattle.gev_links.specs.Told.{Appends}
use Rattle.gev_types.specs.Filling.{Filling}
use Rattle.board_model.specs.Plain.{content_at, HasBuf}
use Rattle.frame_pictures.specs.declared.no_picture.NoPicture.{NoPicture}
use Rattle.frame_pictures.specs.declared.no_picture.NoPicture.TheVariants.{Taken, NoneOf}
use Rattle.frame_pictures.specs.Pictures.{picture_of}
use Rattle.gev_script.specs.declared.line_end.LineEnd.{LineEnd}
use Rattle.gev_script.specs.declared.line_end.LineEnd.TheVariants as lines_ends
use Rattle.gev_script.specs.declared.kind.ScriptKind.TheVariants as kinds
use Rattle.gev_script.specs.Streams.{LinesState, IsLine, ReadsOn}
use Rattle.picture_report.specs.Writing.{DrawsFront}
use Rattle.script_runs.specs.declared.ran.Ran.TheVariants.{GoesOn}
use Rattle.script_runs.specs.declared.stop.Stop.{Stop}
use Rattle.script_runs.specs.declared.stop.Stop.TheVariants as stops
use Rattle.script_trace.specs.Trace.{Trace, board}
use Rattle.script_trace.specs.Fills.{IsHandedSo}
use Rattle.script_trace.specs.Standing.{Standing, first, running}
use Rattle.script_replay.specs.declared.script.Script.{Script}
use Rattle.script_replay.specs.Replays.{StandsFor}
use Rattle.script_image.specs.declared.image_end.ImageEnd.{ImageEnd}
use Rattle.script_image.specs.declared.image_end.ImageEnd.TheVariants.{Done, BadLine, ReadFault, WriteFault, NoMemory}
use Rattle.script_image.specs.declared.image_end.ImageEnd.TheVariants as ends
use Rattle.script_image.specs.declared.wanted.Wanted.{Wanted}
use Rattle.script_image.specs.declared.wanted.Wanted.TheVariants.{One, All}
use Rattle.script_image.specs.Drawing.{DrawsThere}
use Rattle.script_image.specs.Taking.{Taking, TakingRuns, shown_text}
use Rattle.script_image.specs.Ends.{EndsBy}

pub record ShowingState : Type 0 where
  -- None while the header is still to come
  pub script : Option Script
  -- which pictures are wanted
  pub wanted : Wanted
  -- how many buffers were taken
  pub taken : ℕ
  -- whether a picture was written
  pub shown : Bool

abbrev pub has_text : List ℕ → Bool
has_text [] = false
has_text (x ∷ xs) = true

-- With these pictures written, so many buffers were taken as the state counts.
abbrev pub Counts : Wanted → List ℕ → ℕ → Bool → ℕ → Type 0
Counts (One k) shown taken marked count = (taken ≡ count) × (count < k) × (shown ≡ [])
Counts All shown taken marked count = (taken ≡ min count 4294967295) × (marked ≡ has_text shown)

-- The state stands for a script of whose buffers these pictures were written.
pub record IsShowing (w : Wanted) (shown : List ℕ) (i : ShowingState) (s : Taking) : Type 0 where
  pub same : i.wanted ≡ w
  pub script : StandsFor i.script s.standing
  pub counts : Counts w shown i.taken i.shown s.taken

-- it stands for some script
pub record IsShowingSome (i : ShowingState) : Type 0 where
  pub shown : List ℕ
  pub now : Taking
  pub is : IsShowing i.wanted shown i now

-- the wanted buffer wasn't taken yet
abbrev pub IsBelow : Wanted → ℕ → Type 0
IsBelow (One k) taken = taken < k
IsBelow All taken = ⊤

-- each buffer that waits was filled with a block that retired, or has the empty record
abbrev pub WaitsSo : Standing → Type 0
WaitsSo first = ⊤
WaitsSo (running c w t) = AllByRecursion (IsHandedSo c t.inputs) (board t).out

-- ---- a buffer that was taken

-- a buffer lies at this place
abbrev pub LiesAt : ℕ → Option Script → Type 0
LiesAt place o = (script : Script) × (o ≡ Some script) × HasBuf script.running.board place

-- it was drawn
pub record DrawsIn (end : ImageEnd) (o : Option Script) (place : ℕ) (written written_after : Option (List ℕ)) (writes writes_after : ℕ) : Type 0 where
  pub script : Script
  pub has : o ≡ Some script
  pub there : DrawsThere end script.running.board place written written_after writes writes_after

abbrev pub is_done : ImageEnd → Bool
is_done Done = true
is_done _ = false

-- the end of a run for all pictures by how one was written: one that there isn't is passed over
abbrev pub stop_by : ImageEnd → Option ImageEnd
stop_by Done = None
stop_by (ends.NoPicture why) = None
stop_by end = Some end

-- what was done with the buffer at this place, by what is wanted
abbrev pub ShowsThere : Wanted → Option ImageEnd → ShowingState → ShowingState → ℕ → Option (List ℕ) → Option (List ℕ) → ℕ → ℕ → Type 0
ShowsThere (One k) None old new place written written_after writes writes_after =
    (old.taken + 1 ≢ k) × (new.taken ≡ old.taken + 1) × (written_after ≡ written) × (writes_after ≡ writes)
ShowsThere (One k) (Some end) old new place written written_after writes writes_after =
    (old.taken + 1 ≡ k) × DrawsIn end old.script place written written_after writes writes_after
ShowsThere All stop old new place written written_after writes writes_after =
    (new.taken ≡ min (old.taken + 1) 4294967295)
    × ((end : ImageEnd) × (stop ≡ stop_by end) × (new.shown ≡ (old.shown || is_done end)) × DrawsIn end old.script place written written_after writes writes_after)

pub record ShowsTaken (stop : Option ImageEnd) (old new : ShowingState) (place : ℕ) (written written_after : Option (List ℕ)) (writes writes_after : ℕ) : Type 0 where
  pub script : new.script ≡ old.script
  pub wanted : new.wanted ≡ old.wanted
  pub did : ShowsThere old.wanted stop old new place written written_after writes writes_after

-- ---- a line

-- the end behind the last line, by whether a picture was written and how many buffers were taken
abbrev pub last_end : Wanted → ℕ → Bool → ImageEnd
last_end (One k) taken shown = ends.NoPicture (Taken taken)
last_end All taken true = Done
last_end All taken false = if taken == 0 then ends.NoPicture (Taken 0) else ends.NoPicture (NoneOf taken)

-- the end where the line with this number wasn't run
abbrev pub stopped : ℕ → Stop → ImageEnd
stopped number (stops.Refused kind) = BadLine number kind
stopped number stops.NoMemory = NoMemory

-- The line after n others is run, and the script goes on with these pictures written.
pub record ShowsOn (w : Wanted) (shown : List ℕ) (s : Taking) (n : ℕ) (line : List ℕ) (new : ShowingState) (written written_after : Option (List ℕ)) : Type 0 where
  pub picture : List ℕ
  pub to : Taking
  pub run : TakingRuns w s (n + 1) line GoesOn picture to
  pub is : IsShowing w (shown ++ picture) new to
  pub appended : Appends written written_after picture

-- What the line after n others came to, behind these pictures, which were written since `begun`.
abbrev pub ComesTo : Wanted → Option ImageEnd → List ℕ → Taking → ℕ → List ℕ → ShowingState → Option (List ℕ) → Option (List ℕ) → Option (List ℕ) → ℕ → ℕ → Type 0
ComesTo w None shown s n line new begun written written_after writes writes_after = ShowsOn w shown s n line new written written_after
ComesTo w (Some end) shown s n line new begun written written_after writes writes_after =
    (rest held : List ℕ) (left : Option (List ℕ)) (reads reads_after : ℕ) → IsLine rest line held
    → EndsBy w s n rest shown end left reads reads_after begun written_after writes writes_after

-- So it is behind whatever pictures the state stands for.
abbrev pub ComesAs : Option ImageEnd → ShowingState → ShowingState → ℕ → List ℕ → Option (List ℕ) → Option (List ℕ) → ℕ → ℕ → Type 0
ComesAs stop old new number line written written_after writes writes_after =
    (w : Wanted) (shown : List ℕ) (s : Taking) (n : ℕ) (begun : Option (List ℕ)) → IsShowing w shown old s → WaitsSo s.standing → number ≡ n + 1
    → number ≤ 4294967295 → Appends begun written shown → ComesTo w stop shown s n line new begun written written_after writes writes_after

-- ---- a turn

-- the ending of a script whose next line, the one after n others, can't be read
abbrev pub unread_end : ℕ → LineEnd → ImageEnd
unread_end n lines_ends.Long = BadLine (n + 1) kinds.Long
unread_end n lines_ends.NoEnd = BadLine (n + 1) kinds.NoEnd
unread_end n lines_ends.Many = BadLine (n + 1) kinds.Many
unread_end n lines_ends.ReadFault = ReadFault

-- A line was read, run and shown, and the script goes on.
pub record TurnsOn (w : Wanted) (shown : List ℕ) (s : Taking) (new : ShowingState) (lines lines_after : LinesState) (left left_after written written_after : Option (List ℕ)) : Type 0 where
  pub next : lines_after.given ≡ lines.given + 1
  pub few : lines_after.given ≤ 4294967295
  pub unrefused : lines_after.refusal ≡ None
  pub reads : ReadsOn lines.held left left_after (λ bytes. IsLine bytes lines_after.line lines_after.held)
  pub shows : ShowsOn w shown s lines.given lines_after.line new written written_after

-- One turn behind these pictures, which were written since `begun`.
abbrev pub Turn : Wanted → Option ImageEnd → List ℕ → Taking → ShowingState → LinesState → LinesState → Option (List ℕ) → Option (List ℕ) → ℕ → ℕ → Option (List ℕ) → Option (List ℕ) → Option (List ℕ) → ℕ → ℕ → Type 0
Turn w None shown s new lines lines_after left left_after reads reads_after begun written written_after writes writes_after =
    TurnsOn w shown s new lines lines_after left left_after written written_after
Turn w (Some end) shown s new lines lines_after left left_after reads reads_after begun written written_after writes writes_after =
    ReadsOn lines.held left left_after
    (λ rest. EndsBy w s lines.given rest shown end left_after reads reads_after begun written_after writes writes_after)
