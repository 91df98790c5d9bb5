-- What a run of a script has read and written by its answer, for any kind of script.
use Rattle.std.specs.Prelude.{⊤, ◌≡◌, ℕ, List, ◌++◌, Option}
use Rattle.gev_links.specs.Told.{Appends}
use Rattle.script_runs.specs.declared.ran.Ran.{Ran}
use Rattle.script_runs.specs.declared.ending.Ending.{Ending}
use Rattle.script_runs.specs.declared.ending.Ending.TheVariants as endings
use Rattle.script_runs.specs.Runs.{Running, Refusing, RunTo}
use Rattle.script_runs.specs.Outcomes.{EndsAt}
use Rattle.script_runs.specs.Verdicts.{Outcome, whole, refused}
use Rattle.gev_status.specs.declared.status.Status.{Status}
use Rattle.gev_status.specs.declared.status.Status.TheVariants.{Done, Usage, BadScript, ReadFault, WriteFault, LinkFault, NoMemory, NoAnswer, Refused, TurnsSpent, BadCapture, NoPicture, Silent, Controlled, NoDescription, ControlLost, NoDatagram, RefusedAt}

-- The line is run from one state to another, of which this holds.
pub record RunsWell {M : Type 0} (moves : Running M) (Keeps : M → Type 0) (m : M) (n : ℕ) (line : List ℕ) (ran : Ran) (report : List ℕ) (new : M) : Type 0 where
  pub runs : moves m n line ran report new
  pub keeps : Keeps new

-- Behind its lines a script stands so: `Says` holds of their report, and it ends so.
pub record EndsWell {M : Type 0} (runs : Running M) (refuses : Refusing M) (Keeps : M → Type 0) (Says : List ℕ → M → Type 0) (now : M) (n : ℕ) (rest text : List ℕ) (ending : Ending) (left_after : Option (List ℕ)) (reads reads_after : ℕ) (written written_after : Option (List ℕ)) (writes writes_after : ℕ) : Type 0 where
  pub keeps : Keeps now
  pub said : Says text now
  pub ends : EndsAt (RunsWell runs Keeps) refuses now n rest ending left_after reads reads_after writes writes_after (λ report. Appends written written_after (text ++ report))

-- What a run has read and written by its ending: some lines were run, from the first, and their report
-- was written; `left` is what the source had left, `written` what stood in the sink, and the numbers are
-- the counts of faults of both.
abbrev pub Ends : {M : Type 0} → Running M → Refusing M → (M → Type 0) → (List ℕ → M → Type 0) → M → Ending → Option (List ℕ) → Option (List ℕ) → ℕ → ℕ → Option (List ℕ) → Option (List ℕ) → ℕ → ℕ → Type 0
Ends runs refuses Keeps Says m ending left left_after reads reads_after written written_after writes writes_after =
    RunTo (RunsWell runs Keeps) m left left_after
    (λ now n rest text. EndsWell runs refuses Keeps Says now n rest text ending left_after reads reads_after written written_after writes writes_after)

-- the answer of a script by its ending
abbrev pub status_of : Ending → Status
status_of endings.Done = Done
status_of (endings.BadLine line kind) = BadScript line kind
status_of endings.ReadFault = ReadFault
status_of endings.WriteFault = WriteFault
status_of endings.NoMemory = NoMemory

-- this of the ending that the answer stands for
abbrev pub IfEnded : (Ending → Type 0) → Status → Type 0
IfEnded P Done = P endings.Done
IfEnded P (BadScript line kind) = P (endings.BadLine line kind)
IfEnded P ReadFault = P endings.ReadFault
IfEnded P WriteFault = P endings.WriteFault
IfEnded P NoMemory = P endings.NoMemory
IfEnded P (Usage place) = ⊥
IfEnded P (NoAnswer req) = ⊥
IfEnded P (Refused status) = ⊥
IfEnded P LinkFault = ⊥
IfEnded P (TurnsSpent turns frames) = ⊥
IfEnded P (BadCapture number kind) = ⊥
IfEnded P (NoPicture why) = ⊥
IfEnded P (Silent frames) = ⊥
IfEnded P Controlled = ⊥
IfEnded P NoDescription = ⊥
IfEnded P (ControlLost frames) = ⊥
IfEnded P (NoDatagram port) = ⊥
IfEnded P (RefusedAt register code) = ⊥

-- The answer to these bytes, all that a source holds: but for faults and want of memory, the script is
-- whole, or this line is the first that is refused.
abbrev pub AnswersContent : Status → Outcome → Type 0
AnswersContent Done whole = ⊤
AnswersContent Done (refused n cause) = ⊥
AnswersContent (BadScript line kind) whole = ⊥
AnswersContent (BadScript line kind) (refused n cause) = (line ≡ n) × (kind ≡ cause)
AnswersContent ReadFault found = ⊤
AnswersContent WriteFault found = ⊤
AnswersContent NoMemory found = ⊤
AnswersContent (Usage place) found = ⊥
AnswersContent (NoAnswer req) found = ⊥
AnswersContent (Refused status) found = ⊥
AnswersContent LinkFault found = ⊥
AnswersContent (TurnsSpent turns frames) found = ⊥
AnswersContent (BadCapture number kind) found = ⊥
AnswersContent (NoPicture why) found = ⊥
AnswersContent (Silent frames) found = ⊥
AnswersContent Controlled found = ⊥
AnswersContent NoDescription found = ⊥
AnswersContent (ControlLost frames) found = ⊥
AnswersContent (NoDatagram port) found = ⊥
AnswersContent (RefusedAt register code) found = ⊥
