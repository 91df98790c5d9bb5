-- Scripts whose lines are judged by their numbers and bytes alone: then the bytes decide how a run ends.
use Rattle.std.specs.Prelude.{◌≡◌, ⊤, ℕ, ◌+◌, ◌==◌, nat_lt, List, [], ◌∷◌, length, Option, Some, None, if◌then◌else◌}
use Rattle.gev_script.specs.declared.kind.ScriptKind.{ScriptKind}
use Rattle.gev_script.specs.declared.kind.ScriptKind.TheVariants as kinds
use Rattle.gev_script.specs.Words.{parts_of}
use Rattle.script_runs.specs.declared.ran.Ran.TheVariants.{GoesOn, Ended}
use Rattle.script_runs.specs.declared.ending.Ending.{Ending}
use Rattle.script_runs.specs.declared.ending.Ending.TheVariants.{Done, BadLine, ReadFault, WriteFault, NoMemory}
use Rattle.script_runs.specs.Runs.{Running, Refusing}

-- what a line is to its script
pub data Verdict : Type 0 where
  goes_on : Verdict
  ends : Verdict
  bad : ScriptKind → Verdict

-- what a whole text is as a script: it has a last line, or this line is the first that is refused
pub data Outcome : Type 0 where
  whole : Outcome
  refused : ℕ → ScriptKind → Outcome

-- the outcome by the verdict of the line with this number, where `later` is that of the lines after it
abbrev pub judged : Verdict → ℕ → Outcome → Outcome
judged goes_on n later = later
judged ends n later = whole
judged (bad kind) n later = refused n kind

-- the outcome of these parts of a text, of which the last has no line feed, behind n lines
abbrev pub outcome_of : (ℕ → List ℕ → Verdict) → ℕ → List (List ℕ) → Outcome
outcome_of v n [] = refused (n + 1) kinds.NoEnd
outcome_of v n (rest ∷ []) = if nat_lt 20000 (length rest) then refused (n + 1) kinds.Long else refused (n + 1) kinds.NoEnd
outcome_of v n (line ∷ next ∷ parts) =
    if nat_lt 20000 (length line) then refused (n + 1) kinds.Long
    else if n == 4294967295 then refused (n + 1) kinds.Many
    else judged (v (n + 1) line) (n + 1) (outcome_of v (n + 1) (next ∷ parts))

abbrev pub outcome : (ℕ → List ℕ → Verdict) → List ℕ → Outcome
outcome v content = outcome_of v 0 (parts_of 10 content)

-- The ending of a run over this text, all that a source holds: but for faults and want of memory, the
-- script is whole or this line is refused.
abbrev pub AnswersContent : Ending → Outcome → Type 0
AnswersContent Done whole = ⊤
AnswersContent Done (refused n kind) = ⊥
AnswersContent (BadLine line kind) whole = ⊥
AnswersContent (BadLine line kind) (refused n cause) = (line ≡ n) × (kind ≡ cause)
AnswersContent ReadFault found = ⊤
AnswersContent WriteFault found = ⊤
AnswersContent NoMemory found = ⊤

-- P of the bytes that are left, where the source tells
abbrev pub IfTold : Option (List ℕ) → (List ℕ → Type 0) → Type 0
IfTold None P = ⊤
IfTold (Some bytes) P = P bytes

-- The machine judges lines so: `At m n` says that m is a state behind n lines.
pub record Judges {M : Type 0} (runs : Running M) (refuses : Refusing M) (v : ℕ → List ℕ → Verdict) (At : M → ℕ → Type 0) : Type 0 where
  pub goes : (m new : M) (n : ℕ) (line report : List ℕ) → At m n → runs m (n + 1) line GoesOn report new → (v (n + 1) line ≡ goes_on) × At new (n + 1)
  pub ended : (m new : M) (n : ℕ) (line report : List ℕ) → At m n → runs m (n + 1) line Ended report new → v (n + 1) line ≡ ends
  pub refused_so : (m : M) (n : ℕ) (line : List ℕ) (kind : ScriptKind) → At m n → refuses m (n + 1) line kind → v (n + 1) line ≡ bad kind
