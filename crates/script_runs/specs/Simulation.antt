-- Two ways to see the states of one machine.
use Rattle.std.specs.Prelude.{ℕ, List}
use Rattle.gev_script.specs.declared.kind.ScriptKind.{ScriptKind}
use Rattle.script_runs.specs.declared.ran.Ran.{Ran}
use Rattle.script_runs.specs.Runs.{Running, Refusing}

-- Where one state stands for another, each line that is run from the one is run from the other, with
-- the same report, to states of which again one stands for the other.
abbrev pub Simulates : {M S : Type 0} → Running M → Running S → (M → S → Type 0) → Type 0
Simulates {M} {S} runs runs_as Stands =
    (m new : M) (s : S) (n : ℕ) (line : List ℕ) (ran : Ran) (report : List ℕ) → Stands m s → runs m n line ran report new
    → (t : S) × runs_as s n line ran report t × Stands new t

-- A line that is refused in the one is refused in the other, for the same cause.
abbrev pub RefusesAlike : {M S : Type 0} → Refusing M → Refusing S → (M → S → Type 0) → Type 0
RefusesAlike {M} {S} refuses refuses_as Stands =
    (m : M) (s : S) (n : ℕ) (line : List ℕ) (kind : ScriptKind) → Stands m s → refuses m n line kind → refuses_as s n line kind
