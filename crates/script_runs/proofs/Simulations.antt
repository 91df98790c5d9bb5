-- A run over one kind of states is a run over another that they stand for.
use Rattle.std.proofs.Common.{ℕ, ◌+◌, List, [], ◌∷◌, length, Option, refl, sym, subst, inl, inr}
use Rattle.gev_script.specs.declared.kind.ScriptKind.{ScriptKind}
use Rattle.script_runs.specs.declared.ran.Ran.{Ran}
use Rattle.script_runs.specs.declared.ran.Ran.TheVariants.{Ended}
use Rattle.script_runs.specs.declared.ending.Ending.{Ending}
use Rattle.script_runs.specs.declared.ending.Ending.TheVariants.{Done, BadLine, ReadFault, WriteFault, NoMemory}
use Rattle.script_runs.specs.Runs.{Running, Refusing, RunsLines}
use Rattle.script_runs.specs.Outcomes.{RunsLast, RefusesLine, EndsAt, RunEnds}
use Rattle.script_runs.specs.Simulation.{Simulates, RefusesAlike}

module _ {M S : Type 0} (runs : Running M) (refuses : Refusing M) (runs_as : Running S) (refuses_as : Refusing S) (Stands : M → S → Type 0)
    (step : Simulates runs runs_as Stands) (refusal : RefusesAlike refuses refuses_as Stands) where
  lines_as : (m new : M) (s : S) (n : ℕ) (lines : List (List ℕ)) (text : List ℕ) → Stands m s → RunsLines runs m n lines text new
      → (t : S) × RunsLines runs_as s n lines text t × Stands new t
  lines_as m new s n [] text st h = (s, (h.0, refl), subst (λ x. Stands x s) (sym h.1) st)
  lines_as m new s n (line ∷ lines) text st h =
      let first = step m h.0 s (n + 1) line _ h.1 st h.3 in
      let later = lines_as h.0 new first.0 (n + 1) lines h.2 first.2 h.4 in
      (later.0, (first.0, h.1, h.2, first.1, later.1, h.5), later.2)

  last_as : (now : M) (s : S) (n : ℕ) (ran : Ran) (rest : List ℕ) (P : List ℕ → Type 0) → Stands now s → RunsLast runs now n ran rest P → RunsLast runs_as s n ran rest P
  last_as now s n ran rest P st h =
      let after = step now h.final s (n + 1) h.line ran h.report st h.run in
      record {
        line = h.line;
        held = h.held;
        final = after.0;
        report = h.report;
        is_line = h.is_line;
        counted = h.counted;
        run = after.1;
        holds = h.holds;
      }

  refuses_line_as : (now : M) (s : S) (n : ℕ) (rest : List ℕ) (kind : ScriptKind) → Stands now s → RefusesLine refuses now n rest kind → RefusesLine refuses_as s n rest kind
  refuses_line_as now s n rest kind st h = record {
    line = h.line;
    held = h.held;
    is_line = h.is_line;
    refused = elim h.refused [ inl many ↦ inl many | inr cause ↦ inr (cause.0, refusal now s (n + 1) h.line kind st cause.1) ];
  }

  ends_at_as : (now : M) (s : S) (n : ℕ) (rest : List ℕ) (ending : Ending) (left : Option (List ℕ)) (a b c d : ℕ) (Wrote : List ℕ → Type 0) → Stands now s
      → EndsAt runs refuses now n rest ending left a b c d Wrote → EndsAt runs_as refuses_as s n rest ending left a b c d Wrote
  ends_at_as now s n rest Done left a b c d Wrote st h = last_as now s n Ended rest Wrote st h
  ends_at_as now s n rest (BadLine line kind) left a b c d Wrote st h =
      (h.0, elim h.1 [ inl unread ↦ inl unread | inr refused ↦ inr (refuses_line_as now s n rest kind st refused) ], h.2)
  ends_at_as now s n rest ReadFault left a b c d Wrote st h = h
  ends_at_as now s n rest WriteFault left a b c d Wrote st h = (h.0, (h.1.0, last_as now s n h.1.0 rest _ st h.1.1))
  ends_at_as now s n rest NoMemory left a b c d Wrote st h = h

  pub ends_as : (m : M) (s : S) (ending : Ending) (left left_after : Option (List ℕ)) (reads reads_after : ℕ) (written written_after : Option (List ℕ)) (writes writes_after : ℕ)
      → Stands m s → RunEnds runs refuses m ending left left_after reads reads_after written written_after writes writes_after
      → RunEnds runs_as refuses_as s ending left left_after reads reads_after written written_after writes writes_after
  ends_as m s ending left left_after reads reads_after written written_after writes writes_after st h =
      let ran = lines_as m h.now s 0 h.lines h.text st h.ran in
      record {
        now = ran.0;
        lines = h.lines;
        rest = h.rest;
        text = h.text;
        given = h.given;
        are = h.are;
        counted = h.counted;
        few = h.few;
        ran = ran.1;
        holds = ends_at_as h.now ran.0 (length h.lines) h.rest ending left_after reads reads_after writes writes_after _ ran.2 h.holds;
      }
