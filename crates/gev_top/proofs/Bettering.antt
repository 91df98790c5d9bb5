-- Where more is said of each line and of each state, more is said of a run.
use Rattle.std.proofs.Common.{ℕ, ◌+◌, List, [], ◌∷◌, length, Option}
use Rattle.script_runs.specs.declared.ran.Ran.{Ran}
use Rattle.script_runs.specs.declared.ending.Ending.{Ending}
use Rattle.script_runs.specs.declared.ending.Ending.TheVariants as endings
use Rattle.script_runs.specs.Runs.{Running, Refusing, RunsLines}
use Rattle.script_runs.specs.Outcomes.{RunsLast, EndsAt}
use Rattle.gev_top.specs.Scripts.{RunsWell, Ends}

-- the second says more than the first, of a line, of a state, and of a state with the report so far
pub record IsMore {M : Type 0} (moves more : Running M) (Keeps KeepsMore : M → Type 0) (Says SaysMore : List ℕ → M → Type 0) : Type 0 where
  pub line : (m : M) (n : ℕ) (line : List ℕ) (ran : Ran) (report : List ℕ) (new : M) → moves m n line ran report new → more m n line ran report new
  pub keeps : (m : M) → Keeps m → KeepsMore m
  pub says : (text : List ℕ) (m : M) → Says text m → SaysMore text m

line_more : {M : Type 0} (moves more : Running M) (Keeps KeepsMore : M → Type 0) (Says SaysMore : List ℕ → M → Type 0) → IsMore moves more Keeps KeepsMore Says SaysMore
    → (m : M) (n : ℕ) (line : List ℕ) (ran : Ran) (report : List ℕ) (new : M) → RunsWell moves Keeps m n line ran report new → RunsWell more KeepsMore m n line ran report new
line_more moves more Keeps KeepsMore Says SaysMore is m n line ran report new run = record { runs = is.line m n line ran report new run.runs; keeps = is.keeps new run.keeps }

lines_better : {M : Type 0} (moves more : Running M) (Keeps KeepsMore : M → Type 0) (Says SaysMore : List ℕ → M → Type 0) → IsMore moves more Keeps KeepsMore Says SaysMore
    → (m : M) (n : ℕ) (lines : List (List ℕ)) (text : List ℕ) (new : M) → RunsLines (RunsWell moves Keeps) m n lines text new → RunsLines (RunsWell more KeepsMore) m n lines text new
lines_better moves more Keeps KeepsMore Says SaysMore is m n [] text new runs = runs
lines_better moves more Keeps KeepsMore Says SaysMore is m n (line ∷ lines) text new (mid, front, rest, here, later, parts) = (
  mid,
  front,
  rest,
  line_more moves more Keeps KeepsMore Says SaysMore is m (n + 1) line _ front mid here,
  lines_better moves more Keeps KeepsMore Says SaysMore is mid (n + 1) lines rest new later,
  parts,
)

last_better : {M : Type 0} (moves more : Running M) (Keeps KeepsMore : M → Type 0) (Says SaysMore : List ℕ → M → Type 0) → IsMore moves more Keeps KeepsMore Says SaysMore
    → (now : M) (n : ℕ) (ran : Ran) (rest : List ℕ) (P : List ℕ → Type 0) → RunsLast (RunsWell moves Keeps) now n ran rest P → RunsLast (RunsWell more KeepsMore) now n ran rest P
last_better moves more Keeps KeepsMore Says SaysMore is now n ran rest P last = record {
  line = last.line;
  held = last.held;
  final = last.final;
  report = last.report;
  is_line = last.is_line;
  counted = last.counted;
  run = line_more moves more Keeps KeepsMore Says SaysMore is now (n + 1) last.line ran last.report last.final last.run;
  holds = last.holds;
}

end_better : {M : Type 0} (moves more : Running M) (Keeps KeepsMore : M → Type 0) (Says SaysMore : List ℕ → M → Type 0) → IsMore moves more Keeps KeepsMore Says SaysMore
    → (refuses : Refusing M) (now : M) (n : ℕ) (rest : List ℕ) (ending : Ending) (left : Option (List ℕ)) (reads reads_after writes writes_after : ℕ) (P : List ℕ → Type 0)
    → EndsAt (RunsWell moves Keeps) refuses now n rest ending left reads reads_after writes writes_after P
    → EndsAt (RunsWell more KeepsMore) refuses now n rest ending left reads reads_after writes writes_after P
end_better moves more Keeps KeepsMore Says SaysMore is refuses now n rest endings.Done left reads reads_after writes writes_after P ends =
    last_better moves more Keeps KeepsMore Says SaysMore is now n _ rest P ends
end_better moves more Keeps KeepsMore Says SaysMore is refuses now n rest (endings.BadLine line kind) left reads reads_after writes writes_after P ends = ends
end_better moves more Keeps KeepsMore Says SaysMore is refuses now n rest endings.ReadFault left reads reads_after writes writes_after P ends = ends
end_better moves more Keeps KeepsMore Says SaysMore is refuses now n rest endings.WriteFault left reads reads_after writes writes_after P ends =
    (ends.0, (ends.1.0, last_better moves more Keeps KeepsMore Says SaysMore is now n ends.1.0 rest _ ends.1.1))
end_better moves more Keeps KeepsMore Says SaysMore is refuses now n rest endings.NoMemory left reads reads_after writes writes_after P ends = ends

pub ends_better : {M : Type 0} (moves more : Running M) (Keeps KeepsMore : M → Type 0) (Says SaysMore : List ℕ → M → Type 0) → IsMore moves more Keeps KeepsMore Says SaysMore
    → (refuses : Refusing M) (first : M) (ending : Ending) (left left_after : Option (List ℕ)) (reads reads_after : ℕ) (written written_after : Option (List ℕ)) (writes writes_after : ℕ)
    → Ends moves refuses Keeps Says first ending left left_after reads reads_after written written_after writes writes_after
    → Ends more refuses KeepsMore SaysMore first ending left left_after reads reads_after written written_after writes writes_after
ends_better moves more Keeps KeepsMore Says SaysMore is refuses first ending left left_after reads reads_after written written_after writes writes_after to = record {
  now = to.now;
  lines = to.lines;
  rest = to.rest;
  text = to.text;
  given = to.given;
  are = to.are;
  counted = to.counted;
  few = to.few;
  ran = lines_better moves more Keeps KeepsMore Says SaysMore is first 0 to.lines to.text to.now to.ran;
  holds = record {
    keeps = is.keeps to.now to.holds.keeps;
    said = is.says to.text to.now to.holds.said;
    ends = end_better moves more Keeps KeepsMore Says SaysMore is refuses to.now (length to.lines) to.rest ending left_after reads reads_after writes writes_after _ to.holds.ends;
  };
}
