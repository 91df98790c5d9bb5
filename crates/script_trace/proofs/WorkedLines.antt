-- Lines of scripts that are written out.
use Rattle.std.proofs.Common.{◌≡◌, ℕ, ◌+◌, Bool, true, false, List, [], ◌∷◌, ◌++◌, refl, sym, ap, subst}
use Rattle.std.specs.Prelude.{None, Ok, if◌then◌else◌}
use Rattle.gev_script.specs.Lines.{ScriptLine}
use Rattle.gev_script.specs.Grammar.{line_of}
use Rattle.script_runs.specs.Runs.{RunsLines}
use Rattle.acquisition_machine.specs.declared.config.AcqConfig.{AcqConfig}
use Rattle.script_trace.specs.Trace.{Trace, Part, grown}
use Rattle.script_trace.specs.Adding.{AddsPart}
use Rattle.script_trace.specs.Opening.{opening}
use Rattle.script_trace.specs.Wide.{Wide, nothing_wide, Does, DoesAs, is_started, kept_behind}
use Rattle.script_trace.specs.Standing.{Standing, first, running, later_kind, ReplayRuns}
use Rattle.script_trace.specs.Worked.{header_line}
use Rattle.script_trace.proofs.Meanings.{said_plain, plain_meaning}

-- what is kept beside the trace of a script of version 1
abbrev pub nothing_kept : Wide
nothing_kept = nothing_wide 1

same_choice : (b : Bool) → ◌≡◌ {A = ℕ} (if b then 0 else 0) 0
same_choice true = refl
same_choice false = refl

kept_plain : (t after : Trace) → kept_behind nothing_kept t after ≡ nothing_kept
kept_plain t after = ap (λ top. record nothing_kept { top = top }) (same_choice (is_started t after))

does_plain : (c : AcqConfig) (t : Trace) (l : ScriptLine) (part : Part) → AddsPart c t l part → Does c nothing_kept t l part.text nothing_kept (grown t part)
does_plain c t l part adds =
    subst (λ m. DoesAs c nothing_kept t l m part.text nothing_kept (grown t part)) (sym (plain_meaning t l))
    (record { part = part; adds = adds; said = sym (said_plain c t l part.text); is = refl }, refl)

-- one more line, and those after it
pub goes_on : (c : AcqConfig) (t : Trace) (n : ℕ) (text : List ℕ) (l : ScriptLine) (part : Part) (lines : List (List ℕ)) (rest : List ℕ) (new : Standing) → later_kind text ≡ None → line_of text ≡ Ok l → AddsPart c t l part → RunsLines ReplayRuns (running c nothing_kept (grown t part)) (n + 1) lines rest new → RunsLines ReplayRuns (running c nothing_kept t) n (text ∷ lines) (part.text ++ rest) new
goes_on c t n text l part lines rest new in_place read adds more = (
  running c nothing_kept (grown t part),
  part.text,
  rest,
  record {
    in_place = in_place;
    says = l;
    read = read;
    kept = nothing_kept;
    trace = grown t part;
    does = does_plain c t l part adds;
    after = ap (λ w. running c w (grown t part)) (sym (kept_plain t (grown t part)));
  },
  more,
  refl,
)

abbrev pub config : AcqConfig
config = record { p = 528; window = 1; timeout = 1000; age = 100; rounds = 2 }

-- the header, and the lines after it
pub begins : (lines : List (List ℕ)) (rest : List ℕ) (new : Standing) → RunsLines ReplayRuns (running config nothing_kept opening) 1 lines rest new → RunsLines ReplayRuns first 0 (header_line ∷ lines) rest new
begins lines rest new more = (
  running config nothing_kept opening,
  [],
  rest,
  record { config = record { version = 1; p = 528; window = 1; timeout = 1000; age = 100; rounds = 2 }; read = refl; silent = refl; after = refl },
  more,
  refl,
)
