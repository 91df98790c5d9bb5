-- Runs of lines lead to traces.
use Rattle.std.proofs.Common.{◌≡◌, ◌≢◌, ℕ, ◌+◌, ◌≤◌, true, false, List, [], ◌∷◌, ◌++◌, length, refl, sym, ap, subst, ◌∙◌, append_assoc, append-nil, arith}
use Rattle.std.specs.Prelude.{Ok, Err, if◌then◌else◌}
use Rattle.std.specs.List.{AllByRecursion}
use Rattle.std.proofs.lemmas.Bool.{ne_eqb}
use Rattle.hex.specs.Hex.{encode_lower}
use Rattle.gev_script.specs.declared.kind.ScriptKind.{ScriptKind}
use Rattle.gev_script.specs.declared.kind.ScriptKind.TheVariants as kinds
use Rattle.gev_script.specs.Lines as line
use Rattle.gev_script.specs.Lines.{ScriptLine, Config}
use Rattle.gev_script.specs.Spelling.{IsConfig}
use Rattle.gev_script.specs.Words.{Read}
use Rattle.gev_script.specs.Grammar.{line_of}
use Rattle.gev_script.proofs.Unspelled.{unspelled}
use Rattle.script_runs.specs.declared.ran.Ran.{Ran}
use Rattle.script_runs.specs.declared.ran.Ran.TheVariants.{GoesOn, Ended}
use Rattle.script_runs.specs.Runs.{RunsLines, AreLines}
use Rattle.script_runs.specs.Verdicts.{goes_on, ends, bad}
use Rattle.acquisition_machine.specs.declared.config.AcqConfig.{AcqConfig}
use Rattle.script_trace.specs.Trace.{Trace, grown}
use Rattle.script_trace.specs.Adding.{Leads}
use Rattle.script_trace.specs.Opening.{opening}
use Rattle.script_trace.specs.Wide.{Wide, nothing_wide, Meaning, itself, wider, none, meaning, said_by, DoesAs, Does, kept_behind}
use Rattle.script_trace.specs.Standing.{Standing, first, running, config_of, later_kind, first_verdict, last_or_not, later_verdict, replay_verdict, IsBehind, RunsLater, ReplayRuns, ReplayRefuses}
use Rattle.script_trace.specs.Laws.{StandsWell, ReportsTrace, LinesAreJudged}
use Rattle.script_trace.proofs.BlockFills.{IsByOther}
use Rattle.script_trace.proofs.Meanings.{said_plain, wider_version}
use Rattle.script_trace.proofs.Reported.{Reported, report_on, none_reported}
use Rattle.script_trace.proofs.Promises.{traces_keep_by, by_other}

-- ---- one line

-- the lines that the trace is told
abbrev told_lines : ScriptLine → Meaning → List ScriptLine
told_lines l itself = l ∷ []
told_lines l (wider block bytes) = line.datagram (encode_lower bytes) ∷ []
told_lines l none = []

told_by_other : (l : ScriptLine) (m : Meaning) → IsByOther l → AllByRecursion IsByOther (told_lines l m)
told_by_other l itself ok = (ok, tt)
told_by_other l (wider block bytes) ok = (tt, tt)
told_by_other l none ok = tt

-- what the line's meaning leads to
record LedBy (c : AcqConfig) (w : Wide) (t : Trace) (told : List ScriptLine) (report : List ℕ) (v : Wide) (after : Trace) : Type 0 where
  leads : Leads c t told after
  same_version : v.version ≡ w.version
  first_version : w.version ≡ 1 → w.widened ≡ false → v.widened ≡ false
  plain_before : v.widened ≡ false → w.widened ≡ false
  plain : v.widened ≡ false → after.text ≡ t.text ++ report

led_by : (c : AcqConfig) (w : Wide) (t : Trace) (l : ScriptLine) (m : Meaning) (report : List ℕ) (v : Wide) (after : Trace) → meaning w t l ≡ m → DoesAs c w t l m report v after → LedBy c w t (told_lines l m) report v after
led_by c w t l itself report v after means (tells, is) =
    let before : v.widened ≡ false → w.widened ≡ false = λ e. ap (λ (u : Wide). u.widened) (sym is) ∙ e in
    record {
      leads = (tells.part, tells.adds, tells.is);
      same_version = ap (λ (u : Wide). u.version) is;
      first_version = λ e f. ap (λ (u : Wide). u.widened) is ∙ f;
      plain_before = before;
      plain = λ e.
          ap (λ (u : Trace). u.text) tells.is
          ∙ ap (λ text. t.text ++ text) (sym (tells.said ∙ ap (λ b. said_by c t l b tells.part.text) (before e) ∙ said_plain c t l tells.part.text));
    }
led_by c w t l (wider block bytes) report v after means (tells, is) =
    let never : v.widened ≡ false → ⊥ = λ e. let both : true ≡ false = ap (λ (u : Wide). u.widened) (sym is) ∙ e in absurd cc in
    record {
      leads = (tells.part, tells.adds, tells.is);
      same_version = ap (λ (u : Wide). u.version) is;
      first_version = λ e f. absurd (let both : 2 ≡ 1 = sym (wider_version w t l block bytes means) ∙ e in cc);
      plain_before = λ e. absurd (never e);
      plain = λ e. absurd (never e);
    }
led_by c w t l none report v after means (silent, same, is) = record {
  leads = same;
  same_version = ap (λ (u : Wide). u.version) is;
  first_version = λ e f. ap (λ (u : Wide). u.widened) is ∙ f;
  plain_before = λ e. ap (λ (u : Wide). u.widened) (sym is) ∙ e;
  plain = λ e. ap (λ (u : Trace). u.text) same ∙ sym (ap (λ text. t.text ++ text) silent ∙ append-nil t.text);
}

-- ---- lines that lead from one trace to another

record LedTo (c : AcqConfig) (w : Wide) (t : Trace) (text : List ℕ) (new : Standing) : Type 0 where
  to : Trace
  kept : Wide
  same_version : kept.version ≡ w.version
  first_version : w.version ≡ 1 → w.widened ≡ false → kept.widened ≡ false
  plain_before : kept.widened ≡ false → w.widened ≡ false
  plain : kept.widened ≡ false → to.text ≡ t.text ++ text
  stands : new ≡ running c kept to

led_on : (c : AcqConfig) (w : Wide) (t : Trace) (n : ℕ) (lines : List (List ℕ)) (text : List ℕ) (new : Standing) → RunsLines ReplayRuns (running c w t) n lines text new → LedTo c w t text new
led_on c w t n [] text new (silent, is) = record {
  to = t;
  kept = w;
  same_version = refl;
  first_version = λ e f. f;
  plain_before = λ e. e;
  plain = λ e. sym (ap (λ l. t.text ++ l) silent ∙ append-nil t.text);
  stands = is;
}
led_on c w t n (l ∷ lines) text new (mid, front, rest, runs, more, parts) =
    let v : Wide = kept_behind runs.kept t runs.trace in
    let told : List ScriptLine = told_lines runs.says (meaning w t runs.says) in
    let one : LedBy c w t told front runs.kept runs.trace = led_by c w t runs.says (meaning w t runs.says) front runs.kept runs.trace refl runs.does in
    let next : RunsLines ReplayRuns (running c v runs.trace) (n + 1) lines rest new = subst (λ m. RunsLines ReplayRuns m (n + 1) lines rest new) runs.after more in
    let led : LedTo c v runs.trace rest new = led_on c v runs.trace (n + 1) lines rest new next in
    record {
      to = led.to;
      kept = led.kept;
      same_version = led.same_version ∙ one.same_version;
      first_version = λ e f. led.first_version (one.same_version ∙ e) (one.first_version e f);
      plain_before = λ e. one.plain_before (led.plain_before e);
      plain = λ e. led.plain e ∙ (ap (λ u. u ++ rest) (one.plain (led.plain_before e)) ∙ (append_assoc t.text front rest ∙ ap (λ u. t.text ++ u) (sym parts)));
      stands = led.stands;
    }

-- the same, with lines that the trace was told
record LedWell (c : AcqConfig) (t : Trace) (new : Standing) : Type 0 where
  to : Trace
  kept : Wide
  lines : List ScriptLine
  are : AllByRecursion IsByOther lines
  leads : Leads c t lines to
  stands : new ≡ running c kept to

leads-append : (c : AcqConfig) (t : Trace) (ls ms : List ScriptLine) (mid new : Trace) → Leads c t ls mid → Leads c mid ms new → Leads c t (ls ++ ms) new
leads-append c t [] ms mid new is more = subst (λ u. Leads c u ms new) is more
leads-append c t (l ∷ ls) ms mid new (part, adds, rest) more = (part, adds, leads-append c (grown t part) ls ms mid new rest more)

all-append : {X : Type 0} (P : X → Type 0) (xs ys : List X) → AllByRecursion P xs → AllByRecursion P ys → AllByRecursion P (xs ++ ys)
all-append P [] ys a b = b
all-append P (x ∷ xs) ys a b = (a.0, all-append P xs ys a.1 b)

well_on : (c : AcqConfig) (w : Wide) (t : Trace) (n : ℕ) (lines : List (List ℕ)) (text : List ℕ) (new : Standing) → AreLines lines → RunsLines ReplayRuns (running c w t) n lines text new → LedWell c t new
well_on c w t n [] text new are (silent, is) = record { to = t; kept = w; lines = []; are = tt; leads = refl; stands = is }
well_on c w t n (l ∷ lines) text new (no_feed, short, are) (mid, front, rest, runs, more, parts) =
    let v : Wide = kept_behind runs.kept t runs.trace in
    let told : List ScriptLine = told_lines runs.says (meaning w t runs.says) in
    let one : LedBy c w t told front runs.kept runs.trace = led_by c w t runs.says (meaning w t runs.says) front runs.kept runs.trace refl runs.does in
    let next : RunsLines ReplayRuns (running c v runs.trace) (n + 1) lines rest new = subst (λ m. RunsLines ReplayRuns m (n + 1) lines rest new) runs.after more in
    let led : LedWell c runs.trace new = well_on c v runs.trace (n + 1) lines rest new are next in
    record {
      to = led.to;
      kept = led.kept;
      lines = told ++ led.lines;
      are = all-append IsByOther told led.lines (told_by_other runs.says (meaning w t runs.says) (by_other runs.says (unspelled l runs.says short runs.read).is_line)) led.are;
      leads = leads-append c t told led.lines runs.trace led.to one.leads led.leads;
      stands = led.stands;
    }

-- ---- promises

window_of : (text : List ℕ) (config : Config) → length text ≤ 20000 → line_of text ≡ Ok (line.header config) → 1 ≤ (config_of config).window
window_of text config short read = let is : IsConfig config = (unspelled text (line.header config) short read).is_line in is.window_from

keeps_led : (c : AcqConfig) (new : Standing) → 1 ≤ c.window → LedWell c opening new → StandsWell new
keeps_led c new some led = subst StandsWell (sym led.stands) (traces_keep_by c led.lines led.to some led.are led.leads)

-- behind the header
record Headed (lines : List (List ℕ)) (new : Standing) : Type 0 where
  config : AcqConfig
  some : 1 ≤ config.window
  led : LedWell config opening new

headed : (l : List ℕ) (lines : List (List ℕ)) (text : List ℕ) (new : Standing) → AreLines (l ∷ lines) → RunsLines ReplayRuns first 0 (l ∷ lines) text new → Headed (l ∷ lines) new
headed l lines text new (no_feed, short, are) (mid, front, rest, runs, more, parts) =
    let c : AcqConfig = config_of runs.config in
    let w : Wide = nothing_wide runs.config.version in
    let next : RunsLines ReplayRuns (running c w opening) 1 lines rest new = subst (λ m. RunsLines ReplayRuns m 1 lines rest new) runs.after more in
    record { config = c; some = window_of l runs.config short runs.read; led = well_on c w opening 1 lines rest new are next }

pub so_far : (lines : List (List ℕ)) (text : List ℕ) (new : Standing) → AreLines lines → RunsLines ReplayRuns first 0 lines text new → StandsWell new
so_far [] text new are (silent, is) = subst StandsWell (sym is) tt
so_far (l ∷ lines) text new are runs = let h : Headed (l ∷ lines) new = headed l lines text new are runs in keeps_led h.config new h.some h.led

later_well : (d c : AcqConfig) (w : Wide) (t : Trace) (text report : List ℕ) (new : Standing) → length text ≤ 20000 → LedWell d opening (running c w t) → RunsLater c w t text report new → LedWell c opening new
later_well d c w t text report new short led runs =
    let same_trace : led.to ≡ t = let e = led.stands in cc in
    let same_config : d ≡ c = let e = led.stands in cc in
    let leads : Leads c opening led.lines t = subst (λ k. Leads k opening led.lines t) same_config (subst (λ u. Leads d opening led.lines u) same_trace led.leads) in
    let told : List ScriptLine = told_lines runs.says (meaning w t runs.says) in
    let one : LedBy c w t told report runs.kept runs.trace = led_by c w t runs.says (meaning w t runs.says) report runs.kept runs.trace refl runs.does in
    record {
      to = runs.trace;
      kept = kept_behind runs.kept t runs.trace;
      lines = led.lines ++ told;
      are = all-append IsByOther led.lines told led.are (told_by_other runs.says (meaning w t runs.says) (by_other runs.says (unspelled text runs.says short runs.read).is_line));
      leads = leads-append c opening led.lines told t runs.trace leads one.leads;
      stands = runs.after;
    }

-- the line after a header that was just read
first_well : (n : ℕ) (text report : List ℕ) (ran : Ran) (new : Standing) → length text ≤ 20000 → ReplayRuns first n text ran report new → StandsWell new
first_well n text report GoesOn new short runs =
    keeps_led (config_of runs.config) new (window_of text runs.config short runs.read)
    (record { to = opening; kept = nothing_wide runs.config.version; lines = []; are = tt; leads = refl; stands = runs.after })
first_well n text report Ended new short runs = absurd runs

some_of : (d c : AcqConfig) (w : Wide) (t : Trace) → 1 ≤ d.window → LedWell d opening (running c w t) → 1 ≤ c.window
some_of d c w t some led = let same : d ≡ c = let e = led.stands in cc in subst (λ k. 1 ≤ k.window) same some

running_well : (d c : AcqConfig) (w : Wide) (t : Trace) (n : ℕ) (text report : List ℕ) (ran : Ran) (new : Standing) → length text ≤ 20000 → 1 ≤ d.window → LedWell d opening (running c w t) → ReplayRuns (running c w t) n text ran report new → StandsWell new
running_well d c w t n text report GoesOn new short some led runs = keeps_led c new (some_of d c w t some led) (later_well d c w t text report new short led runs)
running_well d c w t n text report Ended new short some led runs = subst StandsWell (sym runs.after) (keeps_led d (running c w t) some led)

pub last : (lines : List (List ℕ)) (text line report : List ℕ) (ran : Ran) (now new : Standing) → AreLines lines → length line ≤ 20000 → RunsLines ReplayRuns first 0 lines text now → ReplayRuns now (length lines + 1) line ran report new → StandsWell new
last lines text line report ran first new are short runs one = first_well (length lines + 1) line report ran new short one
last [] text line report ran (running c w t) new are short (silent, is) one = let e = is in absurd cc
last (l ∷ lines) text line report ran (running c w t) new are short runs one =
    let h : Headed (l ∷ lines) (running c w t) = headed l lines text (running c w t) are runs in
    running_well h.config c w t (length (l ∷ lines) + 1) line report ran new short h.some h.led one

-- the report by the trace, the place of the first datagram that was widened aside
pub record Reports (c : AcqConfig) (text : List ℕ) (w : Wide) (t : Trace) : Type 0 where
  pub plain : w.widened ≡ false → t.text ≡ text
  pub first_version : w.version ≡ 1 → w.widened ≡ false
  pub reports : ReportsTrace c w.widened text t

abbrev pub HasReport : List ℕ → Standing → Type 0
HasReport text first = text ≡ []
HasReport text (running c w t) = Reports c text w t

said_by_led : (text : List ℕ) (new : Standing) (c : AcqConfig) (w : Wide) (t : Trace) → new ≡ running c w t → (w.widened ≡ false → t.text ≡ text) → (w.version ≡ 1 → w.widened ≡ false) → Reported c text new
    → HasReport text new
said_by_led text new c w t is plain first_version r =
    let e : running c w t ≡ running c r.kept r.to = sym is ∙ r.stands in
    let kept : r.kept ≡ w = cc in
    let to : r.to ≡ t = cc in
    let there : ReportsTrace c w.widened text t = subst (λ (v : Wide). ReportsTrace c v.widened text t) kept (subst (λ (u : Trace). ReportsTrace c r.kept.widened text u) to r.reports) in
    subst (HasReport text) (sym is) (record { plain = plain; first_version = first_version; reports = there })

pub said : (lines : List (List ℕ)) (text : List ℕ) (new : Standing) → RunsLines ReplayRuns first 0 lines text new → HasReport text new
said [] text new (silent, is) = subst (HasReport text) (sym is) silent
said (l ∷ lines) text new (mid, front, rest, runs, more, parts) =
    let c : AcqConfig = config_of runs.config in
    let w : Wide = nothing_wide runs.config.version in
    let next : RunsLines ReplayRuns (running c w opening) 1 lines rest new = subst (λ m. RunsLines ReplayRuns m 1 lines rest new) runs.after more in
    let led : LedTo c w opening rest new = led_on c w opening 1 lines rest new next in
    let whole : rest ≡ text = sym (parts ∙ ap (λ u. u ++ rest) runs.silent) in
    said_by_led text new c led.kept led.to led.stands (λ e. led.plain e ∙ whole) (λ e. led.first_version (sym led.same_version ∙ e) refl)
    (subst (λ u. Reported c u new) whole (report_on c w opening 1 lines [] rest new (none_reported c) next))

-- ---- verdicts

other_line : (c : AcqConfig) (w : Wide) (t : Trace) (l : ScriptLine) (report : List ℕ) (v : Wide) (after : Trace) → Does c w t l report v after → last_or_not (Ok l) ≡ goes_on
unfolding meaning
other_line c w t line.end_of_script report v after does = absurd does.0.adds.spells
other_line c w t _ report v after does = refl

first_refused : (r : Read ScriptLine) → ((c : Config) → r ≢ Ok (line.header c)) → first_verdict r ≡ bad kinds.Header
first_refused (Ok (line.header c)) other = absurd (other c refl)
first_refused (Ok _) other = refl
first_refused (Err _) other = refl

verdict_first : (n : ℕ) (text : List ℕ) → n ≡ 0 → replay_verdict (n + 1) text ≡ first_verdict (line_of text)
verdict_first n text at_first = ap (λ k. replay_verdict (k + 1) text) at_first

verdict_later : (n : ℕ) (text : List ℕ) → 1 ≤ n → replay_verdict (n + 1) text ≡ later_verdict (later_kind text) (line_of text)
verdict_later n text some =
    let apart : n + 1 ≢ 1 = λ e. omega (arith, e, some) in
    ap (λ b. if b then first_verdict (line_of text) else later_verdict (later_kind text) (line_of text)) (ne_eqb (n + 1) 1 apart)

behind_running : (c : AcqConfig) (w : Wide) (t : Trace) (n : ℕ) (new : Standing) → new ≡ running c w t → IsBehind new (n + 1)
behind_running c w t n new is = let more : 1 ≤ n + 1 = omega arith in subst (λ m. IsBehind m (n + 1)) (sym is) more

goes : (m new : Standing) (n : ℕ) (text report : List ℕ) → IsBehind m n → ReplayRuns m (n + 1) text GoesOn report new → (replay_verdict (n + 1) text ≡ goes_on) × IsBehind new (n + 1)
goes first new n text report behind runs =
    (verdict_first n text behind ∙ ap first_verdict runs.read, behind_running (config_of runs.config) (nothing_wide runs.config.version) opening n new runs.after)
goes (running c w t) new n text report behind runs = (
  verdict_later n text behind ∙ (ap (λ k. later_verdict k (line_of text)) runs.in_place ∙ (ap last_or_not runs.read ∙ other_line c w t runs.says report runs.kept runs.trace runs.does)),
  behind_running c (kept_behind runs.kept t runs.trace) runs.trace n new runs.after,
)

ended : (m new : Standing) (n : ℕ) (text report : List ℕ) → IsBehind m n → ReplayRuns m (n + 1) text Ended report new → replay_verdict (n + 1) text ≡ ends
ended first new n text report behind runs = absurd runs
ended (running c w t) new n text report behind runs =
    verdict_later n text behind ∙ (ap (λ k. later_verdict k (line_of text)) runs.in_place ∙ ap last_or_not runs.read)

refused_so : (m : Standing) (n : ℕ) (text : List ℕ) (kind : ScriptKind) → IsBehind m n → ReplayRefuses m (n + 1) text kind → replay_verdict (n + 1) text ≡ bad kind
refused_so first n text kind behind (is, other) = verdict_first n text behind ∙ (first_refused (line_of text) other ∙ ap bad (sym is))
refused_so (running c w t) n text kind behind is = verdict_later n text behind ∙ ap (λ k. later_verdict k (line_of text)) is

pub lines_judged : LinesAreJudged
lines_judged = record { goes = goes; ended = ended; refused_so = refused_so }
