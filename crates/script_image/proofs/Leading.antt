-- The lines of a script that was run lead to its trace, and what waits in its output.
use Rattle.std.proofs.Common.{◌≡◌, ℕ, ◌+◌, ◌≤◌, List, [], ◌∷◌, ◌++◌, length, take, drop, sym, subst}
use Rattle.std.specs.List.{AllByRecursion}
use Rattle.std.proofs.lemmas.List.{take-append-drop}
use Rattle.hex.specs.Hex.{encode_lower}
use Rattle.gev_script.specs.Lines as line
use Rattle.gev_script.specs.Lines.{ScriptLine}
use Rattle.gev_script.specs.Spelling.{IsConfig}
use Rattle.gev_script.proofs.Unspelled.{unspelled}
use Rattle.script_runs.specs.Runs.{RunsLines, AreLines}
use Rattle.acquisition_machine.specs.declared.config.AcqConfig.{AcqConfig}
use Rattle.script_trace.specs.Trace.{Trace, Part, grown, board}
use Rattle.script_trace.specs.Adding.{Leads}
use Rattle.script_trace.specs.BoardLines.{TakesBuffer}
use Rattle.script_trace.specs.Opening.{opening}
use Rattle.script_trace.specs.Wide.{Wide, nothing_wide, Meaning, itself, wider, none, meaning, DoesAs, kept_behind}
use Rattle.script_trace.specs.Standing.{first, running, config_of, ReplayRuns}
use Rattle.script_trace.proofs.BlockFills.{IsByOther}
use Rattle.script_trace.proofs.Promises.{by_other, traces_keep_by}
use Rattle.script_trace.proofs.Handing.{leads_empty, opening_empty, filled_all}
use Rattle.script_trace.specs.Fills.{IsRetired, IsHandedSo}
use Rattle.script_trace.specs.Laws.{KeepsPromises}
use Rattle.acquisition_machine.proofs.Order.{all_back}
use Rattle.board_machine.specs.Machine.{item}
use Rattle.board_machine.specs.Handout.{filled, removed}
use Rattle.board_machine.proofs.Handouts.{run_out}

-- Lines of which no step is the acquisition's lead from one trace to another.
pub record LedOn (c : AcqConfig) (t to : Trace) : Type 0 where
  pub lines : List ScriptLine
  pub are : AllByRecursion IsByOther lines
  pub leads : Leads c t lines to

one_led : (c : AcqConfig) (w : Wide) (t : Trace) (l : ScriptLine) (m : Meaning) (said : List ℕ) (v : Wide) (after : Trace) → IsByOther l → DoesAs c w t l m said v after → LedOn c t after
one_led c w t l itself said v after ok (tells, same) = record { lines = l ∷ []; are = (ok, tt); leads = (tells.part, tells.adds, tells.is) }
one_led c w t l (wider block bytes) said v after ok (tells, same) = record { lines = line.datagram (encode_lower bytes) ∷ []; are = (tt, tt); leads = (tells.part, tells.adds, tells.is) }
one_led c w t l none said v after ok (silent, same, kept) = record { lines = []; are = tt; leads = same }

leads_append : (c : AcqConfig) (t : Trace) (ls ms : List ScriptLine) (mid new : Trace) → Leads c t ls mid → Leads c mid ms new → Leads c t (ls ++ ms) new
leads_append c t [] ms mid new is more = subst (λ u. Leads c u ms new) is more
leads_append c t (l ∷ ls) ms mid new (part, adds, rest) more = (part, adds, leads_append c (grown t part) ls ms mid new rest more)

all_append : (xs ys : List ScriptLine) → AllByRecursion IsByOther xs → AllByRecursion IsByOther ys → AllByRecursion IsByOther (xs ++ ys)
all_append [] ys a b = b
all_append (x ∷ xs) ys a b = (a.0, all_append xs ys a.1 b)

led_more : (c : AcqConfig) (t mid to : Trace) → LedOn c t mid → LedOn c mid to → LedOn c t to
led_more c t mid to a b = record {
  lines = a.lines ++ b.lines;
  are = all_append a.lines b.lines a.are b.are;
  leads = leads_append c t a.lines b.lines mid to a.leads b.leads;
}

-- two standings behind a header that are one
record IsOne (c d : AcqConfig) (t u : Trace) : Type 0 where
  config : c ≡ d
  trace : t ≡ u

is_one : (c d : AcqConfig) (w v : Wide) (t u : Trace) → running c w t ≡ running d v u → IsOne c d t u
is_one c d w v t u e = record { config = cc; trace = cc }

later_led : (c d : AcqConfig) (w v : Wide) (t to : Trace) (n : ℕ) (lines : List (List ℕ)) (text : List ℕ) → AreLines lines → RunsLines ReplayRuns (running c w t) n lines text (running d v to) → (LedOn c t to) × (d ≡ c)
later_led c d w v t to n [] text are (silent, is) =
    let one = is_one d c v w to t is in
    (record { lines = []; are = tt; leads = one.trace }, one.config)
later_led c d w v t to n (l ∷ lines) text (no_feed, short, are) (mid, front, rest, runs, more, parts) =
    let k : Wide = kept_behind runs.kept t runs.trace in
    let next = subst (λ m. RunsLines ReplayRuns m (n + 1) lines rest (running d v to)) runs.after more in
    let one = one_led c w t runs.says (meaning w t runs.says) front runs.kept runs.trace (by_other runs.says (unspelled l runs.says short runs.read).is_line) runs.does in
    let led = later_led c d k v runs.trace to (n + 1) lines rest are next in
    (led_more c t runs.trace to one led.0, led.1)

-- The same from the first trace on, with a window.
pub record LedHere (c : AcqConfig) (t : Trace) : Type 0 where
  pub led : LedOn c opening t
  pub some : 1 ≤ c.window

pub runs_lead : (c : AcqConfig) (w : Wide) (t : Trace) (lines : List (List ℕ)) (text : List ℕ) → AreLines lines → RunsLines ReplayRuns first 0 lines text (running c w t) → LedHere c t
runs_lead c w t [] text are (silent, is) = let e = is in absurd cc
runs_lead c w t (l ∷ lines) text (no_feed, short, are) (mid, front, rest, runs, more, parts) =
    let d : AcqConfig = config_of runs.config in
    let next = subst (λ m. RunsLines ReplayRuns m 1 lines rest (running c w t)) runs.after more in
    let led = later_led d c (nothing_wide runs.config.version) w opening t 1 lines rest are next in
    let is : IsConfig runs.config = (unspelled l (line.header runs.config) short runs.read).is_line in
    record {
      led = subst (λ k. LedOn k opening t) (sym led.1) led.0;
      some = subst (λ (k : AcqConfig). 1 ≤ k.window) (sym led.1) is.window_from;
    }

-- ---- what waits in the output

all_behind : {X : Type 0} (P : X → Type 0) (n : ℕ) (xs : List X) → AllByRecursion P xs → AllByRecursion P (drop n xs)
all_behind P n xs a = all_back P (take n xs) (drop n xs) (subst (λ l. AllByRecursion P l) (sym (take-append-drop n xs)) a)

-- Each was filled with a retired block, or has the empty record.
waits_so : (c : AcqConfig) (lines : List ScriptLine) (t : Trace) → KeepsPromises c t → Leads c opening lines t → AllByRecursion (IsHandedSo c t.inputs) (board t).out
waits_so c lines t keeps leads =
    subst (λ xs. AllByRecursion (IsHandedSo c t.inputs) xs) (sym (run_out t.entries keeps.run))
    (all_behind (IsHandedSo c t.inputs) (length (removed t.entries)) (filled t.entries)
    (filled_all (IsRetired c t.inputs) t.entries (leads_empty c opening lines t leads opening_empty) keeps.blocks))

-- So it is behind lines that were run.
pub waits_run : (c : AcqConfig) (w : Wide) (t : Trace) (lines : List (List ℕ)) (text : List ℕ) → AreLines lines → RunsLines ReplayRuns first 0 lines text (running c w t)
    → AllByRecursion (IsHandedSo c t.inputs) (board t).out
waits_run c w t lines text are runs =
    let led = runs_lead c w t lines text are runs in
    let keeps = traces_keep_by c led.led.lines t led.some led.led.are led.led.leads in
    waits_so c led.led.lines t keeps led.led.leads

-- What a `take` line gets is the first of it.
pub taken_so : (c : AcqConfig) (w : Wide) (t : Trace) (lines : List (List ℕ)) (text : List ℕ) (moment : ℕ) (part : Part) → AreLines lines → RunsLines ReplayRuns first 0 lines text (running c w t)
    → (takes : TakesBuffer t moment part) → IsHandedSo c t.inputs (item takes.place takes.filling)
taken_so c w t lines text moment part are runs takes =
    let all = subst (λ xs. AllByRecursion (IsHandedSo c t.inputs) xs) takes.first (waits_run c w t lines text are runs) in
    all.0
