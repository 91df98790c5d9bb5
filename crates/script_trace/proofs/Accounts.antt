-- At every line of every script all is accounted for.
use Rattle.std.proofs.Common.{◌≡◌, ◌⊎◌, inl, inr, ℕ, ◌+◌, ◌≤◌, Bool, false, List, [], ◌∷◌, ◌++◌, length, map, refl, sym, ap, subst, ◌∙◌, arith}
use Rattle.std.specs.Prelude.{if◌then◌else◌}
use Rattle.std.specs.List.{AllByRecursion}
use Rattle.script_runs.specs.declared.ran.Ran.TheVariants.{GoesOn}
use Rattle.script_runs.specs.Runs.{RunsLines}
use Rattle.std.proofs.lemmas.List.{length-append, length-map}
use Rattle.board_machine.specs.declared.events.Entry.{Entry}
use Rattle.board_machine.specs.Histories.{Run}
use Rattle.board_machine.proofs.Handouts.{length-places}
use Rattle.board_calls.specs.Dropped.{dropped_items}
use Rattle.acquisition_machine.specs.declared.config.AcqConfig.{AcqConfig}
use Rattle.acquisition_machine.specs.Machine.{Input, datagram, claimed, tick, stop, restart, State}
use Rattle.acquisition_machine.specs.Runs.{no_counts, first_state, after_from, After, retired_from}
use Rattle.acquisition_machine.specs.Laws.{HasNoRestart}
use Rattle.acquisition_machine.proofs.Joining.{after_from-append, retired_from-append}
use Rattle.acquisition_machine.proofs.Window.{blocks_are_in_order}
use Rattle.script_trace.specs.Notes.{Note, idle, ignored, unwidened, leads, opens, asks, first, absent, drops, done, unbuffered}
use Rattle.script_trace.specs.Inputs.{notes_from}
use Rattle.script_trace.specs.Counted.{counted, is_opening, is_ending, endings, times_so}
use Rattle.script_trace.specs.Spans.{spans}
use Rattle.script_trace.specs.InputLaws.{TellEnds}
use Rattle.script_trace.proofs.Counts.{counted-append, inputs_counted}
use Rattle.script_trace.proofs.Opened.{times-append, run_balances}
use Rattle.script_trace.proofs.Spans.{spans-append, Accounts, run_accounts, accounted}
use Rattle.script_trace.proofs.Reasoned.{endings-append, ends_both, notes_are_reasoned}
use Rattle.script_trace.proofs.OfInputs.{IsOfInput, notes_are_of_inputs}
use Rattle.script_trace.specs.Trace.{Trace}
use Rattle.script_trace.specs.Opening.{opening}
use Rattle.script_trace.specs.Modes.{acquires, dropped as dropped_places}
use Rattle.script_trace.proofs.Histories.{opening_runs}
use Rattle.script_trace.proofs.Counting.{takes_counted}
use Rattle.script_trace.specs.Ending.{filled_blocks}
use Rattle.script_trace.proofs.BlockFills.{opening_agrees}
use Rattle.script_trace.specs.Wide.{Wide, nothing_wide, meaning, kept_behind}
use Rattle.script_trace.specs.Standing.{Standing, running, config_of}
use Rattle.script_trace.specs.Standing.{first as at_first}
use Rattle.script_trace.specs.LineNotes.{inputs_as, notes_as}
use Rattle.script_trace.specs.Explaining.{Telling, untold, is_drop, begins, since_after, ExplainsFirst, ExplainsLater, ExplainRuns}
use Rattle.script_trace.specs.NoteLaws.{is_idle, is_unwidened, told_fills, told_drops_of, told_drops, drop_told, HasSizes, StandsTold, ScriptsAreAccounted}
use Rattle.script_trace.proofs.Filled.{fills_in, Agrees, Fills, fills_told, filled_counted, whole_counted}
use Rattle.script_trace.proofs.Told.{drops-append}
use Rattle.script_trace.proofs.Others.{read_by_other}
use Rattle.script_trace.proofs.Lines.{Adds, line_adds}

-- what holds between two lines
record Keeps (c : AcqConfig) (w : Wide) (t : Trace) (notes since : List Note) : Type 0 where
  counts : counted notes no_counts ≡ (After c t.inputs).counts
  idle : times_so is_idle notes ≡ t.idle
  refused : times_so is_unwidened notes ≡ w.refused
  opened : times_so is_opening notes ≡ times_so is_ending notes + length (After c t.inputs).opens
  blocks : Accounts (After c t.inputs).floor (spans since)
  reasons : TellEnds c (retired_from c first_state t.inputs) (endings notes)
  agrees : Agrees c t
  filled : told_fills notes ≡ fills_in (filled_blocks t)
  run : Run t.entries
  dropped : told_drops notes ≡ map drop_told (dropped_items acquires t.entries)

-- ---- notes of inputs

never_idle : (xs : List Note) → AllByRecursion IsOfInput xs → times_so is_idle xs ≡ 0
never_idle [] all = refl
never_idle (idle bytes ∷ xs) all = absurd all.0
never_idle (ignored why x ∷ xs) all = omega (arith, never_idle xs all.1)
never_idle (unwidened e ∷ xs) all = absurd all.0
never_idle (leads b i ∷ xs) all = omega (arith, never_idle xs all.1)
never_idle (opens b buffer ∷ xs) all = omega (arith, never_idle xs all.1)
never_idle (asks b r round ∷ xs) all = omega (arith, never_idle xs all.1)
never_idle (first b ∷ xs) all = omega (arith, never_idle xs all.1)
never_idle (absent r ∷ xs) all = omega (arith, never_idle xs all.1)
never_idle (drops b buffer ∷ xs) all = omega (arith, never_idle xs all.1)
never_idle (done o ∷ xs) all = omega (arith, never_idle xs all.1)
never_idle (unbuffered b cause ∷ xs) all = omega (arith, never_idle xs all.1)

never_refused : (xs : List Note) → AllByRecursion IsOfInput xs → times_so is_unwidened xs ≡ 0
never_refused [] all = refl
never_refused (idle bytes ∷ xs) all = absurd all.0
never_refused (ignored why x ∷ xs) all = omega (arith, never_refused xs all.1)
never_refused (unwidened e ∷ xs) all = absurd all.0
never_refused (leads b i ∷ xs) all = omega (arith, never_refused xs all.1)
never_refused (opens b buffer ∷ xs) all = omega (arith, never_refused xs all.1)
never_refused (asks b r round ∷ xs) all = omega (arith, never_refused xs all.1)
never_refused (first b ∷ xs) all = omega (arith, never_refused xs all.1)
never_refused (absent r ∷ xs) all = omega (arith, never_refused xs all.1)
never_refused (drops b buffer ∷ xs) all = omega (arith, never_refused xs all.1)
never_refused (done o ∷ xs) all = omega (arith, never_refused xs all.1)
never_refused (unbuffered b cause ∷ xs) all = omega (arith, never_refused xs all.1)

-- ---- acquisitions

none_begins : (q : List Input) → HasNoRestart q → begins q ≡ false
none_begins [] h = refl
none_begins (datagram bytes ∷ q) h = none_begins q h
none_begins (claimed given ∷ q) h = none_begins q h
none_begins (tick moment ∷ q) h = none_begins q h
none_begins (stop ∷ q) h = none_begins q h
none_begins (restart ∷ q) h = absurd h

blocks_keep : (c : AcqConfig) (w v : Wide) (t after : Trace) (since added : List Note) (inputs : List Input) → 1 ≤ c.window → Adds c w v t after added inputs → Accounts (After c t.inputs).floor (spans since)
    → Accounts (After c after.inputs).floor (spans (since_after inputs since added))
blocks_keep c w v t after since added inputs some a b = go a.shape where
  theirs : List Note
  theirs = notes_from c a.words a.dropped (After c t.inputs) inputs

  mine : spans added ≡ spans theirs
  mine = ap spans a.are ∙ spans-append a.front theirs ∙ ap (λ l. l ++ spans theirs) a.is_front.spans

  go : HasNoRestart inputs ⊎ (inputs ≡ restart ∷ []) → Accounts (After c after.inputs).floor (spans (since_after inputs since added))
  go (inl h) =
      let on = run_accounts c a.words a.dropped t.inputs (spans since) inputs some h b in
      let all : spans since ++ spans theirs ≡ spans (since ++ added) = sym (spans-append since added ∙ ap (λ l. spans since ++ l) mine) in
      subst (λ (q : List Input). Accounts (After c q).floor (spans (since_after inputs since added))) (sym a.inputs_are)
      (subst (λ (e : Bool). Accounts (After c (t.inputs ++ inputs)).floor (spans (if e then added else since ++ added))) (sym (none_begins inputs h))
      (subst (λ l. Accounts (After c (t.inputs ++ inputs)).floor l) all on))
  go (inr begun) =
      let low : (After c (t.inputs ++ inputs)).floor ≡ 1 =
      ap (λ (q : List Input). (After c (t.inputs ++ q)).floor) begun ∙ ap (λ (s : State). s.floor) (after_from-append c first_state t.inputs (restart ∷ [])) in
      let none : spans added ≡ [] = mine ∙ ap (λ (q : List Input). spans (notes_from c a.words a.dropped (After c t.inputs) q)) begun in
      subst (λ (q : List Input). Accounts (After c q).floor (spans (since_after inputs since added))) (sym a.inputs_are)
      (subst (λ (e : Bool). Accounts (After c (t.inputs ++ inputs)).floor (spans (if e then added else since ++ added))) (sym (ap begins begun))
      (inl (none, low)))

-- ---- one line

ends_keep : (c : AcqConfig) (t after : Trace) (notes added theirs : List Note) (inputs : List Input) → TellEnds c (retired_from c first_state t.inputs) (endings notes)
    → endings added ≡ endings theirs
    → retired_from c first_state after.inputs ≡ retired_from c first_state t.inputs ++ retired_from c (After c t.inputs) inputs
    → TellEnds c (retired_from c (After c t.inputs) inputs) (endings theirs)
    → TellEnds c (retired_from c first_state after.inputs) (endings (notes ++ added))
ends_keep c t after notes added theirs inputs before mine gone now =
    subst (λ rs. TellEnds c rs (endings (notes ++ added))) (sym gone)
    (subst (λ l. TellEnds c (retired_from c first_state t.inputs ++ retired_from c (After c t.inputs) inputs) l) (sym (endings-append notes added ∙ ap (λ l. endings notes ++ l) mine))
    (ends_both c (retired_from c first_state t.inputs) (retired_from c (After c t.inputs) inputs) (endings notes) (endings theirs) before now))

line_keeps : (c : AcqConfig) (w v : Wide) (t after : Trace) (notes since added : List Note) (inputs : List Input) → HasSizes c → Adds c w v t after added inputs → Keeps c w t notes since
    → Keeps c v after (notes ++ added) (since_after inputs since added)
line_keeps c w v t after notes since added inputs sizes a k =
    let s : State = After c t.inputs in
    let theirs : List Note = notes_from c a.words a.dropped s inputs in
    let next : After c after.inputs ≡ after_from c s inputs = ap (After c) a.inputs_are ∙ after_from-append c first_state t.inputs inputs in
    let of_inputs : AllByRecursion IsOfInput theirs = notes_are_of_inputs c a.words a.dropped s inputs in
    let part : (test : Note → Bool) → times_so test (notes ++ added) ≡ times_so test notes + (times_so test a.front + times_so test theirs) =
    λ test. times-append test notes added ∙ ap (λ (m : ℕ). times_so test notes + m) (ap (times_so test) a.are ∙ times-append test a.front theirs) in
    let balance = run_balances c a.words a.dropped s inputs sizes.window (blocks_are_in_order c t.inputs sizes.window) in
    let opens : length (After c after.inputs).opens ≡ length (after_from c s inputs).opens = ap (λ (u : State). length u.opens) next in
    let fills : Fills c t after a.words inputs = a.fills k.agrees in
    let mine : endings added ≡ endings theirs = ap endings a.are ∙ (endings-append a.front theirs ∙ ap (λ l. l ++ endings theirs) a.is_front.endings) in
    let gone : retired_from c first_state after.inputs ≡ retired_from c first_state t.inputs ++ retired_from c s inputs =
    ap (retired_from c first_state) a.inputs_are ∙ retired_from-append c first_state t.inputs inputs in
    record {
      counts = counted-append notes added no_counts
          ∙ ap (counted added) k.counts
          ∙ ap (λ l. counted l s.counts) a.are
          ∙ counted-append a.front theirs s.counts
          ∙ ap (counted theirs) (a.is_front.counts s.counts)
          ∙ inputs_counted c a.words a.dropped s inputs
          ∙ ap (λ (u : State). u.counts) (sym next);
      idle = omega (arith, part is_idle, k.idle, a.is_front.idle, never_idle theirs of_inputs, a.idle);
      refused = omega (arith, part is_unwidened, k.refused, a.is_front.refused, never_refused theirs of_inputs, a.refused);
      opened = omega (arith, part is_opening, part is_ending, k.opened, a.is_front.opens, a.is_front.ends, balance, opens);
      blocks = blocks_keep c w v t after since added inputs sizes.window a k.blocks;
      reasons = ends_keep c t after notes added theirs inputs k.reasons mine gone (notes_are_reasoned c a.words a.dropped s inputs sizes.payload);
      agrees = fills.agrees;
      filled = ap (λ l. told_fills (notes ++ l)) a.are ∙ fills_told c t after a.words a.dropped notes a.front inputs k.filled a.is_front.fills fills;
      run = a.runs k.run;
      dropped = drops-append notes added
          ∙ (ap (λ l. told_drops notes ++ told_drops l) a.are
          ∙ (ap (λ l. told_drops notes ++ l) (drops-append a.front theirs ∙ ap (λ l. l ++ told_drops theirs) a.is_front.drops)
          ∙ (ap (λ l. l ++ told_drops theirs) k.dropped ∙ sym (a.drops k.run))));
    }

-- ---- all lines

abbrev KeepsSo : List Note → List Note → Standing → Type 0
KeepsSo notes since at_first = (notes ≡ []) × (since ≡ [])
KeepsSo notes since (running c w t) = HasSizes c → Keeps c w t notes since

opening_keeps : (c : AcqConfig) (version : ℕ) → Keeps c (nothing_wide version) opening [] []
opening_keeps c version = record {
  counts = refl;
  idle = refl;
  refused = refl;
  opened = omega arith;
  blocks = inl (refl, refl);
  reasons = refl;
  agrees = opening_agrees c;
  filled = refl;
  run = opening_runs;
  dropped = refl;
}

-- the kept words may differ in the greatest block
same_refused : (c : AcqConfig) (v : Wide) (t after : Trace) (notes since : List Note) → Keeps c v after notes since → Keeps c (kept_behind v t after) after notes since
same_refused c v t after notes since k =
    record { counts = k.counts; idle = k.idle; refused = k.refused; opened = k.opened; blocks = k.blocks; reasons = k.reasons; agrees = k.agrees; filled = k.filled; run = k.run; dropped = k.dropped }

later_keeps : (c : AcqConfig) (w : Wide) (t : Trace) (notes since : List Note) (n : ℕ) (line text : List ℕ) (new : Telling) → ExplainsLater c w t notes since n line text new
    → KeepsSo notes since (running c w t) → KeepsSo new.notes new.since new.standing
later_keeps c w t notes since n line text new e k =
    let r = e.replays in
    let added : List Note = notes_as c w t r.says (meaning w t r.says) e.report r.kept r.trace r.does in
    let inputs : List Input = inputs_as c w t r.says (meaning w t r.says) e.report r.kept r.trace r.does in
    let a : Adds c w r.kept t r.trace added inputs = line_adds c w t r.says (meaning w t r.says) e.report r.kept r.trace (read_by_other line r.says r.read) refl r.does in
    let made : HasSizes c → Keeps c (kept_behind r.kept t r.trace) r.trace (notes ++ added) (since_after inputs since added) =
    λ sizes. same_refused c r.kept t r.trace (notes ++ added) (since_after inputs since added) (line_keeps c w r.kept t r.trace notes since added inputs sizes a (k sizes)) in
    subst (λ (m : Telling). KeepsSo m.notes m.since m.standing) (sym e.now)
    (subst (λ (s : Standing). KeepsSo (notes ++ added) (since_after inputs since added) s) (sym r.after) made)

first_keeps : (notes since : List Note) (line text : List ℕ) (new : Telling) → ExplainsFirst notes since line text new → KeepsSo notes since at_first → KeepsSo new.notes new.since new.standing
first_keeps notes since line text new e k =
    let c : AcqConfig = config_of e.replays.config in
    let version : ℕ = e.replays.config.version in
    let made : HasSizes c → Keeps c (nothing_wide version) opening notes since =
    λ sizes. subst (λ l. Keeps c (nothing_wide version) opening l since) (sym k.0) (subst (λ l. Keeps c (nothing_wide version) opening [] l) (sym k.1) (opening_keeps c version)) in
    subst (λ (m : Telling). KeepsSo m.notes m.since m.standing) (sym e.now)
    (subst (λ (s : Standing). KeepsSo notes since s) (sym e.replays.after) made)

one_keeps : (notes since : List Note) (s : Standing) (n : ℕ) (line text : List ℕ) (new : Telling) → ExplainRuns (record { notes = notes; since = since; standing = s }) n line GoesOn text new
    → KeepsSo notes since s → KeepsSo new.notes new.since new.standing
one_keeps notes since at_first n line text new e k = first_keeps notes since line text new e k
one_keeps notes since (running c w t) n line text new e k = later_keeps c w t notes since n line text new e k

all_keep : (m : Telling) (n : ℕ) (lines : List (List ℕ)) (told : List ℕ) (new : Telling) → RunsLines ExplainRuns m n lines told new → KeepsSo m.notes m.since m.standing
    → KeepsSo new.notes new.since new.standing
all_keep m n [] told new (silent, is) k = subst (λ (u : Telling). KeepsSo u.notes u.since u.standing) (sym is) k
all_keep m n (l ∷ lines) told new (mid, front, rest, runs, later, parts) k =
    all_keep mid (n + 1) lines rest new later (one_keeps m.notes m.since m.standing (n + 1) l front mid runs k)

one_drop : (x : Note) → (if is_drop x then 1 else 0) ≡ length (told_drops_of x)
one_drop (drops b buffer) = refl
one_drop _ = refl

told_many : (xs : List Note) → times_so is_drop xs ≡ length (told_drops xs)
told_many [] = refl
told_many (x ∷ xs) = omega (arith, one_drop x, told_many xs, length-append (told_drops_of x) (told_drops xs))

-- the drops that are told are as many as the places that were dropped
drops_counted : (notes : List Note) (h : List Entry) → Run h → told_drops notes ≡ map drop_told (dropped_items acquires h) → times_so is_drop notes ≡ length (dropped_places h)
drops_counted notes h run told =
    told_many notes
    ∙ (ap length told
    ∙ (length-map (dropped_items acquires h) drop_told ∙ (sym (length-places (dropped_items acquires h)) ∙ ap length (takes_counted acquires h run))))

told_so : (notes since : List Note) (s : Standing) → KeepsSo notes since s → StandsTold notes since s
told_so notes since at_first k = tt
told_so notes since (running c w t) k = λ sizes.
    let h = k sizes in
    record {
      counts = h.counts;
      idle = h.idle;
      refused = h.refused;
      opened = h.opened;
      blocks = accounted (After c t.inputs).floor (spans since) h.blocks;
      reasons = h.reasons;
      filled = h.filled;
      fills = filled_counted notes (filled_blocks t) h.filled;
      complete = whole_counted notes (filled_blocks t) h.filled;
      dropped = h.dropped;
      drops = drops_counted notes t.entries h.run h.dropped;
    }

pub scripts_are_accounted : ScriptsAreAccounted
scripts_are_accounted lines told new runs = told_so new.notes new.since new.standing (all_keep untold 0 lines told new runs (refl, refl))
