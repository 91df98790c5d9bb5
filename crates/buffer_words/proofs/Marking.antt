-- The steps on the kill mark and on the run word keep the rule.
use Rattle.std.proofs.Common.{◌≡◌, ◌≢◌, ◌⊎◌, ℕ, ◌≤◌, ◌==◌, Bool, true, false, List, [], ◌∷◌, ◌++◌, set, get_or, Result, Ok, Err, refl, sym, ap, subst, ◌∙◌, inl, inr, eqb, arith}
use Rattle.std.proofs.lemmas.List.{length-set, get_or-set_same, get_or-set_other}
use Rattle.std.proofs.lemmas.Bool.{cases_eq}
use mathlib.Core.Option as opt
use prog.Atomic.{either}
use lib.ListN.{get_elem?}
use Rattle.atomic_table.specs.Table.{State, step, keeps, Allows}
use Rattle.atomic_table.proofs.Lists.{exchanged}
use Rattle.board_machine.specs.declared.events.Event.{Event}
use Rattle.board_machine.specs.declared.events.Event.TheVariants.{LookRun, Start, Stop, Post, Unpost, Join}
use Rattle.board_machine.specs.Machine.{Board, Meets, entry, next}
use Rattle.board_machine.specs.Histories.{After}
use Rattle.board_machine.proofs.RunWord.{run_small}
use Rattle.buffer_words.specs.declared.view.View.{View}
use Rattle.buffer_words.specs.declared.view.Stage.TheVariants.{Idle}
use Rattle.buffer_words.specs.Codes.{IsPool, kill_code}
use Rattle.buffer_words.specs.Rule.{Slot, Homes, idle, Shows, Stored, Shelved, Kept}
use Rattle.buffer_words.specs.Plays.{Seated, LooksAt}
use Rattle.buffer_words.specs.Passes.{IsPass}
use Rattle.buffer_words.specs.Marks.{looked_run, Started, started, stopped_run, Stopped, stopped, posted, unposted}
use Rattle.buffer_words.proofs.Frames.{idle_adds}
use Rattle.buffer_words.proofs.Carried.{same_pass}
use Rattle.buffer_words.proofs.Own.{Makes, looking}

-- the board with another kill mark and another run word
abbrev pub with_marks : Board → Bool → ℕ → Board
with_marks b kill run = record b { kill = kill; run = run }

shows_kill : (b : Board) (kill : Bool) (words : List ℕ) (n : ℕ) → n ≡ kill_code kill → Shows b words → Shows (with_marks b kill b.run) (set words 17 n)
shows_kill b kill words n is shows = record {
  wide = length-set words 17 n ∙ shows.wide;
  own = λ i lt. get_or-set_other words 17 i n 0 (λ e. absurd (omega arith)) ∙ shows.own i lt;
  pool = subst (λ m. IsPool m b.pool) (sym (get_or-set_other words 17 15 n 0 (λ e. absurd (omega arith)))) shows.pool;
  out = get_or-set_other words 17 16 n 0 (λ e. absurd (omega arith)) ∙ shows.out;
  kill = get_or-set_same words 17 n 0 (omega (arith, shows.wide)) ∙ is;
  run = get_or-set_other words 17 18 n 0 (λ e. absurd (omega arith)) ∙ shows.run;
}

shows_run : (b : Board) (words : List ℕ) (n : ℕ) → Shows b words → Shows (with_marks b b.kill n) (set words 18 n)
shows_run b words n shows = record {
  wide = length-set words 18 n ∙ shows.wide;
  own = λ i lt. get_or-set_other words 18 i n 0 (λ e. absurd (omega arith)) ∙ shows.own i lt;
  pool = subst (λ m. IsPool m b.pool) (sym (get_or-set_other words 18 15 n 0 (λ e. absurd (omega arith)))) shows.pool;
  out = get_or-set_other words 18 16 n 0 (λ e. absurd (omega arith)) ∙ shows.out;
  kill = get_or-set_other words 18 17 n 0 (λ e. absurd (omega arith)) ∙ shows.kill;
  run = get_or-set_same words 18 n 0 (omega (arith, shows.wide));
}

shelved_marks : (b : Board) (kill : Bool) (run : ℕ) (homes : Homes) → Shelved b homes → Shelved (with_marks b kill run) homes
shelved_marks b kill run homes sh = record {
  wide = sh.wide;
  vacant = sh.vacant;
  laid = λ i h. stays i (sh.laid i h);
  pooled = λ i more. stays i (sh.pooled i more);
  filled = sh.filled;
}
  where
    stays : (i : ℕ) → Stored b homes i → Stored (with_marks b kill run) homes i
    stays i st = record { filling = st.filling; is = st.is; size = st.size }

-- a step that adds an entry and changes the marks alone
marking : (s : State Slot View) (id i n : ℕ) (me : Seated) (event : Event) (kill : Bool) (run : ℕ) (k : Kept s) → me.0.stage ≡ Idle → get_elem? s.views id ≡ opt.some me.0
    → Meets (After k.history) me.0.number event → ((j : ℕ) → event ≢ Join j)
    → next (After k.history) (entry me.0.number event) ≡ with_marks (After k.history) kill run
    → Shows (with_marks (After k.history) kill run) (set s.words i n)
    → (tells : Seated → Type 0) → (LooksAt me event (idle me.0.number (k.history ++ entry me.0.number event ∷ []), me.1) → tells (idle me.0.number (k.history ++ entry me.0.number event ∷ []), me.1))
    → Makes s id i n me tells
marking s id i n me event kill run k st at meets no_join after shows tells says =
    let both = idle_adds s id i n me.1 keeps me.0 event k st at meets no_join
    (subst (λ b. Shows b (set s.words i n)) (sym after) shows)
    (subst (λ b. Shelved b s.homes) (sym after) (shelved_marks (After k.history) kill run s.homes k.shelved)) in
    (idle me.0.number (k.history ++ entry me.0.number event ∷ []), keeps, tt, both.0, says (record { entered = both.1; slots = refl }))

-- the run word is at most 2
small_run : (s : State Slot View) (k : Kept s) → get_or s.words 18 0 ≤ 2
small_run s k = subst (λ n. n ≤ 2) (sym k.shows.run) (run_small k.history)

-- a look at the run word, or a refusal that shows it, changes nothing
showing_run : (s : State Slot View) (id : ℕ) (me : Seated) (event : Event) (k : Kept s) → me.0.stage ≡ Idle → get_elem? s.views id ≡ opt.some me.0
    → Meets (After k.history) me.0.number event → ((j : ℕ) → event ≢ Join j)
    → next (After k.history) (entry me.0.number event) ≡ After k.history
    → (tells : Seated → Type 0) → (LooksAt me event (idle me.0.number (k.history ++ entry me.0.number event ∷ []), me.1) → tells (idle me.0.number (k.history ++ entry me.0.number event ∷ []), me.1))
    → Makes s id 18 (get_or s.words 18 0) me tells
showing_run s id me event k st at meets no_join after tells says =
    let both = looking s id 18 me event k st at meets no_join after in
    (idle me.0.number (k.history ++ entry me.0.number event ∷ []), keeps, tt, both.0, says both.1)

pub looks_run : (slots id : ℕ) (me : Seated) → me.0.stage ≡ Idle → Allows Kept slots id me 18 (λ n. n) (looked_run (step slots 18 0 0 opt.none) me)
looks_run slots id me st s k homes at small =
    showing_run s id me (LookRun (get_or s.words 18 0)) k st at k.shows.run (λ j e. cc) refl
    (looked_run (step slots 18 0 0 opt.none) me (get_or s.words 18 0)) (λ told. record { small = small_run s k; looks = told })

starts_by : (slots id : ℕ) (me : Seated) → me.0.stage ≡ Idle → (s : State Slot View) (k : Kept s) → get_elem? s.views id ≡ opt.some me.0
    → (get_or s.words 18 0 ≡ 1) ⊎ (get_or s.words 18 0 ≢ 1)
    → Makes s id 18 1 me (Started me (get_or s.words 18 0))
starts_by slots id me st s k at (inl e) =
    subst (λ n. Makes s id 18 n me (Started me (get_or s.words 18 0))) e
    (showing_run s id me (Start (Err (get_or s.words 18 0))) k st at (k.shows.run, e) (λ j q. cc) refl
    (Started me (get_or s.words 18 0)) (λ told. record { done = λ ne. absurd (ne e); refused = λ _. told }))
starts_by slots id me st s k at (inr ne) =
    marking s id 18 1 me (Start (Ok tt)) (After k.history).kill 1 k st at (λ q. ne (k.shows.run ∙ q)) (λ j q. cc) refl
    (shows_run (After k.history) s.words 1 k.shows)
    (Started me (get_or s.words 18 0)) (λ told. record { done = λ _. told; refused = λ e. absurd (ne e) })

pub starts : (slots id : ℕ) (me : Seated) → me.0.stage ≡ Idle → Allows Kept slots id me 18 (λ _. 1) (started (step slots 18 1 0 opt.none) me)
starts slots id me st s k homes at small = starts_by slots id me st s k at (cases_eq (get_or s.words 18 0) 1)

stops_hit : (id : ℕ) (kill : Bool) (me : Seated) → me.0.stage ≡ Idle → (s : State Slot View) (k : Kept s) → get_elem? s.views id ≡ opt.some me.0
    → get_or s.words 18 0 ≡ 1 → Makes s id 18 (stopped_run kill) me (Stopped kill me (get_or s.words 18 0))
stops_hit id kill me st s k at hit =
    marking s id 18 (stopped_run kill) me (Stop kill (Ok tt)) (After k.history).kill (stopped_run kill) k st at (sym k.shows.run ∙ hit) (λ j q. cc) refl
    (shows_run (After k.history) s.words (stopped_run kill) k.shows)
    (Stopped kill me (get_or s.words 18 0)) (λ told. record { small = small_run s k; done = λ _. told; refused = λ ne. absurd (ne hit) })

stops_miss : (id : ℕ) (kill : Bool) (me : Seated) → me.0.stage ≡ Idle → (s : State Slot View) (k : Kept s) → get_elem? s.views id ≡ opt.some me.0
    → get_or s.words 18 0 ≢ 1 → Makes s id 18 (get_or s.words 18 0) me (Stopped kill me (get_or s.words 18 0))
stops_miss id kill me st s k at miss =
    showing_run s id me (Stop kill (Err (get_or s.words 18 0))) k st at (k.shows.run, miss) (λ j q. cc) refl
    (Stopped kill me (get_or s.words 18 0)) (λ told. record { small = small_run s k; done = λ hit. absurd (miss hit); refused = λ _. told })

stops_as : (slots id : ℕ) (kill : Bool) (me : Seated) → me.0.stage ≡ Idle
    → Allows Kept slots id me 18 (λ n. either (eqb n 1) (stopped_run kill) n) (Stopped kill me)
stops_as slots id kill me st s k homes at small =
    exchanged (get_or s.words 18 0) 1 (stopped_run kill) (λ m. Makes s id 18 m me (Stopped kill me (get_or s.words 18 0)))
    (stops_hit id kill me st s k at) (stops_miss id kill me st s k at)

pub stops : (slots id : ℕ) (kill : Bool) (me : Seated) → me.0.stage ≡ Idle
    → Allows Kept slots id me 18 (λ n. either (eqb n 1) (stopped_run kill) n) (stopped (step slots 18 1 (stopped_run kill) opt.none) me)
stops slots id true me st = stops_as slots id true me st
stops slots id false me st = stops_as slots id false me st

pub posts : (slots id : ℕ) (me : Seated) → me.0.stage ≡ Idle → Allows Kept slots id me 17 (λ _. 1) (posted (step slots 17 1 0 opt.none) me)
posts slots id me st s k homes at small =
    marking s id 17 1 me Post true (After k.history).run k st at tt (λ j q. cc) refl
    (shows_kill (After k.history) true s.words 1 refl k.shows)
    (LooksAt me Post) (λ told. told)

-- whether the mark stood, by its word
stood : (kill : Bool) (n : ℕ) → n ≡ kill_code kill → (n == 1) ≡ kill
stood true n e = ap (λ m. m == 1) e
stood false n e = ap (λ m. m == 1) e

pub unposts : (slots id : ℕ) (me : Seated) → me.0.stage ≡ Idle → Allows Kept slots id me 17 (λ _. 0) (unposted (step slots 17 0 0 opt.none) me)
unposts slots id me st s k homes at small =
    marking s id 17 0 me (Unpost (get_or s.words 17 0 == 1)) false (After k.history).run k st at (stood (After k.history).kill (get_or s.words 17 0) k.shows.kill) (λ j q. cc) refl
    (shows_kill (After k.history) false s.words 0 refl k.shows)
    (LooksAt me (Unpost (get_or s.words 17 0 == 1))) (λ told. told)

-- a pass after an entry that changes the marks alone
pub started_pass : (order : List ℕ) (me after : Seated) (end : Result (Unit {0}) ℕ) → IsPass order me.0 me.1 → LooksAt me (Start end) after → IsPass order after.0 after.1
started_pass order me after (Ok done) is told = same_pass order me after (Start (Ok done)) is told (λ b may. refl)
started_pass order me after (Err run) is told = same_pass order me after (Start (Err run)) is told (λ b may. refl)

pub stopped_pass : (order : List ℕ) (me after : Seated) (kill : Bool) (end : Result (Unit {0}) ℕ) → IsPass order me.0 me.1 → LooksAt me (Stop kill end) after → IsPass order after.0 after.1
stopped_pass order me after kill (Ok done) is told = same_pass order me after (Stop kill (Ok done)) is told (λ b may. refl)
stopped_pass order me after kill (Err run) is told = same_pass order me after (Stop kill (Err run)) is told (λ b may. refl)
