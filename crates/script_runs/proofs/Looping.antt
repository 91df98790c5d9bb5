-- A script that goes on, turn by turn, and how it ends.
use Rattle.std.proofs.Common.{◌≡◌, ℕ, ◌+◌, ◌≤◌, List, [], ◌∷◌, ◌++◌, length, Option, Some, None, refl, ap, sym, ◌∙◌, subst, arith, append_assoc, length-append}
use Rattle.std.proofs.lemmas.List.{append-nil}
use Rattle.gev_links.specs.Told.{Gives, Appends}
use Rattle.gev_script.specs.Streams.{HasNoFeed, IsLine, ReadsOn}
use Rattle.gev_script.proofs.Tellings.{Gives-append, Gives-same}
use Rattle.script_runs.specs.declared.ran.Ran.{Ran}
use Rattle.script_runs.specs.declared.ran.Ran.TheVariants.{GoesOn}
use Rattle.script_runs.specs.declared.ending.Ending.{Ending}
use Rattle.script_runs.specs.declared.ending.Ending.TheVariants.{Done, BadLine, ReadFault, WriteFault, NoMemory}
use Rattle.script_runs.specs.Runs.{Running, Refusing, RunsLines, lines_text, AreLines}
use Rattle.script_runs.specs.Outcomes.{RunsLast, WroteFront, EndsAt, RunEnds}
use Rattle.script_runs.specs.Turns.{GoesOnFrom}

Appends-same : (w : Option (List ℕ)) → Appends w w []
Appends-same None = refl
Appends-same (Some w) = ap (λ l. Some l) (sym (append-nil w))

Appends-append : (w x y : Option (List ℕ)) (xs ys : List ℕ) → Appends w x xs → Appends x y ys → Appends w y (xs ++ ys)
Appends-append None x y xs ys g h = subst (λ v. Appends v y ys) g h
Appends-append (Some w) x y xs ys g h =
    let last : Appends (Some (w ++ xs)) y ys = subst (λ v. Appends v y ys) g h in
    last ∙ ap (λ t. Some t) (append_assoc w xs ys)

-- one line more
lines_text-push : (lines : List (List ℕ)) (line : List ℕ) → lines_text (lines ++ line ∷ []) ≡ lines_text lines ++ (line ++ 10 ∷ [])
lines_text-push [] line = refl
lines_text-push (first ∷ lines) line =
    ap (λ t. first ++ 10 ∷ t) (lines_text-push lines line) ∙ sym (append_assoc first (10 ∷ lines_text lines) (line ++ 10 ∷ []))

AreLines-push : (lines : List (List ℕ)) (line : List ℕ) → AreLines lines → HasNoFeed line → length line ≤ 20000 → AreLines (lines ++ line ∷ [])
AreLines-push [] line h a b = (a, b, tt)
AreLines-push (first ∷ lines) line h a b = (h.0, h.1, AreLines-push lines line h.2 a b)

RunsLines-push : {M : Type 0} (runs : Running M) (m mid new : M) (n k : ℕ) (lines : List (List ℕ)) (line text report : List ℕ)
    → RunsLines runs m n lines text mid → k ≡ n + length lines → runs mid (k + 1) line GoesOn report new
    → RunsLines runs m n (lines ++ line ∷ []) (text ++ report) new
RunsLines-push runs m mid new n k [] line text report h e run =
    let same : k ≡ n = omega arith in
    let from_m = subst (λ x. runs x (k + 1) line GoesOn report new) h.1 run in
    (new, report, [], subst (λ i. runs m (i + 1) line GoesOn report new) same from_m, (refl, refl), ap (λ t. t ++ report) h.0 ∙ sym (append-nil report))
RunsLines-push runs m mid new n k (first ∷ lines) line text report h e run =
    let later : k ≡ n + 1 + length lines = omega arith in (
      h.0,
      h.1,
      h.2 ++ report,
      h.3,
      RunsLines-push runs h.0 mid new (n + 1) k lines line h.2 report h.4 later run,
      ap (λ t. t ++ report) h.5 ∙ append_assoc h.1 h.2 report,
    )

-- A script was run over lines that go on, their report was written, and these bytes are held behind them.
pub record Stood {M : Type 0} (runs : Running M) (m now : M) (given : ℕ) (held : List ℕ) (left left_now written written_now : Option (List ℕ)) : Type 0 where
  pub lines : List (List ℕ)
  pub text : List ℕ
  pub came : Gives left left_now (lines_text lines ++ held)
  pub are : AreLines lines
  pub count : given ≡ length lines
  pub counted : length lines ≤ 4294967295
  pub ran : RunsLines runs m 0 lines text now
  pub appended : Appends written written_now text

pub stood_none : {M : Type 0} (runs : Running M) (m : M) (given : ℕ) (held : List ℕ) (left written : Option (List ℕ))
    → given ≡ 0 → held ≡ [] → Stood runs m m given held left left written written
stood_none runs m given held left written none empty = record {
  lines = [];
  text = [];
  came = subst (Gives left left) (sym empty) (Gives-same left);
  are = tt;
  count = none;
  counted = omega arith;
  ran = (refl, refl);
  appended = Appends-same written;
}

-- what came, in one list
module _ (lines : List (List ℕ)) (held more line rest : List ℕ) where
  came_line : held ++ more ≡ line ++ 10 ∷ rest → (lines_text lines ++ held) ++ more ≡ lines_text (lines ++ line ∷ []) ++ rest
  came_line e =
      append_assoc (lines_text lines) held more
      ∙ ap (λ t. lines_text lines ++ t) (e ∙ sym (append_assoc line (10 ∷ []) rest))
      ∙ sym (append_assoc (lines_text lines) (line ++ 10 ∷ []) rest)
      ∙ ap (λ t. t ++ rest) (sym (lines_text-push lines line))

module _ {M : Type 0} (runs : Running M) (m now new : M) (given given_after : ℕ) (held held_after line : List ℕ)
    (left left_now left_after written written_now written_after : Option (List ℕ)) where
  pub stood_on : Stood runs m now given held left left_now written written_now → given_after ≡ given + 1 → given_after ≤ 4294967295
      → ReadsOn held left_now left_after (λ bytes. IsLine bytes line held_after) → GoesOnFrom runs now new given line written_now written_after
      → Stood runs m new given_after held_after left left_after written written_after
  stood_on s next few read goes =
      let count : given ≡ length s.lines = s.count in
      let size : length (s.lines ++ line ∷ []) ≡ length s.lines + 1 = length-append s.lines (line ∷ []) ∙ omega arith in
      record {
        lines = s.lines ++ line ∷ [];
        text = s.text ++ goes.report;
        came =
            subst (Gives left left_after) (came_line s.lines held read.more line held_after read.holds.parts)
            (Gives-append left left_now left_after (lines_text s.lines ++ held) read.more s.came read.given);
        are = AreLines-push s.lines line s.are read.holds.no_feed read.holds.short;
        count = omega arith;
        counted = omega arith;
        ran = RunsLines-push runs m now new 0 given s.lines line s.text goes.report s.ran (omega arith) goes.run;
        appended = Appends-append written written_now written_after s.text goes.report s.appended goes.appended;
      }

-- what holds of a text that was written since holds of the whole text
last_map : {M : Type 0} (runs : Running M) (now : M) (n : ℕ) (ran : Ran) (rest : List ℕ) (P Q : List ℕ → Type 0) → ((t : List ℕ) → P t → Q t)
    → RunsLast runs now n ran rest P → RunsLast runs now n ran rest Q
last_map runs now n ran rest P Q f h = record {
  line = h.line;
  held = h.held;
  final = h.final;
  report = h.report;
  is_line = h.is_line;
  counted = h.counted;
  run = h.run;
  holds = f h.report h.holds;
}

front_map : (P Q : List ℕ → Type 0) → ((t : List ℕ) → P t → Q t) → (t : List ℕ) → WroteFront P t → WroteFront Q t
front_map P Q f t h = record { front = h.front; more = h.more; parts = h.parts; some_left = h.some_left; wrote = f h.front h.wrote }

pub ends_map : {M : Type 0} (runs : Running M) (refuses : Refusing M) (now : M) (n : ℕ) (rest : List ℕ) (ending : Ending) (left : Option (List ℕ))
    (reads reads_after writes writes_after : ℕ) (P Q : List ℕ → Type 0) → ((t : List ℕ) → P t → Q t)
    → EndsAt runs refuses now n rest ending left reads reads_after writes writes_after P → EndsAt runs refuses now n rest ending left reads reads_after writes writes_after Q
ends_map runs refuses now n rest Done left a b c d P Q f h = last_map runs now n _ rest P Q f h
ends_map runs refuses now n rest (BadLine line kind) left a b c d P Q f h = (h.0, h.1, f [] h.2)
ends_map runs refuses now n rest ReadFault left a b c d P Q f h = (h.0, h.1, f [] h.2)
ends_map runs refuses now n rest WriteFault left a b c d P Q f h = (h.0, (h.1.0, last_map runs now n h.1.0 rest (WroteFront P) (WroteFront Q) (front_map P Q f) h.1.1))
ends_map runs refuses now n rest NoMemory left a b c d P Q f h = f [] h

module _ {M : Type 0} (runs : Running M) (refuses : Refusing M) (m now : M) (given : ℕ) (held : List ℕ) (ending : Ending)
    (left left_now left_after written written_now written_after : Option (List ℕ)) (reads reads_now reads_after writes writes_now writes_after : ℕ) where
  pub stood_ends : Stood runs m now given held left left_now written written_now → reads_now ≡ reads → writes_now ≡ writes
      → ReadsOn held left_now left_after
      (λ rest. EndsAt runs refuses now given rest ending left_after reads_now reads_after writes_now writes_after (Appends written_now written_after))
      → RunEnds runs refuses m ending left left_after reads reads_after written written_after writes writes_after
  stood_ends s same_reads same_writes read = record {
    now = now;
    lines = s.lines;
    rest = held ++ read.more;
    text = s.text;
    given =
        subst (Gives left left_after) (append_assoc (lines_text s.lines) held read.more)
        (Gives-append left left_now left_after (lines_text s.lines ++ held) read.more s.came read.given);
    are = s.are;
    counted = s.counted;
    few = read.few;
    ran = s.ran;
    holds =
        let W : List ℕ → Type 0 = Appends written_now written_after in
        let V : List ℕ → Type 0 = λ report. Appends written written_after (s.text ++ report) in
        let a = subst (λ n. EndsAt runs refuses now n (held ++ read.more) ending left_after reads_now reads_after writes_now writes_after W) s.count read.holds in
        let b = subst (λ f. EndsAt runs refuses now (length s.lines) (held ++ read.more) ending left_after f reads_after writes_now writes_after W) same_reads a in
        let c = subst (λ f. EndsAt runs refuses now (length s.lines) (held ++ read.more) ending left_after reads reads_after f writes_after W) same_writes b in
        ends_map runs refuses now (length s.lines) (held ++ read.more) ending left_after reads reads_after writes writes_after W V
        (λ t h. Appends-append written written_now written_after s.text t s.appended h) c;
  }

-- No memory for the first line: nothing was read or written.
pub run_none : {M : Type 0} (runs : Running M) (refuses : Refusing M) (m : M) (left written : Option (List ℕ)) (reads writes : ℕ)
    → RunEnds runs refuses m NoMemory left left reads reads written written writes writes
run_none runs refuses m left written reads writes = record {
  now = m;
  lines = [];
  rest = [];
  text = [];
  given = Gives-same left;
  are = tt;
  counted = omega arith;
  few = omega arith;
  ran = (refl, refl);
  holds = Appends-same written;
}
