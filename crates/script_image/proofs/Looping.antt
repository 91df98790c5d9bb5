-- Lines that go on, turn by turn, and how they end.
use Rattle.std.proofs.Common.{◌≡◌, inl, inr, ℕ, ◌+◌, ◌-◌, ◌^◌, ◌<◌, ◌≤◌, List, [], ◌∷◌, ◌++◌, length, Option, Some, None, Ok, Err, refl, sym, ap, subst, ◌∙◌, append_assoc, arith}
use Rattle.std.proofs.lemmas.List.{append-nil}
use Rattle.gev_links.specs.Told.{Gives, Appends}
use Rattle.gev_script.specs.declared.line_end.LineEnd.{LineEnd}
use Rattle.gev_script.specs.declared.line_end.LineEnd.TheVariants as lines_ends
use Rattle.gev_script.specs.declared.kind.ScriptKind.TheVariants as kinds
use Rattle.gev_script.specs.Streams.{LinesState, IsLine, ReadsOn, CauseOfEnd, Nexts}
use Rattle.gev_script.proofs.Tellings.{Gives-append, Gives-same}
use Rattle.script_runs.specs.declared.ran.Ran.{Ran}
use Rattle.script_runs.specs.Runs.{RunsLines, AreLines, lines_text}
use Rattle.script_runs.proofs.Looping.{Stood, stood_none, stood_on}
use Rattle.script_trace.specs.Standing.{Standing, first, running, ReplayRuns}
use Rattle.script_image.specs.declared.image_end.ImageEnd.{ImageEnd}
use Rattle.script_image.specs.declared.image_end.ImageEnd.TheVariants as ends
use Rattle.script_image.specs.declared.wanted.Wanted.{Wanted}
use Rattle.script_image.specs.declared.wanted.Wanted.TheVariants.{One, All}
use Rattle.script_image.specs.Taking.{Taking, beginning, TakingRuns}
use Rattle.script_image.specs.Ends.{EndsBy, ImageEnds, IsInRange}
use Rattle.script_image.specs.Showing.{ShowingState, Counts, IsShowing, IsShowingSome, WaitsSo, ComesTo, unread_end, TurnsOn, Turn}
use Rattle.script_image.proofs.Coming.{Appends-same, Appends-nothing, bad_comes}
use Rattle.script_image.proofs.Leading.{waits_run}

-- ---- as a replay's

-- the same lines with the report that a replay has
pub replay_lines : (w : Wanted) (m new : Taking) (n : ℕ) (lines : List (List ℕ)) (shown : List ℕ) → RunsLines (TakingRuns w) m n lines shown new
    → (text : List ℕ) × RunsLines ReplayRuns m.standing n lines text new.standing
replay_lines w m new n [] shown h = ([], (refl, ap (λ (x : Taking). x.standing) h.1))
replay_lines w m new n (line ∷ lines) shown (mid, front, rest, run, more, parts) =
    let later = replay_lines w mid new (n + 1) lines rest more in
    (run.report ++ later.0, (mid.standing, run.report, later.0, run.runs, later.1, refl))

-- so what waits behind them was filled with retired blocks, or is empty
pub waits_behind : (w : Wanted) (s : Taking) (lines : List (List ℕ)) (shown : List ℕ) → AreLines lines → RunsLines (TakingRuns w) beginning 0 lines shown s → WaitsSo s.standing
waits_behind w s lines shown are ran = go s.standing refl
  where
    go : (st : Standing) → s.standing ≡ st → WaitsSo st
    go first is = tt
    go (running c wide t) is =
        let told = replay_lines w beginning s 0 lines shown ran in
        waits_run c wide t lines told.0 are (subst (λ (x : Standing). RunsLines ReplayRuns first 0 lines told.0 x) is told.1)

-- ---- a turn

reads_map : (held : List ℕ) (left left_after : Option (List ℕ)) (P Q : List ℕ → Type 0) → ((t : List ℕ) → P t → Q t) → ReadsOn held left left_after P → ReadsOn held left left_after Q
reads_map held left left_after P Q f h = record { more = h.more; given = h.given; prompt = h.prompt; few = h.few; holds = f (held ++ h.more) h.holds }

module _ (w : Wanted) (shown : List ℕ) (s : Taking) (i : ShowingState) (begun written : Option (List ℕ)) (writes : ℕ) (at : IsShowing w shown i s) (appended : Appends begun written shown) where
  -- no line could be read
  unread : (end : LineEnd) (given : ℕ) (bytes held : List ℕ) (left : Option (List ℕ)) (reads reads_after : ℕ) → CauseOfEnd end given bytes held left reads reads_after
      → EndsBy w s given bytes shown (unread_end given end) left reads reads_after begun written writes writes
  unread lines_ends.Long given bytes held left reads reads_after cause =
      bad_comes w kinds.Long (given + 1) given shown bytes s i.taken i.shown left reads reads_after begun written writes at.counts refl (inl cause.0) appended
  unread lines_ends.NoEnd given bytes held left reads reads_after cause =
      bad_comes w kinds.NoEnd (given + 1) given shown bytes s i.taken i.shown left reads reads_after begun written writes at.counts refl (inl (cause.0, cause.2)) appended
  unread lines_ends.Many given bytes held left reads reads_after cause =
      bad_comes w kinds.Many (given + 1) given shown bytes s i.taken i.shown left reads reads_after begun written writes at.counts refl
      (inr (record { line = cause.1.0; held = held; is_line = cause.1.1; refused = inl (refl, cause.0) })) appended
  unread lines_ends.ReadFault given bytes held left reads reads_after cause = fault w at.counts
    where
      fault : (v : Wanted) → Counts v shown i.taken i.shown s.taken → EndsBy v s given bytes shown ends.ReadFault left reads reads_after begun written writes writes
      fault (One k) counts = record { fewer = counts.1; ends = (cause.2, cause.0, Appends-nothing begun written shown counts.2 appended) }
      fault All counts = (cause.2, cause.0, appended)

  pub unread_turn : (end : LineEnd) (number : ℕ) (new : ShowingState) (lines lines_after : LinesState) (left left_after : Option (List ℕ)) (reads reads_after : ℕ)
      → lines.refusal ≡ None → number ≡ lines_after.given → Nexts (Err end) lines lines_after left left_after reads reads_after
      → Turn w (Some (unread_end number end)) shown s new lines lines_after left left_after reads reads_after begun written written writes writes
  unread_turn end number new lines lines_after left left_after reads reads_after none is (same, refused, read) =
      subst (λ m. Turn w (Some (unread_end m end)) shown s new lines lines_after left left_after reads reads_after begun written written writes writes) (sym (is ∙ same))
      (reads_map lines.held left left_after (λ bytes. CauseOfEnd end lines.given bytes lines_after.held left_after reads reads_after)
      (λ rest. EndsBy w s lines.given rest shown (unread_end lines.given end) left_after reads reads_after begun written writes writes)
      (λ bytes cause. unread end lines.given bytes lines_after.held left_after reads reads_after cause) read)

-- a line was read, and came to this
pub line_turn : (w : Wanted) (stop : Option ImageEnd) (shown : List ℕ) (s : Taking) (new : ShowingState) (number : ℕ) (lines lines_after : LinesState) (left left_after : Option (List ℕ)) (reads reads_after : ℕ)
    (begun written written_after : Option (List ℕ)) (writes writes_after : ℕ) → Nexts (Ok number) lines lines_after left left_after reads reads_after
    → ComesTo w stop shown s lines.given lines_after.line new begun written written_after writes writes_after
    → Turn w stop shown s new lines lines_after left left_after reads reads_after begun written written_after writes writes_after
line_turn w None shown s new number lines lines_after left left_after reads reads_after begun written written_after writes writes_after (next, few, given, none, read) comes =
    record { next = given ∙ next; few = omega (arith, few, given); unrefused = none; reads = read; shows = comes }
line_turn w (Some end) shown s new number lines lines_after left left_after reads reads_after begun written written_after writes writes_after (next, few, given, none, read) comes =
    reads_map lines.held left left_after (λ bytes. IsLine bytes lines_after.line lines_after.held)
    (λ rest. EndsBy w s lines.given rest shown end left_after reads reads_after begun written_after writes writes_after)
    (λ rest is_line. comes rest lines_after.held left_after reads reads_after is_line) read

-- ---- lines so far

-- the lines' states, each with the pictures that were shown so far
pub record Told : Type 0 where
  pub taking : Taking
  pub text : List ℕ

abbrev pub untold : Told
untold = record { taking = beginning; text = [] }

abbrev pub TellingRuns : Wanted → Told → ℕ → List ℕ → Ran → List ℕ → Told → Type 0
TellingRuns w m n line ran shown new = TakingRuns w m.taking n line ran shown new.taking × (new.text ≡ m.text ++ shown)

told_lines : (w : Wanted) (m new : Told) (n : ℕ) (lines : List (List ℕ)) (shown : List ℕ) → RunsLines (TellingRuns w) m n lines shown new
    → RunsLines (TakingRuns w) m.taking n lines shown new.taking × (new.text ≡ m.text ++ shown)
told_lines w m new n [] shown h =
    ((h.0, ap (λ (x : Told). x.taking) h.1), ap (λ (x : Told). x.text) h.1 ∙ sym (append-nil m.text) ∙ ap (λ (t : List ℕ). m.text ++ t) (sym h.0))
told_lines w m new n (line ∷ lines) shown (mid, front, rest, run, more, parts) =
    let later = told_lines w mid new (n + 1) lines rest more in (
      (mid.taking, front, rest, run.0, later.0, parts),
      later.1 ∙ ap (λ (t : List ℕ). t ++ rest) run.1 ∙ append_assoc m.text front rest ∙ ap (λ (t : List ℕ). m.text ++ t) (sym parts),
    )

-- Lines were run that go on, and these pictures of them were written.
pub record SoFar (w : Wanted) (i : ShowingState) (given : ℕ) (held : List ℕ) (left left_now written written_now : Option (List ℕ)) : Type 0 where
  pub now : Told
  pub stood : Stood (TellingRuns w) untold now given held left left_now written written_now
  pub is : IsShowing w now.text i now.taking

pub so_far_none : (w : Wanted) (i : ShowingState) (given : ℕ) (held : List ℕ) (left written : Option (List ℕ)) → given ≡ 0 → held ≡ [] → IsShowing w [] i beginning → SoFar w i given held left left written written
so_far_none w i given held left written none empty at =
    record { now = untold; stood = stood_none (TellingRuns w) untold given held left written none empty; is = at }

module _ (w : Wanted) (i new : ShowingState) (lines lines_after : LinesState) (left left_now left_after written written_now written_after : Option (List ℕ)) where
  pub so_far_on : (f : SoFar w i lines.given lines.held left left_now written written_now) → TurnsOn w f.now.text f.now.taking new lines lines_after left_now left_after written_now written_after
      → SoFar w new lines_after.given lines_after.held left left_after written written_after
  so_far_on f turn =
      let on = turn.shows in
      let to : Told = record { taking = on.to; text = f.now.text ++ on.picture } in
      record {
        now = to;
        stood =
            stood_on (TellingRuns w) untold f.now to lines.given lines_after.given lines.held lines_after.held lines_after.line left left_now left_after written written_now written_after
            f.stood turn.next turn.few turn.reads (record { report = on.picture; run = (on.run, refl); appended = on.appended });
        is = on.is;
      }

module _ (w : Wanted) (i : ShowingState) (given : ℕ) (held : List ℕ) (left left_now written written_now : Option (List ℕ)) (f : SoFar w i given held left left_now written written_now) where
  told_so : RunsLines (TakingRuns w) beginning 0 f.stood.lines f.stood.text f.now.taking × (f.now.text ≡ f.stood.text)
  told_so = told_lines w untold f.now 0 f.stood.lines f.stood.text f.stood.ran

  pub so_far_appended : Appends written written_now f.now.text
  so_far_appended = subst (λ (t : List ℕ). Appends written written_now t) (sym told_so.1) f.stood.appended

  pub so_far_waits : WaitsSo f.now.taking.standing
  so_far_waits = waits_behind w f.now.taking f.stood.lines f.stood.text f.stood.are told_so.0

  pub some_state : IsShowingSome i
  some_state = record { shown = f.now.text; now = f.now.taking; is = subst (λ v. IsShowing v f.now.text i f.now.taking) (sym f.is.same) f.is }

module _ (w : Wanted) (i : ShowingState) (lines : LinesState) (end : ImageEnd) (left left_now left_after written written_now written_after : Option (List ℕ)) (reads reads_now reads_after writes writes_now writes_after : ℕ) where
  pub so_far_ends : (f : SoFar w i lines.given lines.held left left_now written written_now) → reads_now ≡ reads → writes_now ≡ writes
      → ReadsOn lines.held left_now left_after (λ rest. EndsBy w f.now.taking lines.given rest f.now.text end left_after reads_now reads_after written written_after writes_now writes_after)
      → ImageEnds w end left left_after reads reads_after written written_after writes writes_after
  so_far_ends f same_reads same_writes read =
      let s = f.stood in
      let so = told_lines w untold f.now 0 f.stood.lines f.stood.text f.stood.ran in
      let bytes : List ℕ = lines.held ++ read.more in
      record {
        now = f.now.taking;
        lines = s.lines;
        rest = bytes;
        text = s.text;
        given =
            subst (Gives left left_after) (append_assoc (lines_text s.lines) lines.held read.more)
            (Gives-append left left_now left_after (lines_text s.lines ++ lines.held) read.more s.came read.given);
        are = s.are;
        counted = s.counted;
        few = read.few;
        ran = so.0;
        holds =
            let a = subst (λ (t : List ℕ). EndsBy w f.now.taking lines.given bytes t end left_after reads_now reads_after written written_after writes_now writes_after) so.1 read.holds in
            let b = subst (λ n. EndsBy w f.now.taking n bytes s.text end left_after reads_now reads_after written written_after writes_now writes_after) s.count a in
            let c = subst (λ r. EndsBy w f.now.taking (length s.lines) bytes s.text end left_after r reads_after written written_after writes_now writes_after) same_reads b in
            subst (λ r. EndsBy w f.now.taking (length s.lines) bytes s.text end left_after reads reads_after written written_after r writes_after) same_writes c;
      }

-- fewer lines may come
pub fewer_left : (old new : ℕ) → new ≡ old + 1 → new ≤ 4294967295 → 2 ^ 32 - new < 2 ^ 32 - old
fewer_left old new next few = omega (arith, next, few)

-- ---- no memory for the first line

none_ends : (w : Wanted) → IsInRange w → (written : Option (List ℕ)) (left : Option (List ℕ)) (reads writes : ℕ) → EndsBy w beginning 0 [] [] ends.NoMemory left reads reads written written writes writes
none_ends (One k) some written left reads writes = record { fewer = some; ends = refl }
none_ends All some written left reads writes = Appends-same written

-- Nothing was read or written.
pub image_none : (w : Wanted) → IsInRange w → (left written : Option (List ℕ)) (reads writes : ℕ) → ImageEnds w ends.NoMemory left left reads reads written written writes writes
image_none w some left written reads writes = record {
  now = beginning;
  lines = [];
  rest = [];
  text = [];
  given = Gives-same left;
  are = tt;
  counted = omega arith;
  few = omega arith;
  ran = (refl, refl);
  holds = none_ends w some written left reads writes;
}

-- and the same from a state that no line was run in
pub image_begun : (w : Wanted) (i : ShowingState) → IsShowing w [] i beginning → (left written : Option (List ℕ)) (reads writes : ℕ) → ImageEnds w ends.NoMemory left left reads reads written written writes writes
image_begun (One k) i at left written reads writes = image_none (One k) (omega (arith, at.counts.1)) left written reads writes
image_begun All i at left written reads writes = image_none All tt left written reads writes
