-- What a line came to, by what was run and what was drawn.
use Rattle.std.proofs.Common.{◌≡◌, ◌≢◌, ◌⊎◌, inr, ℕ, ◌+◌, ◌≤◌, ◌==◌, List, [], ◌∷◌, ◌++◌, Bool, true, false, Option, Some, None, Result, Ok, Err, refl, sym, ap, subst, ◌∙◌, append_assoc, arith}
use Rattle.std.specs.Prelude.{◌||◌, take, if◌then◌else◌}
use Rattle.std.specs.List.{AllByRecursion}
use Rattle.std.proofs.lemmas.Bool.{eqb-true, eq-eqb}
use Rattle.std.proofs.lemmas.List.{append-nil}
use Rattle.gev_links.specs.Told.{Appends}
use Rattle.gev_types.specs.declared.block_record.Record.{Record}
use Rattle.gev_types.specs.declared.image_info.ImageInfo.{ImageInfo}
use Rattle.gev_types.specs.Filling.{Filling}
use Rattle.board_machine.specs.Machine.{Item, item}
use Rattle.board_model.specs.Plain.{content_at, filling_of}
use Rattle.frame_pictures.specs.declared.no_picture.NoPicture.{NoPicture}
use Rattle.frame_pictures.specs.declared.no_picture.NoPicture.TheVariants.{Taken, NoneOf, NoLeader, PixelFormat, NoPixels, PartBytes}
use Rattle.frame_pictures.specs.declared.samples.Samples.{Samples}
use Rattle.frame_pictures.specs.declared.samples.Samples.TheVariants.{Grey8, Grey16, Rgb, Bgr, Rgba, Bgra, Yuyv, Uyvy, Packed10, Packed12, Lsb10, Lsb12}
use Rattle.frame_pictures.specs.Formats.{samples_of, fills_bytes}
use Rattle.frame_pictures.specs.Pictures.{drawing, drawn_as, drawn, picture, picture_of}
use Rattle.gev_script.specs.declared.kind.ScriptKind.{ScriptKind}
use Rattle.gev_script.specs.Grammar.{line_of}
use Rattle.gev_script.specs.Streams.{IsLine}
use Rattle.picture_report.specs.Writing.{Draws, DrawsFront}
use Rattle.script_runs.specs.declared.ran.Ran.TheVariants.{GoesOn}
use Rattle.script_runs.specs.declared.stop.Stop.{Stop}
use Rattle.script_runs.specs.declared.stop.Stop.TheVariants as stops
use Rattle.script_runs.specs.Runs.{IfRefused}
use Rattle.script_runs.specs.Outcomes.{RefusesUnread, RefusesLine}
use Rattle.script_trace.specs.Trace.{Trace, board}
use Rattle.script_trace.specs.Fills.{IsHandedSo}
use Rattle.acquisition_machine.specs.declared.config.AcqConfig.{AcqConfig}
use Rattle.script_trace.specs.Wide.{Wide}
use Rattle.script_trace.specs.Standing.{Standing, running, ReplayRefuses}
use Rattle.script_replay.specs.declared.script.Script.{Script}
use Rattle.script_replay.specs.Replays.{StandsFor, RefusesAs}
use Rattle.script_image.specs.declared.image_end.ImageEnd.{ImageEnd}
use Rattle.script_image.specs.declared.image_end.ImageEnd.TheVariants as ends
use Rattle.script_image.specs.declared.wanted.Wanted.{Wanted}
use Rattle.script_image.specs.declared.wanted.Wanted.TheVariants.{One, All}
use Rattle.script_image.specs.Drawing.{DrawsTo}
use Rattle.script_image.specs.Taking.{Taking, TakingRuns, TakingRefuses, shown_text, first_shown, shown_by, shown_if, got_by}
use Rattle.script_image.specs.declared.came.Came.{Came}
use Rattle.script_image.specs.declared.came.Came.TheVariants.{On, Took, End}
use Rattle.script_image.specs.Steps.{StepsOn, StepsTaking, StepsLast, StepsAs}
use Rattle.script_image.specs.Ends.{TakesWanted, EndsBefore, OneEndsBy, AllEndBy, EndsBy}
use Rattle.script_image.specs.Showing.{ShowingState, has_text, Counts, IsShowing, IsShowingSome, WaitsSo, LiesAt, DrawsIn, is_done, stop_by, ShowsThere, ShowsTaken, last_end, stopped, ShowsOn, ComesTo}

-- ---- what is written

pub Appends-same : (w : Option (List ℕ)) → Appends w w []
Appends-same None = refl
Appends-same (Some w) = ap (λ (l : List ℕ). Some l) (sym (append-nil w))

Appends-append : (w x y : Option (List ℕ)) (xs ys : List ℕ) → Appends w x xs → Appends x y ys → Appends w y (xs ++ ys)
Appends-append None x y xs ys g h = subst (λ (v : Option (List ℕ)). Appends v y ys) g h
Appends-append (Some w) x y xs ys g h =
    let last : Appends (Some (w ++ xs)) y ys = subst (λ (v : Option (List ℕ)). Appends v y ys) g h in
    last ∙ ap (λ (t : List ℕ). Some t) (append_assoc w xs ys)

-- where nothing is to be written nothing was
pub Appends-nothing : (w x : Option (List ℕ)) (text : List ℕ) → text ≡ [] → Appends w x text → x ≡ w
Appends-nothing None x text none h = h
Appends-nothing (Some w) x text none h = h ∙ ap (λ (t : List ℕ). Some (w ++ t)) none ∙ ap (λ (t : List ℕ). Some t) (append-nil w)

no_text : (text : List ℕ) → has_text text ≡ false → text ≡ []
no_text [] e = refl
no_text (x ∷ xs) e = cc

some_text : (text : List ℕ) → has_text text ≡ true → text ≢ []
some_text text e none = let both : has_text text ≡ false = ap has_text none in cc

more_text : (front back : List ℕ) → has_text (front ++ back) ≡ (has_text front || has_text back)
more_text [] back = refl
more_text (x ∷ front) back = refl

-- ---- pictures

-- a picture has a text
drawing_some : (s : Samples) (rec : Record) (info : ImageInfo) (image : List ℕ) → has_text (drawing s rec info image) ≡ true
drawing_some Grey8 rec info image = refl
drawing_some (Grey16 greatest) rec info image = refl
drawing_some Rgb rec info image = refl
drawing_some Bgr rec info image = refl
drawing_some Rgba rec info image = refl
drawing_some Bgra rec info image = refl
drawing_some Yuyv rec info image = refl
drawing_some Uyvy rec info image = refl
drawing_some Packed10 rec info image = refl
drawing_some Packed12 rec info image = refl
drawing_some Lsb10 rec info image = refl
drawing_some Lsb12 rec info image = refl

drawn_some : (s : Option Samples) (rec : Record) (info : ImageInfo) (image text : List ℕ) → drawn_as s rec info image ≡ Ok text → has_text text ≡ true
drawn_some None rec info image text e = cc
drawn_some (Some s) rec info image text e = go (info.size_x == 0 || info.rows == 0) (fills_bytes s info.size_x) e
  where
    go : (b c : Bool) → (if b then Err NoPixels else if c then Ok (drawing s rec info image) else Err PartBytes) ≡ Ok text → has_text text ≡ true
    go true c h = cc
    go false false h = cc
    go false true h = let same : drawing s rec info image ≡ text = cc in ap has_text (sym same) ∙ drawing_some s rec info image

picture_some : (rec : Record) (bytes text : List ℕ) → picture rec bytes ≡ Ok text → has_text text ≡ true
picture_some rec bytes text e = go rec.image e
  where
    go : (told : Option ImageInfo) → drawn told rec (take rec.data_len bytes) ≡ Ok text → has_text text ≡ true
    go None h = cc
    go (Some info) h = drawn_some (samples_of info.pixel) rec info (take rec.data_len bytes) text h

-- a picture isn't lacking for a count of buffers
drawn_never : (s : Option Samples) (rec : Record) (info : ImageInfo) (image : List ℕ) (count : ℕ) → drawn_as s rec info image ≡ Err (Taken count) → ⊥
drawn_never None rec info image count e = cc
drawn_never (Some s) rec info image count e = go (info.size_x == 0 || info.rows == 0) (fills_bytes s info.size_x) e
  where
    go : (b c : Bool) → (if b then Err NoPixels else if c then Ok (drawing s rec info image) else Err PartBytes) ≡ Err (Taken count) → ⊥
    go true c h = cc
    go false true h = cc
    go false false h = cc

never_taken : (rec : Record) (bytes : List ℕ) (count : ℕ) → picture rec bytes ≡ Err (Taken count) → ⊥
never_taken rec bytes count e = go rec.image e
  where
    go : (told : Option ImageInfo) → drawn told rec (take rec.data_len bytes) ≡ Err (Taken count) → ⊥
    go None h = cc
    go (Some info) h = drawn_never (samples_of info.pixel) rec info (take rec.data_len bytes) count h

drawn_not_of : (s : Option Samples) (rec : Record) (info : ImageInfo) (image : List ℕ) (count : ℕ) → drawn_as s rec info image ≡ Err (NoneOf count) → ⊥
drawn_not_of None rec info image count e = cc
drawn_not_of (Some s) rec info image count e = go (info.size_x == 0 || info.rows == 0) (fills_bytes s info.size_x) e
  where
    go : (b c : Bool) → (if b then Err NoPixels else if c then Ok (drawing s rec info image) else Err PartBytes) ≡ Err (NoneOf count) → ⊥
    go true c h = cc
    go false true h = cc
    go false false h = cc

never_of : (rec : Record) (bytes : List ℕ) (count : ℕ) → picture rec bytes ≡ Err (NoneOf count) → ⊥
never_of rec bytes count e = go rec.image e
  where
    go : (told : Option ImageInfo) → drawn told rec (take rec.data_len bytes) ≡ Err (NoneOf count) → ⊥
    go None h = cc
    go (Some info) h = drawn_not_of (samples_of info.pixel) rec info (take rec.data_len bytes) count h

-- ---- what a line shows

-- one that gets nothing
none_shown : (w : Wanted) (s : Standing) (got : ℕ) → got ≡ 0 → [] ≡ shown_if w (shown_by got s)
none_shown (One k) s got none = refl
none_shown All s got none = sym (ap (λ g. shown_by g s) none)

-- one that gets the output's first
one_shown : (s : Standing) (c : AcqConfig) (w : Wide) (t : Trace) (x : Item) (rest : List Item) (got : ℕ) → got ≡ 1 → s ≡ running c w t → (board t).out ≡ x ∷ rest
    → shown_text (picture_of x.filling) ≡ shown_by got s
one_shown s c w t x rest got one is out = sym (ap (λ g. shown_by g s) one ∙ ap (shown_by 1) is ∙ ap first_shown out)

-- ---- a line that gets nothing, and the script goes on

pub on_comes : (w : Wanted) (i : ShowingState) (script : Option Script) (line : List ℕ) (n : ℕ) (shown : List ℕ) (s : Taking) (written : Option (List ℕ))
    → IsShowing w shown i s → StepsOn 0 s.standing (n + 1) line script
    → ShowsOn w shown s n line (record { script = script; wanted = i.wanted; taken = i.taken; shown = i.shown }) written written
on_comes w i script line n shown s written at steps = record {
  picture = [];
  to = record { standing = steps.to; taken = s.taken };
  run = record {
    report = steps.said;
    runs = steps.runs;
    counted = let got = steps.counted in omega (arith, got);
    is = none_shown w s.standing (got_by (line_of line) s.standing steps.to) steps.counted;
  };
  is = record {
    same = at.same;
    script = steps.stands;
    counts = subst (λ (t : List ℕ). Counts w t i.taken i.shown s.taken) (sym (append-nil shown)) at.counts;
  };
  appended = Appends-same written;
}

-- ---- the last line

last_before : (s : Taking) (n : ℕ) (line rest held : List ℕ) (count : ℕ) → n + 1 ≤ 4294967295 → IsLine rest line held → StepsLast s.standing (n + 1) line → count ≡ s.taken → EndsBefore count s n rest
last_before s n line rest held count few is_line last same = record {
  last = record { line = line; held = held; final = last.to; report = last.said; is_line = is_line; counted = few; run = last.runs; holds = tt };
  taken = same;
}

module _ (i : ShowingState) (line : List ℕ) (n : ℕ) (shown : List ℕ) (s : Taking) (begun written : Option (List ℕ)) (writes : ℕ) (few : n + 1 ≤ 4294967295) (appended : Appends begun written shown)
    (last : StepsLast s.standing (n + 1) line) where
  pub last_comes : (w : Wanted) (taken : ℕ) (marked : Bool) → Counts w shown taken marked s.taken → (rest held : List ℕ) (left : Option (List ℕ)) (reads reads_after : ℕ) → IsLine rest line held
      → EndsBy w s n rest shown (last_end w taken marked) left reads reads_after begun written writes writes
  last_comes (One k) taken marked counts rest held left reads reads_after is_line =
      record { fewer = counts.1; ends = (last_before s n line rest held taken few is_line last counts.0, Appends-nothing begun written shown counts.2 appended) }
  last_comes All taken true counts rest held left reads reads_after is_line =
      (last_before s n line rest held s.taken few is_line last refl, some_text shown (sym counts.1), appended)
  last_comes All taken false counts rest held left reads reads_after is_line = go (taken == 0) refl
    where
      go : (b : Bool) → (taken == 0) ≡ b → EndsBy All s n rest shown (if b then ends.NoPicture (Taken 0) else ends.NoPicture (NoneOf taken)) left reads reads_after begun written writes writes
      go true e =
          let zero_taken : taken ≡ 0 = eqb-true taken 0 e in
          (last_before s n line rest held s.taken few is_line last refl, (refl, omega (arith, zero_taken, counts.0)), no_text shown (sym counts.1), Appends-nothing begun written shown (no_text shown (sym counts.1)) appended)
      go false e =
          let some_taken : taken ≢ 0 = λ none. let yes_it : (taken == 0) ≡ true = eq-eqb taken 0 none in cc in
          (last_before s n line rest held s.taken few is_line last refl, (counts.0, omega (arith, some_taken, counts.0)), no_text shown (sym counts.1), Appends-nothing begun written shown (no_text shown (sym counts.1)) appended)

-- ---- a line that is refused, and no memory

pub bad_comes : (w : Wanted) (kind : ScriptKind) (number n : ℕ) (shown rest : List ℕ) (s : Taking) (taken : ℕ) (marked : Bool) (left : Option (List ℕ)) (reads reads_after : ℕ) (begun written : Option (List ℕ)) (writes : ℕ)
    → Counts w shown taken marked s.taken → number ≡ n + 1 → RefusesUnread kind rest left ⊎ RefusesLine TakingRefuses s n rest kind → Appends begun written shown
    → EndsBy w s n rest shown (ends.BadLine number kind) left reads reads_after begun written writes writes
bad_comes (One k) kind number n shown rest s taken marked left reads reads_after begun written writes counts is why appended =
    record { fewer = counts.1; ends = (is, why, Appends-nothing begun written shown counts.2 appended) }
bad_comes All kind number n shown rest s taken marked left reads reads_after begun written writes counts is why appended = (is, why, appended)

pub no_memory_comes : (w : Wanted) (n : ℕ) (shown rest : List ℕ) (s : Taking) (taken : ℕ) (marked : Bool) (left : Option (List ℕ)) (reads reads_after : ℕ) (begun written : Option (List ℕ)) (writes : ℕ)
    → Counts w shown taken marked s.taken → Appends begun written shown → EndsBy w s n rest shown ends.NoMemory left reads reads_after begun written writes writes
no_memory_comes (One k) n shown rest s taken marked left reads reads_after begun written writes counts appended =
    record { fewer = counts.1; ends = Appends-nothing begun written shown counts.2 appended }
no_memory_comes All n shown rest s taken marked left reads reads_after begun written writes counts appended = appended

pub refused_line : (n : ℕ) (line rest held : List ℕ) (s : Taking) (kind : ScriptKind) → n + 1 ≤ 4294967295 → IsLine rest line held → ReplayRefuses s.standing (n + 1) line kind → RefusesLine TakingRefuses s n rest kind
refused_line n line rest held s kind few is_line refuses = record { line = line; held = held; is_line = is_line; refused = inr (few, refuses) }

-- ---- a `take` line that gets a buffer

-- what it took lies there still
pub lies_there : (i : ShowingState) (came : Came) (place number : ℕ) (line : List ℕ) (script : Option Script) → IsShowingSome i → came ≡ Took place → StepsAs came i.script line script → LiesAt place script
lies_there i came place number line script some is steps =
    let here : StepsAs (Took place) i.script line script = subst (λ (x : Came). StepsAs x i.script line script) is steps in
    let taking = (here number some.now.standing some.is.script).1 in
    (taking.script, taking.has, λ e. let both : Some taking.takes.filling ≡ None = sym taking.lies ∙ e in absurd cc)

some_one : (x y : Script) → Some x ≡ Some y → x ≡ y
some_one x y e = cc

some_end : (x y : ImageEnd) → Some x ≡ Some y → x ≡ y
some_end x y e = cc

module _ (line : List ℕ) (n : ℕ) (shown : List ℕ) (s : Taking) (script : Option Script) (place : ℕ) (few : n + 1 ≤ 4294967295)
    (steps : StepsOn 1 s.standing (n + 1) line script) (taking : StepsTaking s.standing line place script) where
  -- what was drawn is what was taken
  drawn_is : (end : ImageEnd) (written written_after : Option (List ℕ)) (writes writes_after : ℕ) → DrawsIn end script place written written_after writes writes_after
      → DrawsTo end (picture_of taking.takes.filling) written written_after writes writes_after
  drawn_is end written written_after writes writes_after draws =
      let one : draws.script ≡ taking.script = some_one draws.script taking.script (sym draws.has ∙ taking.has) in
      let lies : content_at taking.script.running.board place ≡ Some draws.there.filling = subst (λ (x : Script). content_at x.running.board place ≡ Some draws.there.filling) one draws.there.lies in
      let same : draws.there.filling ≡ taking.takes.filling = ap filling_of (sym lies ∙ taking.lies) in
      subst (λ (f : Filling). DrawsTo end (picture_of f) written written_after writes writes_after) same draws.there.drawn

  shown_there : shown_text (picture_of taking.takes.filling) ≡ shown_by (got_by (line_of line) s.standing steps.to) s.standing
  shown_there = one_shown s.standing taking.config taking.wide taking.trace (item taking.takes.place taking.takes.filling) taking.takes.rest (got_by (line_of line) s.standing steps.to) steps.counted taking.stands taking.takes.first

  waits_here : WaitsSo s.standing → WaitsSo (running taking.config taking.wide taking.trace)
  waits_here waits = subst WaitsSo taking.stands waits

  -- ---- one is wanted

  module _ (k : ℕ) (rest held : List ℕ) (is_line : IsLine rest line held) (wanted : s.taken + 1 ≡ k) (waits : WaitsSo s.standing) where
    wanted_so : (P : Result (List ℕ) NoPicture → Type 0) → P (picture_of taking.takes.filling) → TakesWanted k s n rest P
    wanted_so P holds = record {
      text = line;
      held = held;
      is_line = is_line;
      counted = few;
      in_place = taking.in_place;
      read = taking.read;
      config = taking.config;
      wide = taking.wide;
      trace = taking.trace;
      stands = taking.stands;
      moment = taking.moment;
      part = taking.part;
      adds = taking.adds;
      takes = taking.takes;
      last = wanted;
      is_so = first_so taking.takes.first (waits_here waits);
      shown = holds;
    }
      where
        first_so : (board taking.trace).out ≡ item taking.takes.place taking.takes.filling ∷ taking.takes.rest → WaitsSo (running taking.config taking.wide taking.trace)
            → IsHandedSo taking.config taking.trace.inputs (item taking.takes.place taking.takes.filling)
        first_so first all = let each = subst (λ (xs : List Item). AllByRecursion (IsHandedSo taking.config taking.trace.inputs) xs) first all in each.0

    drawn_so : (end : ImageEnd) (left : Option (List ℕ)) (reads reads_after : ℕ) (written written_after : Option (List ℕ)) (writes writes_after : ℕ)
        → DrawsTo end (picture_of taking.takes.filling) written written_after writes writes_after
        → OneEndsBy k s n rest end left reads reads_after written written_after writes writes_after
    drawn_so ends.Done left reads reads_after written written_after writes writes_after drawn = wanted_so (λ p. Draws p written written_after) drawn.0
    drawn_so (ends.NoPicture (Taken count)) left reads reads_after written written_after writes writes_after drawn =
        absurd (never_taken taking.takes.filling.rec taking.takes.filling.bytes count drawn.0)
    drawn_so (ends.NoPicture (NoneOf count)) left reads reads_after written written_after writes writes_after drawn =
        absurd (never_of taking.takes.filling.rec taking.takes.filling.bytes count drawn.0)
    drawn_so (ends.NoPicture NoLeader) left reads reads_after written written_after writes writes_after drawn = (wanted_so (λ p. p ≡ Err NoLeader) drawn.0, drawn.1)
    drawn_so (ends.NoPicture (PixelFormat pixel)) left reads reads_after written written_after writes writes_after drawn = (wanted_so (λ p. p ≡ Err (PixelFormat pixel)) drawn.0, drawn.1)
    drawn_so (ends.NoPicture NoPixels) left reads reads_after written written_after writes writes_after drawn = (wanted_so (λ p. p ≡ Err NoPixels) drawn.0, drawn.1)
    drawn_so (ends.NoPicture PartBytes) left reads reads_after written written_after writes writes_after drawn = (wanted_so (λ p. p ≡ Err PartBytes) drawn.0, drawn.1)
    drawn_so (ends.BadLine number kind) left reads reads_after written written_after writes writes_after drawn = absurd drawn
    drawn_so ends.ReadFault left reads reads_after written written_after writes writes_after drawn = absurd drawn
    drawn_so ends.WriteFault left reads reads_after written written_after writes writes_after drawn = (drawn.1, wanted_so (λ p. DrawsFront p written written_after) drawn.0)
    drawn_so ends.NoMemory left reads reads_after written written_after writes writes_after drawn = drawn.0

  -- ---- all are wanted

  each_run : TakingRuns All s (n + 1) line GoesOn (shown_text (picture_of taking.takes.filling)) (record { standing = steps.to; taken = s.taken + 1 })
  each_run = record {
    report = steps.said;
    runs = steps.runs;
    counted = ap (λ g. s.taken + g) (sym steps.counted);
    is = shown_there;
  }

  -- a picture that was written, or that there isn't
  each_drawn : (end : ImageEnd) (written written_after : Option (List ℕ)) (writes writes_after : ℕ) → None ≡ stop_by end
      → DrawsTo end (picture_of taking.takes.filling) written written_after writes writes_after
      → Appends written written_after (shown_text (picture_of taking.takes.filling)) × (is_done end ≡ has_text (shown_text (picture_of taking.takes.filling)))
  each_drawn ends.Done written written_after writes writes_after none drawn =
      let d = drawn.0 in
      let text_is : shown_text (picture_of taking.takes.filling) ≡ d.text = ap shown_text d.is in
      let some : has_text d.text ≡ true = picture_some taking.takes.filling.rec taking.takes.filling.bytes d.text d.is in
      (subst (λ (t : List ℕ). Appends written written_after t) (sym text_is) d.appended, sym (ap has_text text_is ∙ some))
  each_drawn (ends.NoPicture why) written written_after writes writes_after none drawn =
      let text_is : shown_text (picture_of taking.takes.filling) ≡ [] = ap shown_text drawn.0 in (
        subst (λ (t : List ℕ). Appends written written_after t) (sym text_is) (subst (λ (v : Option (List ℕ)). Appends written v []) (sym drawn.1) (Appends-same written)),
        sym (ap has_text text_is),
      )
  each_drawn (ends.BadLine number kind) written written_after writes writes_after none drawn = absurd drawn
  each_drawn ends.ReadFault written written_after writes writes_after none drawn = absurd drawn
  each_drawn ends.WriteFault written written_after writes writes_after none drawn = cc
  each_drawn ends.NoMemory written written_after writes writes_after none drawn = cc

  -- writing it failed
  each_failed : (end e : ImageEnd) (rest held : List ℕ) → IsLine rest line held → (left : Option (List ℕ)) (reads reads_after : ℕ) (begun written written_after : Option (List ℕ)) (writes writes_after : ℕ)
      → Appends begun written shown → Some end ≡ stop_by e → DrawsTo e (picture_of taking.takes.filling) written written_after writes writes_after
      → AllEndBy s n rest shown end left reads reads_after begun written_after writes writes_after
  each_failed end ends.Done rest held is_line left reads reads_after begun written written_after writes writes_after appended is drawn = cc
  each_failed end (ends.NoPicture why) rest held is_line left reads reads_after begun written written_after writes writes_after appended is drawn = cc
  each_failed end (ends.BadLine number kind) rest held is_line left reads reads_after begun written written_after writes writes_after appended is drawn = absurd drawn
  each_failed end ends.ReadFault rest held is_line left reads reads_after begun written written_after writes writes_after appended is drawn = absurd drawn
  each_failed end ends.WriteFault rest held is_line left reads reads_after begun written written_after writes writes_after appended is drawn =
      let d = drawn.0 in
      let f = d.front in
      subst (λ x. AllEndBy s n rest shown x left reads reads_after begun written_after writes writes_after) (sym (some_end end ends.WriteFault is)) (
        drawn.1,
        record {
          line = line;
          held = held;
          final = record { standing = steps.to; taken = s.taken + 1 };
          report = shown_text (picture_of taking.takes.filling);
          is_line = is_line;
          counted = few;
          run = each_run;
          holds = record {
            front = f.front;
            rest = f.rest;
            parts = ap shown_text d.is ∙ f.parts;
            appended = Appends-append begun written written_after shown f.front appended f.appended;
          };
        },
      )
  each_failed end ends.NoMemory rest held is_line left reads reads_after begun written written_after writes writes_after appended is drawn =
      subst (λ x. AllEndBy s n rest shown x left reads reads_after begun written_after writes writes_after) (sym (some_end end ends.NoMemory is))
      (subst (λ (v : Option (List ℕ)). Appends begun v shown) (sym drawn.0) appended)

  -- ---- both

  pub took_comes : (w : Wanted) (stop : Option ImageEnd) (i mid new : ShowingState) (begun written written_after : Option (List ℕ)) (writes writes_after : ℕ)
      → IsShowing w shown i s → mid.taken ≡ i.taken → mid.shown ≡ i.shown → mid.script ≡ script → new.script ≡ mid.script → new.wanted ≡ w → WaitsSo s.standing → Appends begun written shown
      → ShowsThere w stop mid new place written written_after writes writes_after
      → ComesTo w stop shown s n line new begun written written_after writes writes_after
  took_comes (One k) None i mid new begun written written_after writes writes_after at taken marked has same is waits appended there = record {
    picture = [];
    to = record { standing = steps.to; taken = s.taken + 1 };
    run = record { report = steps.said; runs = steps.runs; counted = ap (λ g. s.taken + g) (sym steps.counted); is = refl };
    is = record {
      same = is;
      script = subst (λ (o : Option Script). StandsFor o steps.to) (sym (same ∙ has)) steps.stands;
      counts =
          let less = at.counts.1 in
          let counted = at.counts.0 in
          let other = there.0 in
          let now = there.1 in
          (omega (arith, counted, taken, now), omega (arith, less, counted, taken, other), append-nil shown ∙ at.counts.2);
    };
    appended = subst (λ (v : Option (List ℕ)). Appends written v []) (sym there.2) (Appends-same written);
  }
  took_comes (One k) (Some end) i mid new begun written written_after writes writes_after at taken marked has same is waits appended there =
      λ rest held left reads reads_after is_line.
      let counted = at.counts.0 in
      let last = there.0 in
      let wanted : s.taken + 1 ≡ k = omega (arith, counted, taken, last) in
      let unwritten : written ≡ begun = Appends-nothing begun written shown at.counts.2 appended in
      let draws = subst (λ (o : Option Script). DrawsIn end o place written written_after writes writes_after) has there.1 in
      record {
        fewer = at.counts.1;
        ends =
            subst (λ (v : Option (List ℕ)). OneEndsBy k s n rest end left reads reads_after v written_after writes writes_after) unwritten
            (drawn_so k rest held is_line wanted waits end left reads reads_after written written_after writes writes_after
            (drawn_is end written written_after writes writes_after draws));
      }
  took_comes All None i mid new begun written written_after writes writes_after at taken marked has same is waits appended (counted, (end, none, now, draws)) =
      let here = subst (λ (o : Option Script). DrawsIn end o place written written_after writes writes_after) has draws in
      let each = each_drawn end written written_after writes writes_after none (drawn_is end written written_after writes writes_after here) in
      record {
        picture = shown_text (picture_of taking.takes.filling);
        to = record { standing = steps.to; taken = s.taken + 1 };
        run = each_run;
        is = record {
          same = is;
          script = subst (λ (o : Option Script). StandsFor o steps.to) (sym (same ∙ has)) steps.stands;
          counts =
              let before = at.counts.0 in (
                omega (arith, before, taken, counted),
                now ∙ ap (λ b. b || is_done end) (marked ∙ at.counts.1) ∙ ap (λ b. has_text shown || b) each.1 ∙ sym (more_text shown (shown_text (picture_of taking.takes.filling))),
              );
        };
        appended = each.0;
      }
  took_comes All (Some stop) i mid new begun written written_after writes writes_after at taken marked has same is waits appended (counted, (end, some, now, draws)) =
      λ rest held left reads reads_after is_line.
      let here = subst (λ (o : Option Script). DrawsIn end o place written written_after writes writes_after) has draws in
      each_failed stop end rest held is_line left reads reads_after begun written written_after writes writes_after appended some (drawn_is end written written_after writes writes_after here)

-- ---- the line, by what it came to

module _ (w : Wanted) (i : ShowingState) (came : Came) (number : ℕ) (line : List ℕ) (script : Option Script) (steps : StepsAs came i.script line script) (shown : List ℕ) (s : Taking) (n : ℕ) (begun written : Option (List ℕ)) (writes : ℕ)
    (at : IsShowing w shown i s) (counted : number ≡ n + 1) (few : number ≤ 4294967295) (appended : Appends begun written shown) where
  steps_at : (x : Came) → came ≡ x → StepsAs x i.script line script
  steps_at x is = subst (λ (y : Came). StepsAs y i.script line script) is steps

  pub came_on : came ≡ On → ShowsOn w shown s n line (record { script = script; wanted = i.wanted; taken = i.taken; shown = i.shown }) written written
  came_on is = on_comes w i script line n shown s written at (steps_at On is (n + 1) s.standing at.script)

  pub came_end : came ≡ End → (rest held : List ℕ) (left : Option (List ℕ)) (reads reads_after : ℕ) → IsLine rest line held
      → EndsBy w s n rest shown (last_end i.wanted i.taken i.shown) left reads reads_after begun written writes writes
  came_end is rest held left reads reads_after is_line =
      subst (λ v. EndsBy w s n rest shown (last_end v i.taken i.shown) left reads reads_after begun written writes writes) (sym at.same)
      (last_comes i line n shown s begun written writes (omega (arith, counted, few)) appended (steps_at End is (n + 1) s.standing at.script) w i.taken i.shown at.counts rest held left reads reads_after is_line)

  pub came_took : (place : ℕ) (stop : Option ImageEnd) (mid new : ShowingState) (written_after : Option (List ℕ)) (writes_after : ℕ) → came ≡ Took place → WaitsSo s.standing
      → mid ≡ record { script = script; wanted = i.wanted; taken = i.taken; shown = i.shown }
      → ShowsTaken stop mid new place written written_after writes writes_after
      → ComesTo w stop shown s n line new begun written written_after writes writes_after
  came_took place stop mid new written_after writes_after is waits made takes =
      let both = steps_at (Took place) is (n + 1) s.standing at.script in
      let wants : mid.wanted ≡ w = ap (λ (x : ShowingState). x.wanted) made ∙ at.same in
      took_comes line n shown s script place (omega (arith, counted, few)) both.0 both.1 w stop i mid new begun written written_after writes writes_after at
      (ap (λ (x : ShowingState). x.taken) made) (ap (λ (x : ShowingState). x.shown) made) (ap (λ (x : ShowingState). x.script) made) takes.script
      (takes.wanted ∙ wants) waits appended
      (subst (λ v. ShowsThere v stop mid new place written written_after writes writes_after) wants takes.did)

-- it was refused
came_bad : (w : Wanted) (i : ShowingState) (number : ℕ) (line : List ℕ) (kind : ScriptKind) (shown : List ℕ) (s : Taking) (n : ℕ) (begun written : Option (List ℕ)) (writes : ℕ) → RefusesAs i.script number line kind → IsShowing w shown i s
    → number ≡ n + 1 → number ≤ 4294967295 → Appends begun written shown → (rest held : List ℕ) (left : Option (List ℕ)) (reads reads_after : ℕ) → IsLine rest line held
    → EndsBy w s n rest shown (ends.BadLine number kind) left reads reads_after begun written writes writes
came_bad w i number line kind shown s n begun written writes refuses at counted few appended rest held left reads reads_after is_line =
    bad_comes w kind number n shown rest s i.taken i.shown left reads reads_after begun written writes at.counts counted
    (inr (refused_line n line rest held s kind (omega (arith, counted, few)) is_line (subst (λ m. ReplayRefuses s.standing m line kind) counted (refuses s.standing at.script)))) appended

-- memory ran out
came_none : (w : Wanted) (i : ShowingState) (shown rest : List ℕ) (s : Taking) (n : ℕ) (begun written : Option (List ℕ)) (writes : ℕ) → IsShowing w shown i s → Appends begun written shown
    → (left : Option (List ℕ)) (reads reads_after : ℕ) → EndsBy w s n rest shown ends.NoMemory left reads reads_after begun written writes writes
came_none w i shown rest s n begun written writes at appended left reads reads_after = no_memory_comes w n shown rest s i.taken i.shown left reads reads_after begun written writes at.counts appended

-- either of both
pub came_stop : (w : Wanted) (i : ShowingState) (number : ℕ) (line : List ℕ) (stop : Stop) (shown : List ℕ) (s : Taking) (n : ℕ) (begun written : Option (List ℕ)) (writes : ℕ) → IfRefused stop (RefusesAs i.script number line) → IsShowing w shown i s
    → number ≡ n + 1 → number ≤ 4294967295 → Appends begun written shown → (rest held : List ℕ) (left : Option (List ℕ)) (reads reads_after : ℕ) → IsLine rest line held
    → EndsBy w s n rest shown (stopped number stop) left reads reads_after begun written writes writes
came_stop w i number line (stops.Refused kind) shown s n begun written writes refuses at counted few appended rest held left reads reads_after is_line =
    came_bad w i number line kind shown s n begun written writes refuses at counted few appended rest held left reads reads_after is_line
came_stop w i number line stops.NoMemory shown s n begun written writes refuses at counted few appended rest held left reads reads_after is_line =
    came_none w i shown rest s n begun written writes at appended left reads reads_after
