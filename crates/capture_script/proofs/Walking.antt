-- The lines of a script of version 2, one after the other, where the lines that the trace is told are known.
use Rattle.std.proofs.Common.{◌≡◌, inl, inr, ℕ, zero, suc, ◌+◌, ◌==◌, ◌&&◌, List, [], ◌∷◌, ◌++◌, map, replicate, Bool, true, false, not, if◌then◌else◌, refl, sym, ap, subst, ◌∙◌, append_assoc}
use Rattle.std.specs.Prelude.{⊤, Option, Some, None, Ok, Err}
use Rattle.std.specs.List.{AllByRecursion}
use Rattle.gentl_handles.specs.declared.opened.Opened.{Opened}
use Rattle.gev_script.specs.Lines as line
use Rattle.gev_script.specs.Lines.{ScriptLine}
use Rattle.gev_script.specs.Spelling.{spelling}
use Rattle.script_runs.specs.Runs.{RunsLines}
use Rattle.board_machine.specs.declared.events.Event.{Event}
use Rattle.board_machine.specs.declared.events.Event.TheVariants.{Lay}
use Rattle.board_machine.specs.Machine.{Board, empty_board}
use Rattle.board_machine.specs.Histories.{after_from}
use Rattle.board_machine.specs.Adding.{entries_of}
use Rattle.board_machine.proofs.Runs.{after-append}
use Rattle.acquisition_machine.specs.declared.config.AcqConfig.{AcqConfig}
use Rattle.acquisition_machine.specs.Machine.{Input, datagram, claimed, tick}
use Rattle.acquisition_machine.proofs.Order.{all_append}
use Rattle.script_trace.specs.Trace.{Trace, Part, grown, board, caller, acquirer}
use Rattle.script_trace.specs.Modes.{place_of}
use Rattle.script_trace.specs.BoardLines.{TakeIfOpen, open_event}
use Rattle.script_trace.specs.StreamLines.{Settles, retired_by, outcome, Hears, HearsIfRunning}
use Rattle.script_trace.specs.Adding.{Spells, AddsPart, Leads}
use Rattle.script_trace.specs.Wide.{Wide, nothing_wide, itself, meaning, said_by, DoesAs, Does, is_started, is_started_at, kept_behind}
use Rattle.script_trace.specs.Standing.{running, ReplayRuns}
use Rattle.script_trace.proofs.RunWord.{KeepsRun, KeepRun, run_kept, along, gets_keep, flushes_keep}
use Rattle.script_trace.proofs.Quiet.{quiet_keep, claims_quiet, retired_keep}
use Rattle.capture_script.specs.Script.{taking}
use Rattle.capture_script.proofs.Fitting.{AllGo}
use Rattle.capture_script.proofs.Whole.{read_is, kind_none}

-- These lines lead from one trace to another, with this report.
abbrev pub Walks : AcqConfig → Wide → Trace → List ScriptLine → List ℕ → Wide → Trace → Type 0
Walks c w t [] text v to = (text ≡ []) × (v ≡ w) × (to ≡ t)
Walks c w t (l ∷ ls) text v to =
    (report : List ℕ) × (rest : List ℕ) × (kept : Wide) × (mid : Trace) × Does c w t l report kept mid
    × Walks c (kept_behind kept t mid) mid ls rest v to × (text ≡ report ++ rest)

pub walks-append : (c : AcqConfig) (w : Wide) (t : Trace) (ls ms : List ScriptLine) (text more : List ℕ) (v : Wide) (mid : Trace) (u : Wide) (to : Trace)
    → Walks c w t ls text v mid → Walks c v mid ms more u to → Walks c w t (ls ++ ms) (text ++ more) u to
walks-append c w t [] ms text more v mid u to (e, f, g) second =
    subst (λ x. Walks c w t ms (x ++ more) u to) (sym e)
    (subst (λ x. Walks c w x ms more u to) g (subst (λ x. Walks c x mid ms more u to) f second))
walks-append c w t (l ∷ ls) ms text more v mid u to (report, rest, kept, next, does, walks, is) second =
    (report, rest ++ more, kept, next, does, walks-append c (kept_behind kept t next) next ls ms rest more v mid u to walks second, ap (λ x. x ++ more) is ∙ append_assoc report rest more)

-- `replay` runs such lines
pub walks_run : (c : AcqConfig) (w : Wide) (t : Trace) (n : ℕ) (ls : List ScriptLine) (text : List ℕ) (v : Wide) (to : Trace)
    → AllGo ls → Walks c w t ls text v to → RunsLines ReplayRuns (running c w t) n (map spelling ls) text (running c v to)
walks_run c w t n [] text v to all (e, f, g) = (e, ap (λ x. running c x to) f ∙ ap (running c w) g)
walks_run c w t n (l ∷ ls) text v to all (report, rest, kept, mid, does, walks, is) = (
  running c (kept_behind kept t mid) mid,
  report,
  rest,
  record {
    in_place = kind_none l all.0.sits all.0.in_place;
    says = l;
    read = read_is l all.0.sits;
    kept = kept;
    trace = mid;
    does = does;
    after = refl;
  },
  walks_run c (kept_behind kept t mid) mid (n + 1) ls rest v to all.1 walks,
  is,
)

-- ---- the run word

kept_by : (t : Trace) (part : Part) (k : ℕ) (es : List Event) → part.entries ≡ entries_of k es → KeepRun es → (board (grown t part)).run ≡ (board t).run
kept_by t part k es is keep =
    ap (λ (b : Board). b.run) (after-append empty_board t.entries part.entries ∙ ap (λ l. after_from (board t) l) is) ∙ run_kept (board t) k es keep

take_keeps : (t : Trace) (o : Option Opened) (part : Part) → TakeIfOpen t o part → (board (grown t part)).run ≡ (board t).run
take_keeps t None part is = kept_by t part caller [] (ap (λ (p : Part). p.entries) is) tt
take_keeps t (Some e) part (moment, inl takes) =
    kept_by t part caller (takes.gets ++ takes.returns) (ap (λ (p : Part). p.entries) takes.is)
    (all_append KeepsRun takes.gets takes.returns (gets_keep moment (Ok takes.place) takes.gets takes.got) (along takes.returns (Lay takes.place ∷ []) takes.returned (tt, tt)))
take_keeps t (Some e) part (moment, inr nothing) =
    kept_by t part caller nothing.calls.events (ap (λ (p : Part). p.entries) nothing.calls.is)
    (gets_keep moment (Err nothing.refusal) nothing.calls.events nothing.calls.kind)

settles_keep : (c : AcqConfig) (t : Trace) (i : Input) (said : List ℕ) (part : Part) → Settles c t [] i said part → (board (grown t part)).run ≡ (board t).run
settles_keep c t i said part s =
    kept_by t part acquirer s.events (ap (λ (p : Part). p.entries) s.is) (retired_keep t.mode (retired_by c t.inputs i) s.events s.filled)

hears_keep : (c : AcqConfig) (t : Trace) (bytes : List ℕ) (a : Option ℕ) (part : Part) → Hears c t bytes a part → (board (grown t part)).run ≡ (board t).run
hears_keep c t bytes None part s = settles_keep c t (datagram bytes) [] part s
hears_keep c t bytes (Some b) part h =
    kept_by t part acquirer (h.first ++ (h.claims ++ h.second)) (ap (λ (p : Part). p.entries) h.is)
    (all_append KeepsRun h.first (h.claims ++ h.second)
    (retired_keep t.mode (retired_by c t.inputs (datagram bytes)) h.first h.displaced)
    (all_append KeepsRun h.claims h.second (quiet_keep h.claims (claims_quiet t.mode h.claim h.claims h.got))
    (retired_keep t.mode (retired_by c (t.inputs ++ datagram bytes ∷ claimed (outcome (board t) (place_of h.claim)) ∷ []) (datagram bytes)) h.second h.filled)))

running_keeps : (c : AcqConfig) (t : Trace) (bytes : List ℕ) (v : Bool) (part : Part) → HearsIfRunning c t bytes v part → (board (grown t part)).run ≡ (board t).run
running_keeps c t bytes false part is = kept_by t part acquirer [] (ap (λ (p : Part). p.entries) is) tt
running_keeps c t bytes true part h = hears_keep c t bytes _ part h

-- lines of a stream that runs
abbrev pub IsInner : ScriptLine → Type 0
IsInner line.take = ⊤
IsInner (line.flush operation) = ⊤
IsInner (line.tick moment) = ⊤
IsInner (line.datagram digits) = ⊤
IsInner _ = ⊥

keeps_word : (c : AcqConfig) (t : Trace) (l : ScriptLine) (part : Part) → IsInner l → Spells c t l part → (board (grown t part)).run ≡ (board t).run
keeps_word c t line.take part inner spells = take_keeps t (open_event t) part spells
keeps_word c t (line.flush operation) part inner (answer, calls) =
    kept_by t part caller calls.events (ap (λ (p : Part). p.entries) calls.is) (flushes_keep operation answer calls.events calls.kind)
keeps_word c t (line.tick moment) part inner spells = settles_keep c t (tick moment) _ part spells
keeps_word c t (line.datagram digits) part inner (bytes, decoded, hears) = running_keeps c t bytes ((board t).run == 1) part hears
keeps_word c t _ part inner spells = absurd inner

never : (b : Bool) → not b && b ≡ false
never true = refl
never false = refl

-- what is kept stays, where the run word does
pub calm : (w : Wide) (t u : Trace) → (board u).run ≡ (board t).run → kept_behind w t u ≡ w
calm w t u e =
    ap (λ (b : Bool). record w { top = if b then 0 else w.top }) (ap (λ r. is_started_at (board t).run r) e ∙ never ((board t).run == 1))

-- ---- lines that mean themselves

pub plain_does : (c : AcqConfig) (w : Wide) (t : Trace) (l : ScriptLine) (part : Part) → meaning w t l ≡ itself → AddsPart c t l part
    → Does c w t l (said_by c t l w.widened part.text) w (grown t part)
plain_does c w t l part e adds =
    subst (λ m. DoesAs c w t l m (said_by c t l w.widened part.text) w (grown t part)) (sym e)
    (record { part = part; adds = adds; said = refl; is = refl }, refl)

abbrev pub IsTaking : ScriptLine → Type 0
IsTaking line.take = ⊤
IsTaking (line.flush operation) = ⊤
IsTaking _ = ⊥

taking_inner : (l : ScriptLine) → IsTaking l → IsInner l
taking_inner line.take h = tt
taking_inner (line.flush operation) h = tt
taking_inner _ h = absurd h

taking_means : (w : Wide) (t : Trace) (l : ScriptLine) → IsTaking l → meaning w t l ≡ itself
unfolding meaning
taking_means w t line.take h = refl
taking_means w t (line.flush operation) h = refl
taking_means w t _ h = absurd h

-- These lines lead on, and nothing that is kept changes.
pub record WalksOn (c : AcqConfig) (w : Wide) (t : Trace) (ls : List ScriptLine) (v : Wide) (to : Trace) : Type 0 where
  pub text : List ℕ
  pub walks : Walks c w t ls text v to

takes_walk : (c : AcqConfig) (w : Wide) (t : Trace) (ls : List ScriptLine) (to : Trace) → AllByRecursion IsTaking ls → Leads c t ls to → WalksOn c w t ls w to
takes_walk c w t [] to all is = record { text = []; walks = (refl, refl, is) }
takes_walk c w t (l ∷ ls) to all (part, adds, rest) =
    let said : List ℕ = said_by c t l w.widened part.text in
    let more = takes_walk c w (grown t part) ls to all.1 rest in
    record {
      text = said ++ more.text;
      walks = (
        said,
        more.text,
        w,
        grown t part,
        plain_does c w t l part (taking_means w t l all.0) adds,
        subst (λ v. Walks c v (grown t part) ls more.text w to) (sym (calm w t (grown t part) (keeps_word c t l part (taking_inner l all.0) adds.spells))) more.walks,
        refl,
      );
    }

takes_taking : (n : ℕ) → AllByRecursion IsTaking (replicate n line.take ++ line.flush 3 ∷ [])
takes_taking zero = (tt, tt)
takes_taking (suc n) = (tt, takes_taking n)

all_taking : (n : ℕ) → AllByRecursion IsTaking (taking n)
all_taking n = go (n == 0) where
  go : (b : Bool) → AllByRecursion IsTaking (if b then [] else replicate n line.take ++ line.flush 3 ∷ [])
  go true = tt
  go false = takes_taking n

-- What a line of the script comes to, where the trace is told this one.
pub record DoesSo (c : AcqConfig) (w : Wide) (t : Trace) (l : ScriptLine) (v : Wide) (to : Trace) : Type 0 where
  pub report : List ℕ
  pub does : Does c w t l report v to

-- a line, and the takes behind it
pub line_walks : (c : AcqConfig) (w v : Wide) (t : Trace) (l told : ScriptLine) (n : ℕ) (to : Trace) → IsInner told
    → ((part : Part) → AddsPart c t told part → DoesSo c w t l v (grown t part)) → Leads c t (told ∷ taking n) to → WalksOn c w t (l ∷ taking n) v to
line_walks c w v t l told n to inner does (part, adds, rest) =
    let more = takes_walk c v (grown t part) (taking n) to (all_taking n) rest in
    let one = does part adds in
    record {
      text = one.report ++ more.text;
      walks = (
        one.report,
        more.text,
        v,
        grown t part,
        one.does,
        subst (λ u. Walks c u (grown t part) (taking n) more.text v to) (sym (calm v t (grown t part) (keeps_word c t told part inner adds.spells))) more.walks,
        refl,
      );
    }

-- the stop, and the takes behind it
pub record Stops (c : AcqConfig) (w : Wide) (t : Trace) (ls : List ScriptLine) (to : Trace) : Type 0 where
  pub wide : Wide
  pub on : WalksOn c w t ls wide to

stop_means : (w : Wide) (t : Trace) → meaning w t (line.stop 0) ≡ itself
unfolding meaning
stop_means w t = refl

pub stop_walks : (c : AcqConfig) (w : Wide) (t : Trace) (n : ℕ) (to : Trace) → Leads c t (line.stop 0 ∷ taking n) to → Stops c w t (line.stop 0 ∷ taking n) to
stop_walks c w t n to (part, adds, rest) =
    let v : Wide = kept_behind w t (grown t part) in
    let more = takes_walk c v (grown t part) (taking n) to (all_taking n) rest in
    let said : List ℕ = said_by c t (line.stop 0) w.widened part.text in
    record {
      wide = v;
      on = record {
        text = said ++ more.text;
        walks = (said, more.text, w, grown t part, plain_does c w t (line.stop 0) part (stop_means w t) adds, more.walks, refl);
      };
    }

-- ---- the first lines

abbrev pub IsFirst : ScriptLine → Type 0
IsFirst (line.announce size) = ⊤
IsFirst (line.flush operation) = ⊤
IsFirst line.start = ⊤
IsFirst _ = ⊥

first_means : (w : Wide) (t : Trace) (l : ScriptLine) → IsFirst l → meaning w t l ≡ itself
unfolding meaning
first_means w t (line.announce size) h = refl
first_means w t (line.flush operation) h = refl
first_means w t line.start h = refl
first_means w t _ h = absurd h

stays : (t u : Trace) → kept_behind (nothing_wide 2) t u ≡ nothing_wide 2
stays t u = go (is_started t u) where
  go : (b : Bool) → record (nothing_wide 2) { top = if b then 0 else 0 } ≡ nothing_wide 2
  go true = refl
  go false = refl

pub first_walk : (c : AcqConfig) (t : Trace) (ls : List ScriptLine) (to : Trace) → AllByRecursion IsFirst ls → Leads c t ls to → WalksOn c (nothing_wide 2) t ls (nothing_wide 2) to
first_walk c t [] to all is = record { text = []; walks = (refl, refl, is) }
first_walk c t (l ∷ ls) to all (part, adds, rest) =
    let said : List ℕ = said_by c t l false part.text in
    let more = first_walk c (grown t part) ls to all.1 rest in
    record {
      text = said ++ more.text;
      walks = (
        said,
        more.text,
        nothing_wide 2,
        grown t part,
        plain_does c (nothing_wide 2) t l part (first_means (nothing_wide 2) t l all.0) adds,
        subst (λ v. Walks c v (grown t part) ls more.text (nothing_wide 2) to) (sym (stays t (grown t part))) more.walks,
        refl,
      );
    }
