-- A captured script, replayed.
use Rattle.std.proofs.Common.{◌≡◌, ℕ, suc, ◌+◌, ◌≤◌, nat_eq, not, List, [], ◌∷◌, ◌++◌, length, map, true, refl, sym, ap, subst, ◌∙◌, arith, append_assoc, zero-le, lit<}
use Rattle.std.specs.Prelude.{slice_index}
use Rattle.std.specs.List.{AllByRecursion}
use Rattle.std.proofs.lemmas.List.Sums.{AllPass-from_list_all}
use Rattle.gev_script.specs.Lines as line
use Rattle.gev_script.specs.Lines.{ScriptLine}
use Rattle.gev_script.specs.Streams.{HasNoFeed}
use Rattle.gev_script.specs.Spelling.{spelling}
use Rattle.script_runs.specs.Runs.{RunsLines, AreLines}
use Rattle.gev_capture.specs.Sightings.{Sighting, no_moments, sightings}
use Rattle.board_machine.specs.Places.{times}
use Rattle.board_machine.specs.Machine.{Item, places}
use Rattle.acquisition_machine.specs.declared.config.AcqConfig.{AcqConfig}
use Rattle.acquisition_machine.specs.declared.retired.Retired.{Retired}
use Rattle.acquisition_machine.specs.Blocks.{fills}
use Rattle.acquisition_machine.specs.Machine.{restart}
use Rattle.acquisition_machine.specs.Runs.{first_state, After, retired_from}
use Rattle.acquisition_machine.specs.Erased.{bare_state}
use Rattle.block_fills.specs.Fills.{item_of}
use Rattle.board_calls.specs.Dropped.{others, handed_out_items}
use Rattle.script_trace.specs.Trace.{Trace, board}
use Rattle.script_trace.specs.Opening.{opening}
use Rattle.script_trace.specs.Modes.{acquires}
use Rattle.script_trace.specs.Fills.{retired_items}
use Rattle.script_trace.specs.Ending.{as_count, filled_blocks}
use Rattle.script_trace.specs.Wide.{Wide, nothing_wide}
use Rattle.script_trace.specs.Standing.{first, running, ReplayRuns}
use Rattle.script_trace.specs.Laws.{KeepsPromises}
use Rattle.script_trace.proofs.Changing.{runs_keep}
use Rattle.script_trace.proofs.OneReport.{report_one}
use Rattle.script_trace.proofs.Counting.{takes_counted}
use Rattle.capture_script.specs.Playing.{open_blocks, config, nothing_played}
use Rattle.capture_script.specs.Script.{Scripted, new_script, header_line, begun_lines, lines_from, script_behind}
use Rattle.capture_script.proofs.Sitting.{Sits, header_sits}
use Rattle.capture_script.proofs.Fitting.{AllGo, packets_go}
use Rattle.capture_script.proofs.Whole.{read_is, between, between_goes}
use Rattle.capture_script.specs.Traces.{stop_lines, lines_before_end, takes_in, TakesWhatIsFilled, PacketsAreReplayed}
use Rattle.capture_script.proofs.Desk.{IsFull, of_five}
use Rattle.capture_script.proofs.Holding.{held_places, Live}
use Rattle.capture_script.proofs.Stages.{Stage, IsRecorded}
use Rattle.capture_script.proofs.TurnLines.{state_of, state_after}
use Rattle.capture_script.proofs.Begins.{all_pooled, first_lines, begins}
use Rattle.capture_script.proofs.Walking.{walks-append, walks_run, WalksOn, first_walk}
use Rattle.capture_script.proofs.Steps.{Stands, filled_both}
use Rattle.capture_script.proofs.Packets.{scripted, LinesStep, packets_step, Closes, close_step, closes_behind}
use Rattle.capture_script.proofs.Ends.{all_taken, all_find, fills_are_tries, underrun_stays}

-- ---- before any packet

first_live : (pp ss : ℕ) → Live pp ss first_state
first_live pp ss = record { inputs = []; reached = refl; each = tt; once = λ i. zero-le }

first_full : IsFull [] all_pooled
first_full = record {
  low = (lit< tt, (lit< tt, (lit< tt, (lit< tt, (lit< tt, tt)))));
  each = λ i small. of_five (λ i. times i [] + times i all_pooled ≡ 1) i small refl refl refl refl refl;
}

begun : (pp ss : ℕ) (t : Trace) → state_of pp ss t ≡ first_state → Stage pp ss t 1 [] [] all_pooled → Stands pp ss t (nothing_wide 2) nothing_played
begun pp ss t there stage = record {
  pool = all_pooled;
  stage = subst (λ u. Stage pp ss t 1 (held_places u) [] all_pooled) (sym there) stage;
  full = subst (λ u. IsFull (held_places u) all_pooled) (sym there) first_full;
  live = subst (Live pp ss) (sym there) (first_live pp ss);
  version = refl;
  top = refl;
  alike = ap bare_state (sym there);
}

-- ---- all lines behind the header

pub record Replays (pp ss : ℕ) (ls : List ScriptLine) : Type 0 where
  pub to : Trace
  pub wide : Wide
  pub on : WalksOn (config pp) (nothing_wide 2) opening (first_lines ss ++ ls) wide to
  pub no_underrun : (After (config pp) to.inputs).counts.underrun ≡ 0
  pub counted : takes_in ls ≡ length (fills pp (retired_from (config pp) first_state to.inputs))
  pub entries : AllByRecursion IsRecorded to.entries
  pub out : (board to).out ≡ []

from_begin : (pp ss : ℕ) → 1 ≤ ss → ss ≤ 67108864 → (ls : List ScriptLine)
    → ((t : Trace) → Stands pp ss t (nothing_wide 2) nothing_played → Closes pp ss t (nothing_wide 2) ls) → Replays pp ss ls
from_begin pp ss least most ls close =
    let c : AcqConfig = config pp in
    let b = begins pp ss least most in
    let there : state_of pp ss b.to ≡ first_state = state_after pp ss opening b.to (restart ∷ []) b.inputs in
    let front = first_walk c opening (first_lines ss) b.to (tt, (tt, (tt, (tt, (tt, (tt, (tt, tt))))))) b.leads in
    let rest : Closes pp ss b.to (nothing_wide 2) ls = close b.to (begun pp ss b.to there b.stage) in
    let inputs : rest.to.inputs ≡ (restart ∷ []) ++ rest.told = rest.inputs ∙ ap (λ q. q ++ rest.told) b.inputs in
    let counted : takes_in ls ≡ length (fills pp (retired_from c first_state rest.told)) = rest.counted ∙ ap (λ u. length (fills pp (retired_from c u rest.told))) there in
    let all : length (fills pp (retired_from c first_state ((restart ∷ []) ++ rest.told))) ≡ 0 + length (fills pp (retired_from c first_state rest.told)) =
    filled_both c pp first_state (restart ∷ []) rest.told in
    record {
      to = rest.to;
      wide = rest.wide;
      on = record {
        text = front.text ++ rest.on.text;
        walks = walks-append c (nothing_wide 2) opening (first_lines ss) ls front.text rest.on.text (nothing_wide 2) b.to rest.wide rest.to front.walks rest.on.walks;
      };
      no_underrun = ap (λ q. (After c q).counts.underrun) inputs ∙ underrun_stays c first_state (restart ∷ rest.told) (tt, rest.got);
      counted = (let same = ap (λ q. length (fills pp (retired_from c first_state q))) inputs in omega (arith, counted, all, same));
      entries = rest.entries;
      out = rest.out;
    }

closes_at : (pp ss port : ℕ) (t : Trace) (ls : List ScriptLine) (last : Scripted) → LinesStep pp ss port t (nothing_wide 2) ls last
    → Closes pp ss t (nothing_wide 2) (ls ++ stop_lines last)
closes_at pp ss port t ls last body =
    subst (λ s. Closes pp ss t (nothing_wide 2) (ls ++ stop_lines s)) (sym body.is)
    (closes_behind pp ss t (nothing_wide 2) ls (stop_lines (scripted port pp ss body.played body.moment)) body.played body.steps
    (close_step pp ss body.steps.to body.steps.wide body.played body.steps.stands))

-- ---- the spelled lines are lines

clash : (n : ℕ) → not (nat_eq n 10) ≡ true → n ≡ 10 → ⊥
clash n d e = let f : not (nat_eq 10 10) ≡ true = subst (λ k. not (nat_eq k 10) ≡ true) e d in cc

has_no_feed : (l : ScriptLine) → Sits l → HasNoFeed (spelling l)
has_no_feed l sits = λ i lt e. clash (slice_index (spelling l) i) (AllPass-from_list_all (λ b. not (nat_eq b 10)) (spelling l) sits.no_feed i 0 lt) e

are_lines : (ls : List ScriptLine) → AllGo ls → AreLines (map spelling ls)
are_lines [] all = tt
are_lines (l ∷ ls) all = (has_no_feed l all.0.sits, all.0.sits.short, are_lines ls all.1)

-- ---- the law

length_items : (xs : List Retired) → length (map item_of xs) ≡ length xs
length_items [] = refl
length_items (x ∷ xs) = ap suc (length_items xs)

length_places : (xs : List Item) → length (places xs) ≡ length xs
length_places [] = refl
length_places (x ∷ xs) = ap suc (length_places xs)

takes_all : (pp : ℕ) (lines : List ScriptLine) (t : Trace) → KeepsPromises (config pp) t → AllByRecursion IsRecorded t.entries → (board t).out ≡ []
    → (After (config pp) t.inputs).counts.underrun ≡ 0 → takes_in lines ≡ length (fills pp (retired_from (config pp) first_state t.inputs))
    → TakesWhatIsFilled (config pp) lines t
takes_all pp lines t keeps entries out none counted =
    let taken : handed_out_items acquires t.entries ≡ filled_blocks t = all_taken t.entries keeps.run entries out in
    let filled : filled_blocks t ≡ retired_items (config pp) t.inputs = fills_are_tries t.entries entries ∙ keeps.retired in
    record {
      finds = all_find t.entries entries;
      taken = taken;
      filled = filled;
      takes = counted ∙ sym (ap length filled ∙ length_items (fills pp (retired_from (config pp) first_state t.inputs)));
      no_underrun = λ refused. ap as_count none;
      taken_is_fills = λ refused.
          ap as_count
          (ap length (sym (takes_counted (others acquires) t.entries keeps.run))
          ∙ (length_places (handed_out_items acquires t.entries) ∙ ap length taken));
    }

runs_all : (p : ℕ) → Sits (header_line p) → (ls : List ScriptLine) → AllGo ls → (wide : Wide) (to : Trace) → (on : WalksOn (config p) (nothing_wide 2) opening ls wide to)
    → RunsLines ReplayRuns first 0 (map spelling (header_line p ∷ ls)) on.text (running (config p) wide to)
runs_all p sits ls all wide to on = (
  running (config p) (nothing_wide 2) opening,
  [],
  on.text,
  record { config = record { version = 2; p = p; window = open_blocks; timeout = 200; age = 20; rounds = 0 }; read = read_is (header_line p) sits; silent = refl; after = refl },
  walks_run (config p) (nothing_wide 2) opening 1 ls on.text wide to all on.walks,
  refl,
)

pub packets_are_replayed : PacketsAreReplayed
packets_are_replayed port p size packets some fits least most bytes =
    let s : Scripted = new_script port p size in
    let xs : List Sighting = sightings packets in
    let ls : List ScriptLine = lines_from s xs in
    let last : Scripted = script_behind s xs in
    let sits : Sits (header_line p) = header_sits p some fits in
    let all : Replays p size (ls ++ stop_lines last) =
    from_begin p size least most (ls ++ stop_lines last) (λ t stands.
    closes_at p size port t ls last (packets_step p size port t (nothing_wide 2) nothing_played 0 no_moments packets stands bytes)) in
    let go : AllGo (between size last ls) = between_goes size last ls most (packets_go no_moments packets s bytes) in
    let runs : RunsLines ReplayRuns first 0 (map spelling (lines_before_end port p size xs)) all.on.text (running (config p) all.wide all.to) =
    runs_all p sits (between size last ls) go all.wide all.to all.on in
    let lines : AreLines (map spelling (lines_before_end port p size xs)) = (has_no_feed (header_line p) sits, sits.short, are_lines (between size last ls) go) in
    let keeps : KeepsPromises (config p) all.to = runs_keep.so_far (map spelling (lines_before_end port p size xs)) all.on.text (running (config p) all.wide all.to) lines runs in
    record {
      ends = sym (append_assoc (begun_lines port p size xs) (stop_lines last) (line.end_of_script ∷ []));
      wide = all.wide;
      trace = all.to;
      text = all.on.text;
      runs = runs;
      only = λ said new also. (report_one.lines_agree first 0 (map spelling (lines_before_end port p size xs)) said all.on.text new (running (config p) all.wide all.to) lines also runs).standing;
      takes = takes_all p (lines_before_end port p size xs) all.to keeps all.entries all.out all.no_underrun all.counted;
    }
