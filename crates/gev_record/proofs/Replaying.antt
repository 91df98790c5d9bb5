-- A recorded script, replayed.
use Rattle.std.proofs.Common.{◌≡◌, inl, inr, ℕ, zero, suc, ◌<◌, ◌≤◌, ◌==◌, List, [], ◌∷◌, ◌++◌, map, if◌then◌else◌, refl, sym, ap, subst, ◌∙◌, arith, zero-le, lit<}
use Rattle.std.specs.Prelude.{Option, Some, None}
use Rattle.std.specs.List.{AllByRecursion}
use Rattle.hex.specs.Hex.{IsBytes}
use Rattle.hex.proofs.HexLemmas.{decode_of-encode_lower}
use Rattle.gentl_types.specs.declared.word.State.TheVariants.{Held, Away}
use Rattle.board_machine.specs.Places.{times}
use Rattle.board_machine.proofs.Places.{times-put_all}
use Rattle.board_machine.specs.Machine.{Board, Item, word_at, hand}
use Rattle.board_machine.specs.Handout.{taken_items}
use Rattle.acquisition_machine.specs.Blocks.{Given, fills}
use Rattle.acquisition_machine.specs.Machine.{restart, stop, State, step}
use Rattle.acquisition_machine.specs.Runs.{first_state, retired_from}
use Rattle.acquisition_machine.specs.TurnLaws.{held}
use Rattle.acquisition_machine.specs.Erased.{images}
use Rattle.acquisition_machine.specs.Turns.{Noted, IsRun, buffer_size, with_byte, with_bytes}
use Rattle.acquisition_machine.proofs.Agreeing.{runs_agree}
use Rattle.block_fills.specs.Fills.{item_of}
use Rattle.script_trace.specs.Trace.{Trace, caller, acquirer}
use Rattle.script_trace.specs.Opening.{opening}
use Rattle.script_trace.specs.Adding.{Leads}
use Rattle.script_trace.specs.Laws.{KeepsPromises}
use Rattle.script_trace.proofs.Promises.{traces_keep}
use Rattle.script_trace.proofs.OneReport.{trace_one}
use Rattle.gev_record.specs.Script.{live_config, held_places, run_inputs, after_turns, turns_lines, stop_lines, first_lines, recorded_lines}
use Rattle.gev_record.specs.Marks.{MarksTell, IsReceived, HasWidths}
use Rattle.gev_record.specs.Laws.{taken_images, RecordedRunsReplay, IsAtRest, IsPlace, Between, RestsBetweenTurns}
use Rattle.gev_record.proofs.Telling.{is_run}
use Rattle.gev_record.proofs.Marking.{marked_runs, marks_front, marks_tell_the_script}
use Rattle.acquisition_machine.proofs.Order.{all_front}
use Rattle.gev_record.proofs.Desk.{desk, uses, three}
use Rattle.gev_record.proofs.Holding.{Live, IsLive, places_in}
use Rattle.gev_record.proofs.Stages.{Stage, Goes, to_both}
use Rattle.gev_record.proofs.TurnLines.{state_of, state_after}
use Rattle.gev_record.proofs.Begins.{begins}
use Rattle.gev_record.proofs.RunLines.{IsTellable, turns_told, told_leads, turns_go, run_goes}
use Rattle.gev_record.proofs.LinesFit.{lines_fit}
use Rattle.gev_record.proofs.Ends.{all_taken, fillings-items}

-- ---- datagrams as digits

is_bytes : (bytes : List ℕ) → AllByRecursion (λ b. b < 256) bytes → IsBytes bytes
is_bytes [] all i = lit< tt
is_bytes (b ∷ bytes) all zero = all.0
is_bytes (b ∷ bytes) all (suc i) = is_bytes bytes all.1 i

is_tellable : (received : Option (List ℕ)) → IsReceived received → IsTellable (with_byte received)
is_tellable None w = tt
is_tellable (Some []) w = tt
is_tellable (Some (b ∷ bytes)) w = decode_of-encode_lower (b ∷ bytes) (is_bytes (b ∷ bytes) w.0)

all_tellable : (ts : List Noted) → AllByRecursion HasWidths ts → AllByRecursion (λ (n : Noted). IsTellable n.received) (map with_bytes ts)
all_tellable [] all = tt
all_tellable (t ∷ ts) all = (is_tellable t.received all.0.received, all_tellable ts all.1)

-- ---- before any turn

first_live : Live first_state
first_live = record { inputs = []; reached = refl; each = tt; once = λ i. zero-le }

first_there : state_of begins.to ≡ first_state
first_there = state_after opening begins.to (restart ∷ []) begins.inputs

-- ---- the whole script

pub whole : (ts : List Noted) → AllByRecursion HasWidths ts → MarksTell first_state (map with_bytes ts)
    → Goes opening (recorded_lines ts) (restart ∷ run_inputs first_state (map with_bytes ts)) 0
    (held_places (step live_config (after_turns first_state (map with_bytes ts)) stop).after) [] []
whole ts widths marks =
    let ns : List Noted = map with_bytes ts in
    let last : List ℕ = held_places (step live_config (after_turns first_state ns) stop).after in
    to_both opening first_lines (turns_lines first_state ns ++ stop_lines (after_turns first_state ns)) (restart ∷ []) (run_inputs first_state ns)
    (desk 1 [] [] []) (desk 0 last [] []) begins
    (run_goes begins.to first_state first_there ns marks (all_tellable ts widths) begins.stage first_live)

-- what was taken is what the script's inputs retire
pub taken_told : (ts : List Noted) (widths : AllByRecursion HasWidths ts) (marks : MarksTell first_state (map with_bytes ts)) (keeps : KeepsPromises live_config (whole ts widths marks).to)
    → taken_images (whole ts widths marks).to ≡ images (fills live_config.p (retired_from live_config first_state (run_inputs first_state (map with_bytes ts))))
taken_told ts widths marks keeps =
    let all = whole ts widths marks in
    let taken : taken_items caller all.to.entries ≡ map item_of (fills live_config.p (retired_from live_config first_state all.to.inputs)) =
    all_taken all.to.entries keeps.run all.stage.entries (ap (λ (b : Board). b.out) all.stage.is) ∙ keeps.retired in
    ap (map (λ (x : Item). x.filling)) taken
    ∙ (ap (λ q. map (λ (x : Item). x.filling) (map item_of (fills live_config.p (retired_from live_config first_state q)))) all.inputs
    ∙ fillings-items (fills live_config.p (retired_from live_config first_state (run_inputs first_state (map with_bytes ts)))))

pub one_trace : (ts : List Noted) → AllByRecursion HasWidths ts → (a b : Trace) → Leads live_config opening (recorded_lines ts) a → Leads live_config opening (recorded_lines ts) b → a ≡ b
one_trace ts widths a b = trace_one live_config (recorded_lines ts) opening a b (lines_fit ts widths)

pub recorded_runs_replay : RecordedRunsReplay
recorded_runs_replay ts q widths marked =
    let marks = marks_tell_the_script ts q marked in
    let run : IsRun live_config first_state ts q = marked_runs first_state ts q marked in
    let all = whole ts widths marks in
    let keeps : KeepsPromises live_config all.to = traces_keep live_config (recorded_lines ts) all.to (omega arith) (lines_fit ts widths) all.leads in
    let same : images (fills live_config.p (retired_from live_config first_state q))
    ≡ images (fills live_config.p (retired_from live_config first_state (run_inputs first_state (map with_bytes ts)))) =
    runs_agree live_config first_state first_state ts q (run_inputs first_state (map with_bytes ts)) refl refl run (is_run first_state (map with_bytes ts)) in
    let taken = taken_told ts widths marks keeps ∙ sym same in
    record {
      trace = all.to;
      leads = all.leads;
      taken = λ t leads. subst (λ u. taken_images u ≡ images (fills live_config.p (retired_from live_config first_state q)))
          (one_trace ts widths all.to t all.leads leads) taken;
    }

-- ---- between two turns

all_low : (gs : List Given) → AllByRecursion IsLive gs → AllByRecursion (λ i. i < 3) (places_in gs)
all_low [] all = tt
all_low (g ∷ gs) all = (all.0.low, all_low gs all.1)

-- the word of a place that is used so often
rests_at : (n : ℕ) → n ≤ 1 → (i : ℕ) (b : Board) (s : State) → times i (held_places s) ≡ n → (word_at b i).state ≡ (if n == 0 then Held else Away)
    → times i (hand b acquirer) ≡ n → IsAtRest b s i
rests_at zero few i b s is word hand = inl (word, is)
rests_at (suc zero) few i b s is word hand = inr (word, is, hand)
rests_at (suc (suc n)) few i b s is word hand = absurd (omega arith)

place_at : (s : State) (i : ℕ) → Live s → i < 3 → IsPlace (desk 1 (held_places s) [] []) s i
place_at s i live low =
    let his : List ℕ = held_places s in
    let few = live.once i in
    let mine = times-put_all i his [] in
    record {
      size = three (λ i. (word_at (desk 1 his [] []) i).size ≡ buffer_size) i low refl refl refl;
      generation = three (λ i. (word_at (desk 1 his [] []) i).generation ≡ 1) i low refl refl refl;
      rests = rests_at (uses his [] [] i) (omega (arith, few)) i (desk 1 his [] []) s (omega arith)
          (three (λ i. (word_at (desk 1 his [] []) i).state ≡ (if uses his [] [] i == 0 then Held else Away)) i low refl refl refl)
          (omega (arith, mine));
    }

between : (t : Trace) (s : State) → state_of t ≡ s → Stage t 1 (held_places s) [] [] → Live s → Between t s
between t s e stage live = record {
  state = e;
  running = ap (λ (b : Board). b.run) stage.is;
  not_closed = ap (λ (b : Board). b.closed) stage.is;
  pool = ap (λ (b : Board). b.pool) stage.is;
  out = ap (λ (b : Board). b.out) stage.is;
  places = λ i low. subst (λ b. IsPlace b s i) (sym stage.is) (place_at s i live low);
  no_others = all_low (held s.opens) live.each;
  mode = stage.mode;
}

pub rests_between_turns : RestsBetweenTurns
rests_between_turns front back q all_widths marked =
    let widths : AllByRecursion HasWidths front = all_front HasWidths front back all_widths in
    let marks = marks_front first_state front back (marks_tell_the_script (front ++ back) q marked) in
    let ns : List Noted = map with_bytes front in
    let s : State = after_turns first_state ns in
    let turns = turns_go begins.to first_state first_there ns marks (all_tellable front widths) begins.stage first_live in
    let all : Goes opening (first_lines ++ turns_lines first_state ns) (restart ∷ turns_told first_state ns) 1 (held_places s) [] [] =
    to_both opening first_lines (turns_lines first_state ns) (restart ∷ []) (turns_told first_state ns) (desk 1 [] [] []) (desk 1 (held_places s) [] []) begins turns.goes in
    record {
      trace = all.to;
      leads = all.leads;
      rests = between all.to s
          (state_after opening all.to (restart ∷ turns_told first_state ns) all.inputs ∙ told_leads first_state ns)
          all.stage turns.live;
    }
