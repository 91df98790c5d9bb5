-- The lines of a turn of a recorded run: from rest to rest.
use Rattle.std.proofs.Common.{◌≡◌, ℕ, ◌+◌, ◌≤◌, ◌==◌, true, false, List, [], ◌∷◌, ◌++◌, map, refl, sym, ap, subst, ◌∙◌, arith, append-nil, ap₂}
use Rattle.std.specs.Prelude.{None, Ok, codes}
use Rattle.std.specs.List.{AllByRecursion}
use Rattle.hex.specs.Hex.{decode_of, encode_lower}
use Rattle.gev_script.specs.Lines as line
use Rattle.gev_script.specs.Lines.{ScriptLine}
use Rattle.board_machine.specs.declared.events.Entry.{Entry}
use Rattle.board_machine.specs.declared.events.Event.{Event}
use Rattle.board_machine.specs.declared.events.Event.TheVariants.{Stop}
use Rattle.board_machine.specs.Places.{times}
use Rattle.board_machine.specs.Machine.{Board, Item, places}
use Rattle.board_machine.specs.Adding.{entries_of}
use Rattle.board_machine.specs.Handout.{removed}
use Rattle.board_machine.proofs.Handed.{removed-append}
use Rattle.board_machine.proofs.Places.{times-append}
use Rattle.acquisition_machine.specs.declared.retired.Retired.{Retired}
use Rattle.acquisition_machine.specs.Blocks.{Retirement, fills}
use Rattle.acquisition_machine.specs.Machine.{Input, datagram, tick, stop, State, step}
use Rattle.acquisition_machine.specs.Runs.{first_state, After, after_from}
use Rattle.acquisition_machine.specs.TurnLaws.{asked_by, given_of}
use Rattle.acquisition_machine.proofs.Joining.{after_from-append}
use Rattle.acquisition_machine.proofs.Order.{all_append}
use Rattle.block_fills.specs.Fills.{item_of}
use Rattle.board_calls.specs.declared.mode.Mode.{Mode}
use Rattle.board_calls.specs.declared.mode.Mode.TheVariants.{OldestFirst}
use Rattle.script_trace.specs.Trace.{Trace, Part, board, caller, acquirer}
use Rattle.script_trace.specs.Answers.{done_text}
use Rattle.script_trace.specs.Modes.{FillsInMode}
use Rattle.script_trace.specs.StreamLines.{Settles, retired_by, requests_text, HearsIfRunning, Hears}
use Rattle.script_trace.specs.Adding.{Spells}
use Rattle.gev_record.specs.Script.{live_config, held_places, takes, stop_lines}
use Rattle.gev_record.proofs.Desk.{desk, uses, Done, done_both, done_none}
use Rattle.gev_record.proofs.Holding.{places_in, Live, came_back, Settled, settled_datagram, settled_tick, settled_stop}
use Rattle.gev_record.proofs.Stages.{IsRecorded, Stage, Goes, adds, one_line, goes_both}
use Rattle.gev_record.proofs.Saying.{Says, says_nothing, says_requests, says_stopped, tells_quiet}
use Rattle.gev_record.proofs.StageLines.{fill_events, in_mode, fills_remove, fills_recorded, fills_done, takes_go}

-- the acquisition's state after the trace
abbrev pub state_of : Trace → State
state_of t = After live_config t.inputs

pub state_after : (t u : Trace) (told : List Input) → u.inputs ≡ t.inputs ++ told → state_of u ≡ after_from live_config (state_of t) told
state_after t u told e = ap (After live_config) e ∙ after_from-append live_config first_state t.inputs told

-- ---- lists of what came back

pub places-items : (xs : List Retired) → places (map item_of xs) ≡ places_in (map given_of xs)
places-items [] = refl
places-items (x ∷ xs) = ap (λ l. x.place ∷ l) (places-items xs)

abbrev pub take_each : List Retired → List ScriptLine
take_each xs = map (λ x. line.take) xs

pub takes_one : (s : State) (i : Input) → takes s (i ∷ []) ≡ take_each (came_back s i)
takes_one s i = ap (λ (rs : List Retirement). take_each (fills live_config.p rs)) (append-nil (step live_config s i).retired)

pub mode_fills : (m : Mode) (xs : List Retired) → m ≡ OldestFirst → FillsInMode m xs (fill_events xs)
mode_fills m xs e = subst (λ n. FillsInMode n xs (fill_events xs)) (sym e) (in_mode xs)

-- ---- lines that settle

-- the entries of such a line
abbrev settling : Trace → List Event → Input → List Entry
settling t calls i = entries_of caller calls ++ entries_of acquirer (fill_events (retired_by live_config t.inputs i))

settles_is : (t : Trace) (calls : List Event) (i : Input) (said : List ℕ) → t.mode ≡ OldestFirst
    → Settles live_config t calls i said (adds t (settling t calls i) (i ∷ []) said)
settles_is t calls i said e = record {
  events = fill_events (retired_by live_config t.inputs i);
  filled = mode_fills t.mode (retired_by live_config t.inputs i) e;
  is = refl;
}

-- what waits and what is held are what was held
once_settled : (s : State) (i : Input) → Live s → Settled s i → (k : ℕ) → uses (held_places (step live_config s i).after) (map item_of (came_back s i)) [] k ≤ 1
once_settled s i live settled k =
    let his : List ℕ = held_places (step live_config s i).after in
    let gone : List ℕ = places_in (map given_of (came_back s i)) in
    let first = live.once k in
    let sum : times k (held_places s) ≡ times k gone + times k his = ap (times k) settled.places ∙ times-append k gone his in
    let waits : times k (places (map item_of (came_back s i))) ≡ times k gone = ap (times k) (places-items (came_back s i)) in
    omega (arith, first, sum, waits)

pub fills_back : (r : ℕ) (s : State) (i : Input) (out : List Item) (pool : List ℕ) → Settled s i
    → Done (desk r (held_places s) out pool) (entries_of acquirer (fill_events (came_back s i))) (desk r (held_places (step live_config s i).after) (out ++ map item_of (came_back s i)) pool)
fills_back r s i out pool settled =
    subst (λ h. Done (desk r h out pool) (entries_of acquirer (fill_events (came_back s i))) (desk r (held_places (step live_config s i).after) (out ++ map item_of (came_back s i)) pool))
    (sym settled.places) (fills_done r (came_back s i) (held_places (step live_config s i).after) out pool settled.back)

-- A line that settles, and a take for each block that it fills.
settle_goes : (t : Trace) (l : ScriptLine) (i : Input) (calls : List Event) (said : List ℕ) (r run : ℕ)
    → Stage t run (held_places (state_of t)) [] [] → Live (state_of t) → Settled (state_of t) i
    → (Settles live_config t calls i said (adds t (settling t calls i) (i ∷ []) said) → Spells live_config t l (adds t (settling t calls i) (i ∷ []) said))
    → Done (desk run (held_places (state_of t)) [] []) (entries_of caller calls) (desk r (held_places (state_of t)) [] [])
    → AllByRecursion IsRecorded (entries_of caller calls) → removed (entries_of caller calls) ≡ [] → Says said []
    → Goes t (l ∷ takes (state_of t) (i ∷ [])) (i ∷ []) r (held_places (step live_config (state_of t) i).after) [] []
settle_goes t l i calls said r run s live settled spells before all none says =
    let xs : List Retired = came_back (state_of t) i in
    let his : List ℕ = held_places (step live_config (state_of t) i).after in
    let done = done_both (desk run (held_places (state_of t)) [] []) (desk r (held_places (state_of t)) [] []) (desk r his (map item_of xs) [])
    (entries_of caller calls) (entries_of acquirer (fill_events xs)) before (fills_back r (state_of t) i [] [] settled) in
    let first = one_line t l (settling t calls i) (i ∷ []) said r run his (held_places (state_of t)) (map item_of xs) [] [] [] s
    (spells (settles_is t calls i said s.mode)) done
    (all_append IsRecorded (entries_of caller calls) (entries_of acquirer (fill_events xs)) all (fills_recorded xs))
    (tells_quiet [] (settling t calls i) said
    (removed-append (entries_of caller calls) (entries_of acquirer (fill_events xs)) ∙ ap₂ (λ a b. a ++ b) none (fills_remove xs)) says) in
    let rest = takes_go first.to r xs his first.stage settled.back (once_settled (state_of t) i live settled) in
    subst (λ ls. Goes t (l ∷ ls) (i ∷ []) r his [] []) (sym (takes_one (state_of t) i))
    (goes_both t (l ∷ []) (take_each xs) (i ∷ []) [] r r his his [] (map item_of xs) [] [] first rest)

pub tick_goes : (t : Trace) (moment : ℕ) → Stage t 1 (held_places (state_of t)) [] [] → Live (state_of t)
    → Goes t (line.tick moment ∷ takes (state_of t) (tick moment ∷ [])) (tick moment ∷ []) 1 (held_places (step live_config (state_of t) (tick moment)).after) [] []
tick_goes t moment s live =
    settle_goes t (line.tick moment) (tick moment) [] (requests_text (step live_config (state_of t) (tick moment)).requests) 1 1 s live
    (settled_tick (state_of t) moment live) (λ x. x) (done_none (desk 1 (held_places (state_of t)) [] [])) tt refl
    (says_requests (step live_config (state_of t) (tick moment)).requests)

pub stop_goes : (t : Trace) → Stage t 1 (held_places (state_of t)) [] [] → Live (state_of t)
    → Goes t (stop_lines (state_of t)) (stop ∷ []) 0 (held_places (step live_config (state_of t) stop).after) [] []
stop_goes t s live =
    settle_goes t (line.stop 0) stop (Stop false (Ok tt) ∷ []) (done_text (codes "stop")) 0 1 s live
    (settled_stop (state_of t) live) (λ x. (Ok tt, Stop false (Ok tt) ∷ [], (omega arith, refl), x))
    (record { runs = (record { actor = λ e. cc; meets = refl }, tt); after = refl })
    (tt, tt) refl says_stopped

-- ---- a datagram

-- the stream is running
pub running : (t : Trace) (his : List ℕ) (out : List Item) (pool : List ℕ) → Stage t 1 his out pool → ((board t).run == 1) ≡ true
running t his out pool s = ap (λ (b : Board). b.run == 1) s.is

-- a datagram that asks for no buffer
pub heard_goes : (t : Trace) (bytes : List ℕ) → Stage t 1 (held_places (state_of t)) [] [] → Live (state_of t)
    → decode_of (encode_lower bytes) ≡ Ok bytes → asked_by (step live_config (state_of t) (datagram bytes)).need ≡ None
    → Goes t (line.datagram (encode_lower bytes) ∷ takes (state_of t) (datagram bytes ∷ [])) (datagram bytes ∷ []) 1 (held_places (step live_config (state_of t) (datagram bytes)).after) [] []
heard_goes t bytes s live decoded quiet =
    let part : Part = adds t (settling t [] (datagram bytes)) (datagram bytes ∷ []) [] in
    settle_goes t (line.datagram (encode_lower bytes)) (datagram bytes) [] [] 1 1 s live
    (settled_datagram (state_of t) bytes live)
    (λ x. (
      bytes,
      decoded,
      subst (λ v. HearsIfRunning live_config t bytes v part) (sym (running t (held_places (state_of t)) [] [] s))
          (subst (λ a. Hears live_config t bytes a part) (sym quiet) x),
    ))
    (done_none (desk 1 (held_places (state_of t)) [] [])) tt refl says_nothing
