-- A moment, a stop and a datagram that asks for no buffer, with the takes behind them: from rest to rest.
use Rattle.std.proofs.Common.{length, ◌<◌, ◌≡◌, ℕ, ◌+◌, ◌==◌, true, false, List, [], ◌∷◌, ◌++◌, map, refl, sym, ap, subst, ◌∙◌, arith}
use Rattle.std.specs.Prelude.{None, Ok, codes}
use Rattle.std.specs.List.{AllByRecursion}
use Rattle.hex.specs.Hex.{decode_of, encode_lower}
use Rattle.gev_script.specs.Lines as line
use Rattle.gev_script.specs.Lines.{ScriptLine}
use Rattle.board_machine.specs.declared.events.Entry.{Entry}
use Rattle.board_machine.specs.declared.events.Event.{Event}
use Rattle.board_machine.specs.declared.events.Event.TheVariants.{Stop}
use Rattle.board_machine.specs.Places.{times}
use Rattle.board_machine.specs.Machine.{Board, Item, places}
use Rattle.board_machine.specs.Adding.{entries_of}
use Rattle.board_machine.proofs.Places.{times-append}
use Rattle.acquisition_machine.specs.declared.retired.Retired.{Retired}
use Rattle.acquisition_machine.specs.Machine.{Input, datagram, tick, stop, State, step}
use Rattle.acquisition_machine.specs.Runs.{first_state, After, after_from}
use Rattle.acquisition_machine.specs.TurnLaws.{asked_by, given_of}
use Rattle.acquisition_machine.proofs.Joining.{after_from-append}
use Rattle.acquisition_machine.proofs.Order.{all_append}
use Rattle.block_fills.specs.Fills.{item_of}
use Rattle.board_calls.specs.declared.mode.Mode.{Mode}
use Rattle.board_calls.specs.declared.mode.Mode.TheVariants.{OldestFirst}
use Rattle.script_trace.specs.Trace.{Trace, Part, board, caller, acquirer}
use Rattle.script_trace.specs.Answers.{done_text}
use Rattle.script_trace.specs.Modes.{FillsInMode}
use Rattle.script_trace.specs.StreamLines.{Settles, retired_by, requests_text, HearsIfRunning, Hears}
use Rattle.script_trace.specs.Adding.{Spells}
use Rattle.capture_script.specs.Playing.{config}
use Rattle.capture_script.specs.Script.{taking}
use Rattle.capture_script.proofs.Desk.{desk, uses, Done, done_both, done_none, IsFull}
use Rattle.capture_script.proofs.Holding.{held_places, places_in, Live, came_back, Settled, settled_datagram, settled_tick, settled_stop}
use Rattle.capture_script.proofs.Stages.{IsRecorded, Stage, adds, one_line, goes_both}
use Rattle.capture_script.proofs.StageLines.{fill_events, in_mode, fills_recorded, fills_done, Rests, taking_goes}

-- the acquisition's state after the trace
abbrev pub state_of : (pp ss : ℕ) → Trace → State
state_of pp ss t = After (config pp) t.inputs

pub state_after : (pp ss : ℕ) → (t u : Trace) (told : List Input) → u.inputs ≡ t.inputs ++ told → state_of pp ss u ≡ after_from (config pp) (state_of pp ss t) told
state_after pp ss t u told e = ap (After (config pp)) e ∙ after_from-append (config pp) first_state t.inputs told

-- ---- lists of what came back

pub places-items : (xs : List Retired) → places (map item_of xs) ≡ places_in (map given_of xs)
places-items [] = refl
places-items (x ∷ xs) = ap (λ l. x.place ∷ l) (places-items xs)

pub mode_fills : (m : Mode) (xs : List Retired) → m ≡ OldestFirst → FillsInMode m xs (fill_events xs)
mode_fills m xs e = subst (λ n. FillsInMode n xs (fill_events xs)) (sym e) (in_mode xs)

-- ---- lines that settle

-- the entries of such a line
abbrev settling : (pp ss : ℕ) → Trace → List Event → Input → List Entry
settling pp ss t calls i = entries_of caller calls ++ entries_of acquirer (fill_events (retired_by (config pp) t.inputs i))

settles_is : (pp ss : ℕ) → (t : Trace) (calls : List Event) (i : Input) (said : List ℕ) → t.mode ≡ OldestFirst
    → Settles (config pp) t calls i said (adds t (settling pp ss t calls i) (i ∷ []) said)
settles_is pp ss t calls i said e = record {
  events = fill_events (retired_by (config pp) t.inputs i);
  filled = mode_fills t.mode (retired_by (config pp) t.inputs i) e;
  is = refl;
}

-- what waits and what is held are what was held
each_settled : (pp ss : ℕ) → (s : State) (i : Input) (ps : List ℕ) → Settled pp ss s i → IsFull (held_places s) ps
    → (k : ℕ) → k < 5 → uses (held_places (step (config pp) s i).after) (map item_of (came_back pp ss s i)) ps k ≡ 1
each_settled pp ss s i ps settled full k small =
    let his : List ℕ = held_places (step (config pp) s i).after in
    let gone : List ℕ = places_in (map given_of (came_back pp ss s i)) in
    let first = full.each k small in
    let sum : times k (held_places s) ≡ times k gone + times k his = ap (times k) settled.places ∙ times-append k gone his in
    let waits : times k (places (map item_of (came_back pp ss s i))) ≡ times k gone = ap (times k) (places-items (came_back pp ss s i)) in
    omega (arith, first, sum, waits)

pub fills_back : (pp ss : ℕ) → (r : ℕ) (s : State) (i : Input) (out : List Item) (pool : List ℕ) → Settled pp ss s i
    → Done (desk pp ss r (held_places s) out pool) (entries_of acquirer (fill_events (came_back pp ss s i))) (desk pp ss r (held_places (step (config pp) s i).after) (out ++ map item_of (came_back pp ss s i)) pool)
fills_back pp ss r s i out pool settled =
    subst (λ h. Done (desk pp ss r h out pool) (entries_of acquirer (fill_events (came_back pp ss s i))) (desk pp ss r (held_places (step (config pp) s i).after) (out ++ map item_of (came_back pp ss s i)) pool))
    (sym settled.places) (fills_done pp ss r (came_back pp ss s i) (held_places (step (config pp) s i).after) out pool settled.back)

-- A line that settles, and a take for each block that it fills.
settle_goes : (pp ss : ℕ) → (t : Trace) (l : ScriptLine) (i : Input) (calls : List Event) (said : List ℕ) (r run : ℕ) (ps : List ℕ)
    → Stage pp ss t run (held_places (state_of pp ss t)) [] ps → IsFull (held_places (state_of pp ss t)) ps → Settled pp ss (state_of pp ss t) i
    → (Settles (config pp) t calls i said (adds t (settling pp ss t calls i) (i ∷ []) said) → Spells (config pp) t l (adds t (settling pp ss t calls i) (i ∷ []) said))
    → Done (desk pp ss run (held_places (state_of pp ss t)) [] ps) (entries_of caller calls) (desk pp ss r (held_places (state_of pp ss t)) [] ps)
    → AllByRecursion IsRecorded (entries_of caller calls)
    → Rests pp ss t (l ∷ taking (length (came_back pp ss (state_of pp ss t) i))) (i ∷ []) r (held_places (step (config pp) (state_of pp ss t) i).after)
settle_goes pp ss t l i calls said r run ps s full settled spells before all =
    let xs : List Retired = came_back pp ss (state_of pp ss t) i in
    let his : List ℕ = held_places (step (config pp) (state_of pp ss t) i).after in
    let done = done_both (desk pp ss run (held_places (state_of pp ss t)) [] ps) (desk pp ss r (held_places (state_of pp ss t)) [] ps) (desk pp ss r his (map item_of xs) ps)
    (entries_of caller calls) (entries_of acquirer (fill_events xs)) before (fills_back pp ss r (state_of pp ss t) i [] ps settled) in
    let first = one_line pp ss t l (settling pp ss t calls i) (i ∷ []) said r run his (held_places (state_of pp ss t)) (map item_of xs) [] ps ps s
    (spells (settles_is pp ss t calls i said s.mode)) done
    (all_append IsRecorded (entries_of caller calls) (entries_of acquirer (fill_events xs)) all (fills_recorded xs)) in
    let rest = taking_goes pp ss first.to r xs his ps first.stage settled.back full.low (each_settled pp ss (state_of pp ss t) i ps settled full) in
    record {
      pool = rest.pool;
      goes = goes_both pp ss t (l ∷ []) (taking (length xs)) (i ∷ []) [] r r his his [] (map item_of xs) rest.pool ps first rest.goes;
      full = rest.full;
    }

pub tick_goes : (pp ss : ℕ) → (t : Trace) (moment : ℕ) (ps : List ℕ) → Stage pp ss t 1 (held_places (state_of pp ss t)) [] ps → IsFull (held_places (state_of pp ss t)) ps → Live pp ss (state_of pp ss t)
    → Rests pp ss t (line.tick moment ∷ taking (length (came_back pp ss (state_of pp ss t) (tick moment)))) (tick moment ∷ []) 1 (held_places (step (config pp) (state_of pp ss t) (tick moment)).after)
tick_goes pp ss t moment ps s full live =
    settle_goes pp ss t (line.tick moment) (tick moment) [] (requests_text (step (config pp) (state_of pp ss t) (tick moment)).requests) 1 1 ps s full
    (settled_tick pp ss (state_of pp ss t) moment live) (λ x. x) (done_none (desk pp ss 1 (held_places (state_of pp ss t)) [] ps)) tt

pub stop_goes : (pp ss : ℕ) → (t : Trace) (ps : List ℕ) → Stage pp ss t 1 (held_places (state_of pp ss t)) [] ps → IsFull (held_places (state_of pp ss t)) ps → Live pp ss (state_of pp ss t)
    → Rests pp ss t (line.stop 0 ∷ taking (length (came_back pp ss (state_of pp ss t) stop))) (stop ∷ []) 0 (held_places (step (config pp) (state_of pp ss t) stop).after)
stop_goes pp ss t ps s full live =
    settle_goes pp ss t (line.stop 0) stop (Stop false (Ok tt) ∷ []) (done_text (codes "stop")) 0 1 ps s full
    (settled_stop pp ss (state_of pp ss t) live) (λ x. (Ok tt, Stop false (Ok tt) ∷ [], (omega arith, refl), x))
    (record { runs = (record { actor = λ e. cc; meets = refl }, tt); after = refl })
    (tt, tt)

-- ---- a datagram

-- the stream is running
pub running : (pp ss : ℕ) → (t : Trace) (his : List ℕ) (out : List Item) (pool : List ℕ) → Stage pp ss t 1 his out pool → ((board t).run == 1) ≡ true
running pp ss t his out pool s = ap (λ (b : Board). b.run == 1) s.is

-- a datagram that asks for no buffer
pub heard_goes : (pp ss : ℕ) → (t : Trace) (bytes : List ℕ) (ps : List ℕ) → Stage pp ss t 1 (held_places (state_of pp ss t)) [] ps → IsFull (held_places (state_of pp ss t)) ps → Live pp ss (state_of pp ss t)
    → decode_of (encode_lower bytes) ≡ Ok bytes → asked_by (step (config pp) (state_of pp ss t) (datagram bytes)).need ≡ None
    → Rests pp ss t (line.datagram (encode_lower bytes) ∷ taking (length (came_back pp ss (state_of pp ss t) (datagram bytes)))) (datagram bytes ∷ []) 1 (held_places (step (config pp) (state_of pp ss t) (datagram bytes)).after)
heard_goes pp ss t bytes ps s full live decoded quiet =
    let part : Part = adds t (settling pp ss t [] (datagram bytes)) (datagram bytes ∷ []) [] in
    settle_goes pp ss t (line.datagram (encode_lower bytes)) (datagram bytes) [] [] 1 1 ps s full
    (settled_datagram pp ss (state_of pp ss t) bytes live)
    (λ x. (
      bytes,
      decoded,
      subst (λ v. HearsIfRunning (config pp) t bytes v part) (sym (running pp ss t (held_places (state_of pp ss t)) [] ps s))
          (subst (λ a. Hears (config pp) t bytes a part) (sym quiet) x),
    ))
    (done_none (desk pp ss 1 (held_places (state_of pp ss t)) [] ps)) tt
