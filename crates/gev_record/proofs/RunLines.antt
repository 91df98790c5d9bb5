-- The turns of a recorded run, one after the other, and the stop.
use Rattle.std.proofs.Common.{◌≡◌, ℕ, zero, suc, ◌<◌, ◌&&◌, nat_lt, Bool, true, false, List, [], ◌∷◌, ◌++◌, if◌then◌else◌, refl, sym, ap, subst, ◌∙◌, arith, append_assoc, lt-ltb}
use Rattle.std.specs.Prelude.{⊤, Option, Some, None, Ok}
use Rattle.std.specs.List.{AllByRecursion}
use Rattle.hex.specs.Hex.{decode_of, encode_lower}
use Rattle.gev_script.specs.Lines as line
use Rattle.gev_script.specs.Lines.{ScriptLine}
use Rattle.board_machine.specs.Places.{times}
use Rattle.acquisition_machine.specs.Machine.{Input, datagram, tick, stop, State, step}
use Rattle.acquisition_machine.specs.Runs.{after_from}
use Rattle.acquisition_machine.specs.TurnLaws.{asked_by}
use Rattle.acquisition_machine.proofs.Joining.{after_from-append}
use Rattle.script_trace.specs.Trace.{Trace}
use Rattle.acquisition_machine.specs.declared.mark.Mark.{Mark}
use Rattle.acquisition_machine.specs.Turns.{Noted}
use Rattle.gev_record.specs.Script.{live_config, held_places, queued_place, told_outcome, told, heard, heard_in, told_in, after_turn, after_turns, run_inputs, takes, queue_lines, heard_lines, turn_lines, turns_lines, stop_lines}
use Rattle.gev_record.specs.Marks.{block_or_zero, opened_in, MarksTell}
use Rattle.gev_record.proofs.Holding.{Live, is_free, settled_datagram, settled_tick}
use Rattle.gev_record.proofs.Stages.{Stage, Goes, no_line, goes_both}
use Rattle.gev_record.proofs.StageLines.{queue_goes}
use Rattle.gev_record.proofs.TurnLines.{state_of, state_after, tick_goes, stop_goes, heard_goes}
use Rattle.gev_record.proofs.ClaimLines.{pool_of, asked_state, given_state, twice, asks_goes, asks_live}

-- the bytes can be told by a line
abbrev pub IsTellable : Option (List ℕ) → Type 0
IsTellable None = ⊤
IsTellable (Some bytes) = decode_of (encode_lower bytes) ≡ Ok bytes

-- ---- at a state

-- the same of a trace whose acquisition is known to be in this state
asks_at : (u : Trace) (s : State) → state_of u ≡ s → (bytes : List ℕ) (claim : Bool) (p b : ℕ) → Stage u 1 (held_places s) [] (pool_of claim p) → Live s
    → p < 3 → times p (held_places s) ≡ 0 → decode_of (encode_lower bytes) ≡ Ok bytes → asked_by (step live_config s (datagram bytes)).need ≡ Some b
    → Goes u (line.datagram (encode_lower bytes) ∷ takes s (twice bytes (told_outcome claim p))) (twice bytes (told_outcome claim p)) 1
    (held_places (asked_state (given_state s bytes claim p) bytes)) [] []
asks_at u s e bytes claim p b =
    subst (λ s. Stage u 1 (held_places s) [] (pool_of claim p) → Live s → p < 3 → times p (held_places s) ≡ 0 → decode_of (encode_lower bytes) ≡ Ok bytes
    → asked_by (step live_config s (datagram bytes)).need ≡ Some b
    → Goes u (line.datagram (encode_lower bytes) ∷ takes s (twice bytes (told_outcome claim p))) (twice bytes (told_outcome claim p)) 1
    (held_places (asked_state (given_state s bytes claim p) bytes)) [] []) e (asks_goes u bytes claim p b)

tick_at : (u : Trace) (s : State) → state_of u ≡ s → (moment : ℕ) → Stage u 1 (held_places s) [] [] → Live s
    → Goes u (line.tick moment ∷ takes s (tick moment ∷ [])) (tick moment ∷ []) 1 (held_places (step live_config s (tick moment)).after) [] []
tick_at u s e moment =
    subst (λ s. Stage u 1 (held_places s) [] [] → Live s
    → Goes u (line.tick moment ∷ takes s (tick moment ∷ [])) (tick moment ∷ []) 1 (held_places (step live_config s (tick moment)).after) [] []) e (tick_goes u moment)

stop_at : (u : Trace) (s : State) → state_of u ≡ s → Stage u 1 (held_places s) [] [] → Live s
    → Goes u (stop_lines s) (stop ∷ []) 0 (held_places (step live_config s stop).after) [] []
stop_at u s e =
    subst (λ s. Stage u 1 (held_places s) [] [] → Live s
    → Goes u (stop_lines s) (stop ∷ []) 0 (held_places (step live_config s stop).after) [] []) e (stop_goes u)

heard_at : (u : Trace) (s : State) → state_of u ≡ s → (bytes : List ℕ) → Stage u 1 (held_places s) [] [] → Live s
    → decode_of (encode_lower bytes) ≡ Ok bytes → asked_by (step live_config s (datagram bytes)).need ≡ None
    → Goes u (line.datagram (encode_lower bytes) ∷ takes s (datagram bytes ∷ [])) (datagram bytes ∷ []) 1 (held_places (step live_config s (datagram bytes)).after) [] []
heard_at u s e bytes =
    subst (λ s. Stage u 1 (held_places s) [] [] → Live s → decode_of (encode_lower bytes) ≡ Ok bytes → asked_by (step live_config s (datagram bytes)).need ≡ None
    → Goes u (line.datagram (encode_lower bytes) ∷ takes s (datagram bytes ∷ [])) (datagram bytes ∷ []) 1 (held_places (step live_config s (datagram bytes)).after) [] []) e (heard_goes u bytes)

-- ---- a turn's datagram

-- these lines tell these inputs, to rest
record Rests (u : Trace) (s : State) (lines : List ScriptLine) (told : List Input) : Type 0 where
  goes : Goes u lines told 1 (held_places (after_from live_config s told)) [] []
  live : Live (after_from live_config s told)

none_queued : (o : ℕ) (c : Bool) (ls : List ScriptLine) → (o ≡ 0 → c ≡ false) → (c ≡ false) → (if nat_lt 0 o && c then ls else []) ≡ []
none_queued o c ls tells e = ap (λ v. if nat_lt 0 o && v then ls else []) e ∙ go (nat_lt 0 o) where
  go : (v : Bool) → (if v && false then ls else []) ≡ []
  go true = refl
  go false = refl

one_queued : (o : ℕ) (c : Bool) (ls : List ScriptLine) → (o ≡ 0 → c ≡ false) → (c ≡ true) → (if nat_lt 0 o && c then ls else []) ≡ ls
one_queued zero c ls tells e = absurd (let f = tells refl in cc)
one_queued (suc n) c ls tells e = (let above : 0 < suc n = omega arith in rw (lt-ltb 0 (suc n) above, e) refl)

heard_asking : (u : Trace) (s : State) → state_of u ≡ s → (bytes : List ℕ) (m : Mark) (b : ℕ) (c : Bool) → m.claimed ≡ c → (m.opened ≡ 0 → m.claimed ≡ false)
    → Stage u 1 (held_places s) [] [] → Live s → decode_of (encode_lower bytes) ≡ Ok bytes → asked_by (step live_config s (datagram bytes)).need ≡ Some b
    → Rests u s (queue_lines s m ++ line.datagram (encode_lower bytes) ∷ takes s (twice bytes (told_outcome c (queued_place s)))) (twice bytes (told_outcome c (queued_place s)))
heard_asking u s e bytes m b false is tells stage live decoded asked =
    let place = is_free s live in
    let p : ℕ = queued_place s in
    record {
      goes = subst (λ ls. Goes u (ls ++ line.datagram (encode_lower bytes) ∷ takes s (twice bytes None)) (twice bytes None) 1 (held_places (asked_state (given_state s bytes false p) bytes)) [] [])
          (sym (none_queued m.opened m.claimed (line.queue p 1 ∷ []) tells is))
          (asks_at u s e bytes false p b stage live place.low place.free decoded asked);
      live = asks_live s bytes false p b live place.low place.free asked;
    }
heard_asking u s e bytes m b true is tells stage live decoded asked =
    let place = is_free s live in
    let p : ℕ = queued_place s in
    let queued = queue_goes u 1 p (held_places s) stage place.low place.free in
    let there : state_of queued.to ≡ s = state_after u queued.to [] queued.inputs ∙ e in
    let asks = asks_at queued.to s there bytes true p b queued.stage live place.low place.free decoded asked in
    let his : List ℕ = held_places (asked_state (given_state s bytes true p) bytes) in
    let ls : List ScriptLine = line.datagram (encode_lower bytes) ∷ takes s (twice bytes (told_outcome true p)) in
    record {
      goes = subst (λ qs. Goes u (qs ++ ls) (twice bytes (told_outcome true p)) 1 his [] [])
          (sym (one_queued m.opened m.claimed (line.queue p 1 ∷ []) tells is))
          (goes_both u (line.queue p 1 ∷ []) ls [] (twice bytes (told_outcome true p)) 1 1 his (held_places s) [] [] [] (p ∷ []) queued asks);
      live = asks_live s bytes true p b live place.low place.free asked;
    }

heard_by : (u : Trace) (s : State) → state_of u ≡ s → (bytes : List ℕ) (m : Mark) (a : Option ℕ) → m.opened ≡ block_or_zero a → (m.opened ≡ 0 → m.claimed ≡ false)
    → Stage u 1 (held_places s) [] [] → Live s → decode_of (encode_lower bytes) ≡ Ok bytes → asked_by (step live_config s (datagram bytes)).need ≡ a
    → Rests u s (queue_lines s m ++ line.datagram (encode_lower bytes) ∷ takes s (told bytes m.claimed (queued_place s) a)) (told bytes m.claimed (queued_place s) a)
heard_by u s e bytes m None opened tells stage live decoded asked = record {
  goes = subst (λ ls. Goes u (ls ++ line.datagram (encode_lower bytes) ∷ takes s (datagram bytes ∷ [])) (datagram bytes ∷ []) 1 (held_places (step live_config s (datagram bytes)).after) [] [])
      (sym (none_queued m.opened m.claimed (line.queue (queued_place s) 1 ∷ []) tells (tells opened)))
      (heard_at u s e bytes stage live decoded asked);
  live = (settled_datagram s bytes live).live;
}
heard_by u s e bytes m (Some b) opened tells stage live decoded asked = heard_asking u s e bytes m b m.claimed refl tells stage live decoded asked

heard_some : (u : Trace) (s : State) → state_of u ≡ s → (received : Option (List ℕ)) (m : Mark) → m.opened ≡ opened_in s received → (m.opened ≡ 0 → m.claimed ≡ false)
    → Stage u 1 (held_places s) [] [] → Live s → IsTellable received → Rests u s (heard_lines s received m) (heard s received m.claimed)
heard_some u s e None m opened tells stage live decoded = record { goes = no_line u 1 (held_places s) [] [] stage; live = live }
heard_some u s e (Some bytes) m opened tells stage live decoded =
    heard_by u s e bytes m (asked_by (step live_config s (datagram bytes)).need) opened tells stage live decoded refl

-- ---- turns

-- These lines lead from rest at one state to rest at another.
pub record Leaves (t : Trace) (lines : List ScriptLine) (told : List Input) (new : State) : Type 0 where
  pub goes : Goes t lines told 1 (held_places new) [] []
  pub live : Live new
  pub is : state_of goes.to ≡ new

turn_goes : (t : Trace) (s : State) → state_of t ≡ s → (n : Noted) → n.mark.opened ≡ opened_in s n.received → (n.mark.opened ≡ 0 → n.mark.claimed ≡ false)
    → Stage t 1 (held_places s) [] [] → Live s → IsTellable n.received → Leaves t (turn_lines s n) (told_in s n) (after_turn s n)
turn_goes t s e n opened tells stage live decoded =
    let h = heard_some t s e n.received n.mark opened tells stage live decoded in
    let mid : State = after_from live_config s (heard_in s n) in
    let there : state_of h.goes.to ≡ mid = state_after t h.goes.to (heard_in s n) h.goes.inputs ∙ ap (λ u. after_from live_config u (heard_in s n)) e in
    let k = tick_at h.goes.to mid there n.mark.moment h.goes.stage h.live in
    let all = goes_both t (heard_lines s n.received n.mark) (line.tick n.mark.moment ∷ takes mid (tick n.mark.moment ∷ []))
    (heard_in s n) (tick n.mark.moment ∷ []) 1 1 (held_places (step live_config mid (tick n.mark.moment)).after) (held_places mid) [] [] [] [] h.goes k in
    let ends : after_turn s n ≡ (step live_config mid (tick n.mark.moment)).after = after_from-append live_config s (heard_in s n) (tick n.mark.moment ∷ []) in
    let goes : Goes t (turn_lines s n) (told_in s n) 1 (held_places (after_turn s n)) [] [] =
    subst (λ u. Goes t (turn_lines s n) (told_in s n) 1 (held_places u) [] []) (sym ends) all in
    record {
      goes = goes;
      live = subst Live (sym ends) (settled_tick mid n.mark.moment h.live).live;
      is = state_after t goes.to (told_in s n) goes.inputs ∙ ap (λ u. after_from live_config u (told_in s n)) e;
    }

-- the inputs of these turns
abbrev pub turns_told : State → List Noted → List Input
turns_told s [] = []
turns_told s (n ∷ ns) = told_in s n ++ turns_told (after_turn s n) ns

pub told_leads : (s : State) (ns : List Noted) → after_from live_config s (turns_told s ns) ≡ after_turns s ns
told_leads s [] = refl
told_leads s (n ∷ ns) = after_from-append live_config s (told_in s n) (turns_told (after_turn s n) ns) ∙ told_leads (after_turn s n) ns

pub turns_go : (t : Trace) (s : State) → state_of t ≡ s → (ns : List Noted) → MarksTell s ns → AllByRecursion (λ (n : Noted). IsTellable n.received) ns
    → Stage t 1 (held_places s) [] [] → Live s → Leaves t (turns_lines s ns) (turns_told s ns) (after_turns s ns)
turns_go t s e [] marks decoded stage live =
    let stays = no_line t 1 (held_places s) [] [] stage in
    record { goes = stays; live = live; is = state_after t stays.to [] stays.inputs ∙ e }
turns_go t s e (n ∷ ns) marks decoded stage live =
    let first = turn_goes t s e n marks.0.0 marks.0.1 stage live decoded.0 in
    let rest = turns_go first.goes.to (after_turn s n) first.is ns marks.1 decoded.1 first.goes.stage first.live in
    let new : State = after_turns (after_turn s n) ns in
    let all : Goes t (turns_lines s (n ∷ ns)) (turns_told s (n ∷ ns)) 1 (held_places new) [] [] =
    goes_both t (turn_lines s n) (turns_lines (after_turn s n) ns) (told_in s n) (turns_told (after_turn s n) ns) 1 1
    (held_places new) (held_places (after_turn s n)) [] [] [] [] first.goes rest.goes in
    record {
      goes = all;
      live = rest.live;
      is = state_after t all.to (turns_told s (n ∷ ns)) all.inputs
          ∙ (ap (λ u. after_from live_config u (turns_told s (n ∷ ns))) e ∙ told_leads s (n ∷ ns));
    }

told_inputs : (s : State) (ns : List Noted) → turns_told s ns ++ stop ∷ [] ≡ run_inputs s ns
told_inputs s [] = refl
told_inputs s (n ∷ ns) =
    append_assoc (told_in s n) (turns_told (after_turn s n) ns) (stop ∷ []) ∙ ap (λ q. told_in s n ++ q) (told_inputs (after_turn s n) ns)

-- all turns, and the stop
pub run_goes : (t : Trace) (s : State) → state_of t ≡ s → (ns : List Noted) → MarksTell s ns → AllByRecursion (λ (n : Noted). IsTellable n.received) ns
    → Stage t 1 (held_places s) [] [] → Live s
    → Goes t (turns_lines s ns ++ stop_lines (after_turns s ns)) (run_inputs s ns) 0 (held_places (step live_config (after_turns s ns) stop).after) [] []
run_goes t s e ns marks decoded stage live =
    let turns = turns_go t s e ns marks decoded stage live in
    let new : State = after_turns s ns in
    let last : State = (step live_config new stop).after in
    let stopped = stop_at turns.goes.to new turns.is turns.goes.stage turns.live in
    subst (λ q. Goes t (turns_lines s ns ++ stop_lines new) q 0 (held_places last) [] []) (told_inputs s ns)
    (goes_both t (turns_lines s ns) (stop_lines new) (turns_told s ns) (stop ∷ []) 0 1 (held_places last) (held_places new) [] [] [] [] turns.goes stopped)
