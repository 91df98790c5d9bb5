-- How many lines a recorded script has.
use Rattle.std.proofs.Common.{◌≡◌, ℕ, ◌+◌, ◌*◌, ◌≤◌, ◌&&◌, nat_lt, Bool, true, false, List, [], ◌∷◌, ◌++◌, length, map, if◌then◌else◌, refl, sym, ap, subst, ◌∙◌, arith, length-append}
use Rattle.std.specs.Prelude.{Option, Some, None}
use Rattle.std.proofs.lemmas.List.{length-map}
use Rattle.hex.specs.Hex.{encode_lower}
use Rattle.gev_script.specs.Lines as line
use Rattle.acquisition_machine.specs.declared.retired.Retired.{Retired}
use Rattle.acquisition_machine.specs.Blocks.{Given}
use Rattle.acquisition_machine.specs.Machine.{Input, datagram, claimed, tick, stop, State, step}
use Rattle.acquisition_machine.specs.Runs.{first_state, After, after_from}
use Rattle.acquisition_machine.specs.TurnLaws.{asked_by, held, given_of}
use Rattle.acquisition_machine.proofs.Buffers.{no_buffer_is_lost}
use Rattle.acquisition_machine.proofs.Joining.{after_from-append}
use Rattle.acquisition_machine.proofs.Window.{blocks_are_in_order}
use Rattle.acquisition_machine.specs.declared.mark.Mark.{Mark}
use Rattle.acquisition_machine.specs.Turns.{Noted, with_bytes}
use Rattle.gev_record.specs.Script.{live_config, queued_place, told_outcome, told, heard, heard_in, told_in, after_turn, after_turns, takes, queue_lines, heard_lines, turn_lines, turns_lines, stop_lines, first_lines, recorded_lines}
use Rattle.gev_record.proofs.Holding.{BacksOf, came_back, few_held}
use Rattle.gev_record.proofs.TurnLines.{take_each, takes_one}
use Rattle.gev_record.proofs.ClaimLines.{given_state, takes_three}

-- ---- what comes back at one input

few_back : (q : List Input) (s : State) (i : Input) → After live_config q ≡ s → BacksOf s i → length (came_back s i) ≤ 2
few_back q s i reached backs =
    let gone : List Given = map given_of (came_back s i) in
    let left : List Given = held (step live_config s i).after.opens in
    let room : length s.opens ≤ 2 = subst (λ (u : State). length u.opens ≤ 2) reached (blocks_are_in_order live_config q (omega arith)).room in
    let fewer : length (held s.opens) ≤ length s.opens = few_held s.opens in
    let sum : length gone + length left ≡ length (held s.opens) = sym (length-append gone left) ∙ ap length backs in
    let same : length gone ≡ length (came_back s i) = length-map (came_back s i) given_of in
    omega (arith, room, fewer, sum, same)

back_datagram : (q : List Input) (s : State) (bytes : List ℕ) → After live_config q ≡ s → length (came_back s (datagram bytes)) ≤ 2
back_datagram q s bytes reached =
    few_back q s (datagram bytes) reached (subst (λ u. BacksOf u (datagram bytes)) reached (no_buffer_is_lost live_config q (datagram bytes) (omega arith)))

back_tick : (q : List Input) (s : State) (moment : ℕ) → After live_config q ≡ s → length (came_back s (tick moment)) ≤ 2
back_tick q s moment reached =
    few_back q s (tick moment) reached (subst (λ u. BacksOf u (tick moment)) reached (no_buffer_is_lost live_config q (tick moment) (omega arith)))

back_stop : (q : List Input) (s : State) → After live_config q ≡ s → length (came_back s stop) ≤ 2
back_stop q s reached = few_back q s stop reached (subst (λ u. BacksOf u stop) reached (no_buffer_is_lost live_config q stop (omega arith)))

reached_on : (q : List Input) (s : State) (more : List Input) → After live_config q ≡ s → After live_config (q ++ more) ≡ after_from live_config s more
reached_on q s more e = after_from-append live_config first_state q more ∙ ap (λ u. after_from live_config u more) e

-- ---- takes

few_takes : (s : State) (i : Input) → length (came_back s i) ≤ 2 → length (takes s (i ∷ [])) ≤ 2
few_takes s i few =
    let one : length (takes s (i ∷ [])) ≡ length (take_each (came_back s i)) = ap length (takes_one s i) in
    let same : length (take_each (came_back s i)) ≡ length (came_back s i) = length-map (came_back s i) (λ (x : Retired). line.take) in
    omega (arith, few, one, same)

told_takes : (q : List Input) (s : State) (bytes : List ℕ) (claim : Bool) (a : Option ℕ) → After live_config q ≡ s → length (takes s (told bytes claim (queued_place s) a)) ≤ 4
told_takes q s bytes claim None reached = let few = few_takes s (datagram bytes) (back_datagram q s bytes reached) in omega (arith, few)
told_takes q s bytes claim (Some b) reached =
    let p : ℕ = queued_place s in
    let mid : List Input = datagram bytes ∷ claimed (told_outcome claim p) ∷ [] in
    let xs : List Retired = came_back s (datagram bytes) in
    let ys : List Retired = came_back (given_state s bytes claim p) (datagram bytes) in
    let first : length xs ≤ 2 = back_datagram q s bytes reached in
    let second : length ys ≤ 2 = back_datagram (q ++ mid) (given_state s bytes claim p) bytes (reached_on q s mid reached) in
    let all : length (takes s (told bytes claim p (Some b))) ≡ length (take_each (xs ++ ys)) = ap length (takes_three s bytes claim p) in
    let same : length (take_each (xs ++ ys)) ≡ length (xs ++ ys) = length-map (xs ++ ys) (λ (x : Retired). line.take) in
    let sum : length (xs ++ ys) ≡ length xs + length ys = length-append xs ys in
    omega (arith, first, second, all, same, sum)

-- ---- lines

few_queues : (s : State) (m : Mark) → length (queue_lines s m) ≤ 1
few_queues s m = go (nat_lt 0 m.opened && m.claimed) where
  go : (v : Bool) → length (if v then line.queue (queued_place s) 1 ∷ [] else []) ≤ 1
  go true = omega arith
  go false = omega arith

few_heard : (q : List Input) (s : State) (received : Option (List ℕ)) (m : Mark) → After live_config q ≡ s → length (heard_lines s received m) ≤ 6
few_heard q s None m reached = omega arith
few_heard q s (Some bytes) m reached =
    let queues = few_queues s m in
    let takes_few : length (takes s (heard s (Some bytes) m.claimed)) ≤ 4 =
    told_takes q s bytes m.claimed (asked_by (step live_config s (datagram bytes)).need) reached in
    let sum : length (heard_lines s (Some bytes) m) ≡ length (queue_lines s m) + length (line.datagram (encode_lower bytes) ∷ takes s (heard s (Some bytes) m.claimed)) =
    length-append (queue_lines s m) (line.datagram (encode_lower bytes) ∷ takes s (heard s (Some bytes) m.claimed)) in
    omega (arith, queues, takes_few, sum)

few_turn : (q : List Input) (s : State) (n : Noted) → After live_config q ≡ s → length (turn_lines s n) ≤ 9
few_turn q s n reached =
    let mid : State = after_from live_config s (heard_in s n) in
    let moment : ℕ = n.mark.moment in
    let first = few_heard q s n.received n.mark reached in
    let second : length (takes mid (tick moment ∷ [])) ≤ 2 =
    few_takes mid (tick moment) (back_tick (q ++ heard_in s n) mid moment (reached_on q s (heard_in s n) reached)) in
    let sum : length (turn_lines s n) ≡ length (heard_lines s n.received n.mark) + length (line.tick moment ∷ takes mid (tick moment ∷ [])) =
    length-append (heard_lines s n.received n.mark) (line.tick moment ∷ takes mid (tick moment ∷ [])) in
    omega (arith, first, second, sum)

record FewLines (s : State) (ns : List Noted) : Type 0 where
  few : length (turns_lines s ns) ≤ 9 * length ns
  inputs : List Input
  reached : After live_config inputs ≡ after_turns s ns

few_turns : (q : List Input) (s : State) (ns : List Noted) → After live_config q ≡ s → FewLines s ns
few_turns q s [] reached = record { few = omega arith; inputs = q; reached = reached }
few_turns q s (n ∷ ns) reached =
    let first = few_turn q s n reached in
    let rest = few_turns (q ++ told_in s n) (after_turn s n) ns (reached_on q s (told_in s n) reached) in
    let more : length (turns_lines (after_turn s n) ns) ≤ 9 * length ns = rest.few in
    let sum : length (turns_lines s (n ∷ ns)) ≡ length (turn_lines s n) + length (turns_lines (after_turn s n) ns) =
    length-append (turn_lines s n) (turns_lines (after_turn s n) ns) in
    record { few = omega (arith, first, more, sum); inputs = rest.inputs; reached = rest.reached }

pub few_lines : (ts : List Noted) → length (recorded_lines ts) ≤ 7 + 9 * length ts
few_lines ts =
    let ns : List Noted = map with_bytes ts in
    let turns = few_turns [] first_state ns refl in
    let last : State = after_turns first_state ns in
    let few : length (turns_lines first_state ns) ≤ 9 * length ns = turns.few in
    let same : length ns ≡ length ts = length-map ts with_bytes in
    let stops : length (takes last (stop ∷ [])) ≤ 2 = few_takes last stop (back_stop turns.inputs last turns.reached) in
    let sum : length (recorded_lines ts) ≡ 4 + length (turns_lines first_state ns ++ stop_lines last) =
    length-append first_lines (turns_lines first_state ns ++ stop_lines last) in
    let parts : length (turns_lines first_state ns ++ stop_lines last) ≡ length (turns_lines first_state ns) + length (stop_lines last) =
    length-append (turns_lines first_state ns) (stop_lines last) in
    omega (arith, few, same, stops, sum, parts)
