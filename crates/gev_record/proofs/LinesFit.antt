-- The lines of a recorded script are lines that a script may have.
use Rattle.std.proofs.Common.{◌≡◌, ℕ, ◌*◌, ◌/◌, ◌%◌, ◌<◌, ◌≤◌, ◌==◌, ◌&&◌, ◌^◌, nat_le, nat_lt, Bool, true, false, List, [], ◌∷◌, ◌++◌, length, map, get_or, if◌then◌else◌, refl, arith, lit<, le-leb}
use Rattle.std.specs.Prelude.{Option, Some, None}
use Rattle.std.specs.List.{AllByRecursion, list_all}
use Rattle.std.proofs.lemmas.List.Sums.{AllPass-from_list_all}
use Rattle.hex.specs.Hex.{encode_with, encode_lower, lower_digits}
use Rattle.hex.proofs.HexLemmas.{length-encode_with}
use Rattle.gev_script.specs.Lines as line
use Rattle.gev_script.specs.Lines.{ScriptLine}
use Rattle.gev_script.specs.Numbers.{is_hex_digit}
use Rattle.gev_script.specs.Spelling.{IsDatagram, IsScriptLine}
use Rattle.acquisition_machine.specs.Machine.{State}
use Rattle.acquisition_machine.proofs.Order.{all_append}
use Rattle.acquisition_machine.specs.declared.retired.Retired.{Retired}
use Rattle.acquisition_machine.specs.Blocks.{fills}
use Rattle.acquisition_machine.specs.Runs.{retired_from, first_state, after_from}
use Rattle.acquisition_machine.specs.Machine.{tick, stop}
use Rattle.acquisition_machine.specs.declared.mark.Mark.{Mark}
use Rattle.acquisition_machine.specs.Turns.{Noted, with_byte, with_bytes}
use Rattle.gev_record.specs.Script.{live_config, held_places, is_among, lowest_free, queued_place, heard, heard_in, after_turn, after_turns, takes, queue_lines, heard_lines, turn_lines, turns_lines, stop_lines, first_lines, recorded_lines}
use Rattle.gev_record.specs.Marks.{IsReceived, HasWidths}

abbrev AreLines : List ScriptLine → Type 0
AreLines ls = AllByRecursion IsScriptLine ls

-- ---- digits

digit_below : (n : ℕ) → n < 16 → is_hex_digit (get_or lower_digits n 0) ≡ true
digit_below n h = AllPass-from_list_all is_hex_digit lower_digits refl n 0 h

all_digits : (bytes : List ℕ) → AllByRecursion (λ b. b < 256) bytes → list_all is_hex_digit (encode_lower bytes) ≡ true
unfolding encode_with
all_digits [] all = refl
all_digits (b ∷ bytes) all =
    let low : b < 256 = all.0 in
    let first : b / 16 < 16 = omega arith in
    let second : b % 16 < 16 = omega arith in
    rw (digit_below (b / 16) first, digit_below (b % 16) second) (all_digits bytes all.1)

pub is_datagram : (b : ℕ) (bytes : List ℕ) → AllByRecursion (λ b. b < 256) (b ∷ bytes) → length (b ∷ bytes) ≤ 1600 → IsDatagram (encode_lower (b ∷ bytes))
is_datagram b bytes all few =
    let len : length (encode_lower (b ∷ bytes)) ≡ 2 * length (b ∷ bytes) = length-encode_with lower_digits (b ∷ bytes) in
    let some : 1 ≤ length (encode_lower (b ∷ bytes)) = omega (arith, len) in
    let even : length (encode_lower (b ∷ bytes)) % 2 ≡ 0 = omega (arith, len) in
    record {
      hex = joined (length (encode_lower (b ∷ bytes))) (list_all is_hex_digit (encode_lower (b ∷ bytes))) some even (all_digits (b ∷ bytes) all);
      short = omega (arith, len, few);
    }
  where
    joined : (n : ℕ) (v : Bool) → 1 ≤ n → n % 2 ≡ 0 → v ≡ true → (nat_le 1 n && n % 2 == 0 && v) ≡ true
    joined n v some even all = rw (le-leb 1 n some, even, all) refl

-- ---- lines

takes_fit : (xs : List Retired) → AreLines (map (λ x. line.take) xs)
takes_fit [] = tt
takes_fit (x ∷ xs) = (tt, takes_fit xs)

small_place : (is : List ℕ) → lowest_free is < 2 ^ 8
small_place is = go (is_among 0 is) (is_among 1 is) where
  go : (v w : Bool) → (if v then (if w then 2 else 1) else 0) < 2 ^ 8
  go false w = lit< tt
  go true false = lit< tt
  go true true = lit< tt

queue_fits : (s : State) (m : Mark) → AreLines (queue_lines s m)
queue_fits s m = go (nat_lt 0 m.opened && m.claimed) where
  go : (v : Bool) → AreLines (if v then line.queue (queued_place s) 1 ∷ [] else [])
  go true = (record { small_place = small_place (held_places s); small_generation = lit< tt }, tt)
  go false = tt

heard_fits : (s : State) (received : Option (List ℕ)) (m : Mark) → IsReceived received → AreLines (heard_lines s (with_byte received) m)
heard_fits s None m w = tt
heard_fits s (Some []) m w = tt
heard_fits s (Some (b ∷ bytes)) m w =
    all_append IsScriptLine (queue_lines s m) (line.datagram (encode_lower (b ∷ bytes)) ∷ takes s (heard s (Some (b ∷ bytes)) m.claimed)) (queue_fits s m)
    (is_datagram b bytes w.0 w.1, takes_fit (fills live_config.p (retired_from live_config s (heard s (Some (b ∷ bytes)) m.claimed))))

turn_fits : (s : State) (n : Noted) → HasWidths n → AreLines (turn_lines s (with_bytes n))
turn_fits s n w =
    let mid : State = after_from live_config s (heard_in s (with_bytes n)) in
    all_append IsScriptLine (heard_lines s (with_byte n.received) n.mark) (line.tick n.mark.moment ∷ takes mid (tick n.mark.moment ∷ []))
    (heard_fits s n.received n.mark w.received)
    (w.moment, takes_fit (fills live_config.p (retired_from live_config mid (tick n.mark.moment ∷ []))))

turns_fit : (s : State) (ns : List Noted) → AllByRecursion HasWidths ns → AreLines (turns_lines s (map with_bytes ns))
turns_fit s [] all = tt
turns_fit s (n ∷ ns) all =
    all_append IsScriptLine (turn_lines s (with_bytes n)) (turns_lines (after_turn s (with_bytes n)) (map with_bytes ns))
    (turn_fits s n all.0) (turns_fit (after_turn s (with_bytes n)) ns all.1)

stop_fits : (s : State) → AreLines (stop_lines s)
stop_fits s = (lit< tt, takes_fit (fills live_config.p (retired_from live_config s (stop ∷ []))))

pub lines_fit : (ts : List Noted) → AllByRecursion HasWidths ts → AreLines (recorded_lines ts)
lines_fit ts all =
    let ns : List Noted = map with_bytes ts in
    all_append IsScriptLine first_lines (turns_lines first_state ns ++ stop_lines (after_turns first_state ns))
    (lit< tt, (lit< tt, (lit< tt, (tt, tt))))
    (all_append IsScriptLine (turns_lines first_state ns) (stop_lines (after_turns first_state ns)) (turns_fit first_state ts all) (stop_fits (after_turns first_state ns)))
