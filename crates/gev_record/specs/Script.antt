-- The script that a recorder writes of a live run: what the receiver heard in each turn, as lines of a replay
-- script of three buffers, with a take for each block that these lines fill.
use Rattle.std.specs.Prelude.{◌==◌, ◌&&◌, ℕ, nat_lt, List, [], ◌∷◌, ◌++◌, map, replicate, Bool, true, false, Option, Some, None, if◌then◌else◌}
use Rattle.hex.specs.Hex.{encode_lower}
use Rattle.gev_script.specs.Lines as line
use Rattle.gev_script.specs.Lines.{ScriptLine, Config}
use Rattle.gev_script.specs.Spelling.{spelling}
use Rattle.script_runs.specs.Runs.{lines_text}
use Rattle.acquisition_machine.specs.declared.config.AcqConfig.{AcqConfig}
use Rattle.acquisition_machine.specs.Blocks.{Given, fills}
use Rattle.acquisition_machine.specs.Machine.{Input, datagram, claimed, tick, stop, State, step}
use Rattle.acquisition_machine.specs.Runs.{first_state, after_from, retired_from}
use Rattle.acquisition_machine.specs.TurnLaws.{asked_by, held}
use Rattle.acquisition_machine.specs.declared.mark.Mark.{Mark}
use Rattle.acquisition_machine.specs.Turns.{Noted, buffer_size, with_bytes}

-- how a live run's receiver is configured
abbrev pub live_config : AcqConfig
live_config = record { p = 1452; window = 2; timeout = 200; age = 20; rounds = 3 }

-- the same, as a script's header of version 1
abbrev pub live_header : Config
live_header = record { version = 1; p = 1452; window = 2; timeout = 200; age = 20; rounds = 3 }

-- ---- the places of three buffers

-- the places of the open blocks' buffers, lowest block first
abbrev pub held_places : State → List ℕ
held_places s = map (λ (g : Given). g.place) (held s.opens)

-- the place is among these
abbrev pub is_among : ℕ → List ℕ → Bool
is_among i [] = false
is_among i (j ∷ js) = if i == j then true else is_among i js

-- the lowest of the places 0 to 2 that isn't among these
abbrev pub lowest_free : List ℕ → ℕ
lowest_free is = if is_among 0 is then (if is_among 1 is then 2 else 1) else 0

-- the place that is queued for a block: the lowest that no open block holds before the datagram
abbrev pub queued_place : State → ℕ
queued_place s = lowest_free (held_places s)

-- ---- what the lines tell

-- the outcome of the claim for the buffer at this place
abbrev pub told_outcome : Bool → ℕ → Option Given
told_outcome false place = None
told_outcome true place = Some (record { place = place; size = buffer_size })

-- the datagram, and where a block asks for a buffer the outcome of the claim and the datagram again
abbrev pub told : List ℕ → Bool → ℕ → Option ℕ → List Input
told bytes claim place None = datagram bytes ∷ []
told bytes claim place (Some b) = datagram bytes ∷ claimed (told_outcome claim place) ∷ datagram bytes ∷ []

abbrev pub heard : State → Option (List ℕ) → Bool → List Input
heard s None claim = []
heard s (Some bytes) claim = told bytes claim (queued_place s) (asked_by (step live_config s (datagram bytes)).need)

-- what a turn tells before its moment, and all that it tells
abbrev pub heard_in : State → Noted → List Input
heard_in s t = heard s t.received t.mark.claimed

abbrev pub told_in : State → Noted → List Input
told_in s t = heard_in s t ++ tick t.mark.moment ∷ []

abbrev pub after_turn : State → Noted → State
after_turn s t = after_from live_config s (told_in s t)

abbrev pub after_turns : State → List Noted → State
after_turns s [] = s
after_turns s (t ∷ ts) = after_turns (after_turn s t) ts

-- all inputs of these turns, and a stop
abbrev pub run_inputs : State → List Noted → List Input
run_inputs s [] = stop ∷ []
run_inputs s (t ∷ ts) = told_in s t ++ run_inputs (after_turn s t) ts

-- ---- lines

-- a take for each block that is filled as these inputs come
abbrev pub takes : State → List Input → List ScriptLine
takes s q = map (λ x. line.take) (fills live_config.p (retired_from live_config s q))

-- the buffer at the queued place, where a block was opened with one
abbrev pub queue_lines : State → Mark → List ScriptLine
queue_lines s m = if nat_lt 0 m.opened && m.claimed then line.queue (queued_place s) 1 ∷ [] else []

abbrev pub heard_lines : State → Option (List ℕ) → Mark → List ScriptLine
heard_lines s None m = []
heard_lines s (Some bytes) m = queue_lines s m ++ line.datagram (encode_lower bytes) ∷ takes s (heard s (Some bytes) m.claimed)

-- the lines of a turn: what was heard, if anything was, and the moment
abbrev pub turn_lines : State → Noted → List ScriptLine
turn_lines s t =
    heard_lines s t.received t.mark
    ++ line.tick t.mark.moment ∷ takes (after_from live_config s (heard_in s t)) (tick t.mark.moment ∷ [])

abbrev pub turns_lines : State → List Noted → List ScriptLine
turns_lines s [] = []
turns_lines s (t ∷ ts) = turn_lines s t ++ turns_lines (after_turn s t) ts

abbrev pub stop_lines : State → List ScriptLine
stop_lines s = line.stop 0 ∷ takes s (stop ∷ [])

-- three buffers are announced, and the stream is started
abbrev pub first_lines : List ScriptLine
first_lines = replicate 3 (line.announce buffer_size) ++ line.start ∷ []

-- the lines between header and end
abbrev pub recorded_lines : List Noted → List ScriptLine
recorded_lines ts =
    first_lines ++ turns_lines first_state (map with_bytes ts) ++ stop_lines (after_turns first_state (map with_bytes ts))

-- the bytes of the script
abbrev pub script_of : List Noted → List ℕ
script_of ts = lines_text (map spelling (line.header live_header ∷ recorded_lines ts ++ line.end_of_script ∷ []))
