-- The receiver of a recorded run once more, between two inputs.
use Rattle.std.specs.Prelude.{◌≡◌, ℕ, ◌<◌, ◌≤◌, ◌&&◌, nat_lt, false, List, [], ◌∷◌, ◌++◌, Option, if◌then◌else◌}
use Rattle.std.specs.List.{AllByRecursion}
use Rattle.gev_script.specs.Lines as line
use Rattle.gev_script.specs.Lines.{ScriptLine}
use Rattle.board_machine.specs.Places.{times}
use Rattle.acquisition_machine.specs.Blocks.{Given}
use Rattle.acquisition_machine.specs.Machine.{Input, State}
use Rattle.acquisition_machine.specs.Runs.{After}
use Rattle.acquisition_machine.specs.TurnLaws.{held}
use Rattle.acquisition_machine.specs.declared.mark.Mark.{Mark}
use Rattle.acquisition_machine.specs.Turns.{Noted, buffer_size, with_bytes}
use Rattle.take_lines.specs.Players.{PlayerState, config_in, Took}
use Rattle.gev_record.specs.Script.{live_config, held_places}
use Rattle.gev_record.specs.declared.used.Used.{Used}
use Rattle.gev_record.specs.Places.{used_of}

-- at one of the three places, with a buffer of the run's size
pub record IsOwn (g : Given) : Type 0 where
  pub low : g.place < 3
  pub sized : g.size ≡ buffer_size

-- The receiver took these inputs; each place is in use where an open block has it, and no two have the same.
pub record StandsAt (player : PlayerState) (used : Used) (q : List Input) : Type 0 where
  pub took : Took player q
  pub config : config_in player ≡ live_config
  pub size : player.size ≡ buffer_size
  pub used_is : used ≡ used_of (held_places (After live_config q))
  pub each : AllByRecursion IsOwn (held (After live_config q).opens)
  pub once : (i : ℕ) → times i (held_places (After live_config q)) ≤ 1

-- However the inputs before were, these came, and the text grew by these lines.
pub record TakesInputs (player player_after : PlayerState) (used used_after : Used) (told : List Input → List Input) (text : List Input → List ℕ) (old new : List ℕ) : Type 0 where
  pub stands : (q : List Input) → StandsAt player used q → StandsAt player_after used_after (q ++ told q)
  pub said : (q : List Input) → StandsAt player used q → new ≡ old ++ text q

-- The place is one of the three, no open block's buffer has it, and a block waits for a buffer.
pub record IsFreeFor (place : ℕ) (q : List Input) : Type 0 where
  pub low : place < 3
  pub free : times place (held_places (After live_config q)) ≡ 0

-- the line that queues the buffer at this place, where a block was opened with one
abbrev pub queued_at : ℕ → Mark → List ScriptLine
queued_at place m = if nat_lt 0 m.opened && m.claimed then line.queue place 1 ∷ [] else []

-- a turn with these bytes, unless there is none of them
abbrev pub turn_of : Option (List ℕ) → Mark → Noted
turn_of received mark = with_bytes (record { received = received; mark = mark })

-- The receiver stands in this state, as some inputs left it.
pub record StandsIn (player : PlayerState) (used : Used) (s : State) : Type 0 where
  pub inputs : List Input
  pub stands : StandsAt player used inputs
  pub is : After live_config inputs ≡ s

-- no place is in use
abbrev pub none_used : Used
none_used = record { first = false; second = false; third = false }
