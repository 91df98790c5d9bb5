-- What is true of turns of the reader, whatever they were.
use Rattle.std.specs.Prelude.{◌≡◌, ℕ, List, [], ◌∷◌, ◌++◌, map}
use Rattle.board_machine.specs.declared.events.Event.{Event}
use Rattle.board_machine.specs.Adding.{entries_of}
use Rattle.client_machine.specs.Machine.{Client}
use Rattle.client_machine.specs.Events.{Event as ClientEvent, after as after_events}
use Rattle.acquisition_machine.specs.declared.config.AcqConfig.{AcqConfig}
use Rattle.acquisition_machine.specs.Blocks.{fills}
use Rattle.acquisition_machine.specs.Machine.{Input, stop, State}
use Rattle.acquisition_machine.specs.Runs.{first_state, After, retired_from}
use Rattle.block_fills.specs.Fills.{tried, item_of, retired_items}
use Rattle.gev_control.specs.Controlled.{control_of}
use Rattle.board_calls.specs.declared.mode.Mode.{Mode}
use Rattle.gev_acq.specs.Serving.{Serves}
use Rattle.gev_acq.specs.Turns.{Turned}
use Rattle.gev_acq.specs.Acquired.{inputs_in, ServesTurns, ControlEach}

-- What the events that serve inputs put into the output, or try to, are the blocks that retire with a buffer, in
-- order.
abbrev pub ServedFillsAreRetired : Type 0
ServedFillsAreRetired =
    (mode : Mode) (k : ℕ) (c : AcqConfig) (s : State) (is : List Input) (es : List Event) → Serves mode c s is es
    → tried (entries_of k es) ≡ map item_of (fills c.p (retired_from c s is))

-- The same of turns.
abbrev pub TurnsFillTheRetired : Type 0
TurnsFillTheRetired =
    (mode : Mode) (k : ℕ) (c : AcqConfig) (s : State) (made : List Turned) (es : List Event) → ServesTurns mode c s made es
    → tried (entries_of k es) ≡ map item_of (fills c.p (retired_from c s (inputs_in made)))

-- A new receiver's turns and then its stop: what they put into the output is all that their inputs retire.
abbrev pub ReadersFillTheRetired : Type 0
ReadersFillTheRetired =
    (mode : Mode) (k : ℕ) (c : AcqConfig) (made : List Turned) (es fs : List Event) → ServesTurns mode c first_state made es
    → Serves mode c (After c (inputs_in made)) (stop ∷ []) fs
    → tried (entries_of k (es ++ fs)) ≡ retired_items c (inputs_in made ++ stop ∷ [])

-- what the client goes through in these turns, first in first
abbrev pub client_events : Client → List Turned → List ClientEvent
client_events s [] = []
client_events s (t ∷ ts) = (control_of s t.heard t.moment).events ++ client_events (control_of s t.heard t.moment).state ts

-- events, the latest of which comes first, and then these, first in first
abbrev pub and_then : List ClientEvent → List ClientEvent → List ClientEvent
and_then es [] = es
and_then es (x ∷ xs) = and_then (x ∷ es) xs

-- A client that is as some events left it is after the turns as these events left it and then the turns'.
abbrev pub ClientGoesThroughTurns : Type 0
ClientGoesThroughTurns =
    (limit : ℕ) (c : AcqConfig) (q : List Input) (s u : Client) (made : List Turned) (es : List ClientEvent) → ControlEach c q s made u
    → s ≡ after_events limit es → u ≡ after_events limit (and_then es (client_events s made))
