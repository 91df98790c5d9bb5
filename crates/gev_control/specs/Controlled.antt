-- The control part of a turn: what comes on the control link, what the client makes of it, and what it sends.
use Rattle.std.specs.Prelude.{◌≡◌, ◌⊎◌, ⊤, ℕ, Bool, true, false, List, [], ◌∷◌, ◌++◌, Option, Some, None, IsSome}
use Rattle.client_machine.specs.declared.outcome.Outcome.{Outcome}
use Rattle.client_machine.specs.declared.outcome.Outcome.TheVariants.{Waiting, Idle, Acked, Refused, NoAnswer}
use Rattle.client_machine.specs.Machine.{Client, ticked, received, taken, to_send}
use Rattle.client_machine.specs.Events.{Event, receives, ticks, takes}
use Rattle.gev_links.specs.Links.{Address, Answer, nothing, failed, came, Adds}
use Rattle.gev_links.specs.Moments.{TellsEach}
use Rattle.gev_control.specs.declared.turn_end.TurnEnd.{TurnEnd}
use Rattle.gev_control.specs.declared.turn_end.TurnEnd.TheVariants as ends
use Rattle.gev_control.specs.Sends.{addressed}

-- What the client goes through in a turn, first in first, how it is then, what it has to send, and how the turn
-- ends.
pub record ControlTurn : Type 0 where
  pub events : List Event
  pub state : Client
  pub send : Option (List ℕ)
  pub end : TurnEnd

abbrev pub ends_here : List Event → Client → TurnEnd → ControlTurn
ends_here es s end = record { events = es; state = s; send = None; end = end }

abbrev pub sends_then : List Event → Client → ControlTurn
sends_then es s = record { events = es ++ takes ∷ []; state = taken s; send = to_send s.asked; end = ends.GoesOn }

-- the client ticked: where its command had no answer the turn ends, else it sends what waits
abbrev pub after_tick : List Event → Client → Outcome → ControlTurn
after_tick es s (Waiting req) = sends_then es s
after_tick es s Idle = sends_then es s
after_tick es s Acked = sends_then es s
after_tick es s (Refused status) = sends_then es s
after_tick es s (NoAnswer req) = ends_here es s (ends.NoAnswer req)

abbrev pub ticks_turn : List Event → Client → ℕ → ControlTurn
ticks_turn es s moment = after_tick (es ++ ticks moment ∷ []) (ticked s moment).client (ticked s moment).outcome

-- something came: where it refused the command the turn ends, else the client ticks
abbrev pub after_receive : List Event → Client → Outcome → ℕ → ControlTurn
after_receive es s (Waiting req) moment = ticks_turn es s moment
after_receive es s Idle moment = ticks_turn es s moment
after_receive es s Acked moment = ticks_turn es s moment
after_receive es s (Refused status) moment = ends_here es s (ends.Refused status)
after_receive es s (NoAnswer req) moment = ticks_turn es s moment

abbrev pub hears_turn : Client → List ℕ → ℕ → ControlTurn
hears_turn s bytes moment = after_receive (receives bytes moment ∷ []) (received s bytes moment).client (received s bytes moment).outcome moment

abbrev pub control_turn : Client → Answer → ℕ → ControlTurn
control_turn s failed moment = ends_here [] s ends.Fault
control_turn s nothing moment = ticks_turn [] s moment
control_turn s (came bytes peer) moment = hears_turn s bytes moment

-- the control part of a turn; None: a link failed before it
abbrev pub control_of : Client → Option Answer → ℕ → ControlTurn
control_of s None moment = ends_here [] s ends.Fault
control_of s (Some answer) moment = control_turn s answer moment

-- The turn ends as the client says, or by a fault of a send.
abbrev pub EndsAs : TurnEnd → TurnEnd → Type 0
EndsAs ends.GoesOn end = end ≡ ends.GoesOn
EndsAs ends.Fault end = (end ≡ ends.GoesOn) ⊎ (end ≡ ends.Fault)
EndsAs (ends.NoAnswer req) end = end ≡ ends.NoAnswer req
EndsAs (ends.Refused status) end = end ≡ ends.Refused status

abbrev pub listed : {A : Type 0} → Option A → List A
listed None = []
listed (Some x) = x ∷ []

-- what was sent of what the client had to send
abbrev pub sent_by : TurnEnd → Option (List ℕ) → List (List ℕ)
sent_by ends.GoesOn send = listed send
sent_by ends.Fault send = []
sent_by (ends.NoAnswer req) send = []
sent_by (ends.Refused status) send = []

-- a turn that ends by a fault had something to send
abbrev pub HadToSend : TurnEnd → Option (List ℕ) → Type 0
HadToSend ends.GoesOn send = ⊤
HadToSend ends.Fault send = IsSome send
HadToSend (ends.NoAnswer req) send = ⊤
HadToSend (ends.Refused status) send = ⊤

abbrev pub is_fault : TurnEnd → Bool
is_fault ends.GoesOn = false
is_fault ends.Fault = true
is_fault (ends.NoAnswer req) = false
is_fault (ends.Refused status) = false

-- The client did this turn, and what it had to send was sent, but for a fault.
pub record Does (t : ControlTurn) (camera : Address) (end : TurnEnd) (client : Client) (old new : Option (List (Address × List ℕ))) : Type 0 where
  pub state : client ≡ t.state
  pub ends_as : EndsAs end t.end
  pub sent : Adds old new (addressed camera (sent_by end t.send))

-- One receive, unless a link failed before, and what the client made of it.
pub record ClientTurn (camera : Address) (s : Client) (moment : ℕ) (was : Bool) (end : TurnEnd) (client : Client)
    (received received_after : Option (List Answer)) (old new : Option (List (Address × List ℕ))) : Type 0 where
  pub heard : Option Answer
  pub lost : was ≡ true → heard ≡ None
  pub told : TellsEach received received_after (listed heard)
  pub does : Does (control_of s heard moment) camera end client old new

-- all was well, or a call failed
abbrev pub IsPlainEnd : TurnEnd → Type 0
IsPlainEnd end = (end ≡ ends.GoesOn) ⊎ (end ≡ ends.Fault)
