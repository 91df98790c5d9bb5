-- Turns of a camera's reader: what came from outside, what the receiver was told, and what was sent.
use Rattle.std.specs.Prelude.{◌≡◌, ℕ, ◌+◌, ◌-◌, ◌^◌, min, Bool, List, ◌++◌}
use Rattle.board_machine.specs.declared.events.Event.{Event}
use Rattle.acquisition_machine.specs.declared.config.AcqConfig.{AcqConfig}
use Rattle.acquisition_machine.specs.Machine.{Input}
use Rattle.acquisition_machine.specs.Runs.{After}
use Rattle.gev_links.specs.Links.{Address, Adds}
use Rattle.gev_links.specs.Moments.{Tells, TellsEach}
use Rattle.buffer_words.specs.Passes.{Token}
use Rattle.buffer_words.specs.Several.{EntersEach}
use Rattle.board_calls.specs.declared.mode.Mode.{Mode}
use Rattle.gev_control.specs.declared.turn_end.TurnEnd.{TurnEnd}
use Rattle.gev_control.specs.Sends.{addressed}
use Rattle.gev_control.specs.Controlled.{listed, control_of}
use Rattle.gev_acq.specs.declared.turn.Turn.{Turn}
use Rattle.gev_acq.specs.Claims.{Claims, ServesOn}
use Rattle.gev_acq.specs.Turns.{Turned, Outside, inputs_of, Notes}
use Rattle.gev_acq.specs.Acquired.{inputs_in, heards_in, sends_in, moments_in, ServesTurns, NoteEach}
use Rattle.packet_requests.specs.declared.id_mode.IdMode.{IdMode}
use Rattle.camera_reader.specs.Hearing.{Arrival, is_datagram, heard_answer, top_behind, refused_of, answers_of}
use Rattle.camera_reader.specs.declared.receiver_clock.ReceiverClock.{ReceiverClock}
use Rattle.camera_reader.specs.ReceiverClock.{told_with, read_with}
use Rattle.camera_reader.specs.Asking.{IsControlled, ControlEach}

-- ---- one turn

-- The turn was made: one receive on the stream's link, one moment, its inputs served, and its control part.
pub record TakesTurn (mode : Mode) (c : AcqConfig) (ids : IdMode) (camera : Address) (Old New : List Input → Type 0) (o n : Outside) (t : Turned) (a : Arrival)
    (s u : Token) : Type 0 where
  pub serves : ServesOn mode c Old New (inputs_of t) s u
  pub entry : Turn
  pub notes : (q : List Input) → Old q → Notes c q t entry
  pub controlled : (q : List Input) → Old q → IsControlled ids c q o.client t
  pub client : n.client ≡ (control_of o.client t.heard t.moment).state
  pub received : Tells o.received n.received a.answer
  pub told : Tells o.told n.told t.moment
  pub heard : TellsEach o.heard n.heard (listed t.heard)
  pub sent : Adds o.sent n.sent (addressed camera t.sent)

-- The receiver heard what arrived: the greatest block, and the count of what widening refused, before and after.
pub record HearsTurn (ids : IdMode) (top refused top_after refused_after : ℕ) (t : Turned) (a : Arrival) : Type 0 where
  pub moment : a.moment ≡ t.moment
  pub heard : t.answer ≡ heard_answer ids top a.answer
  pub greatest : top_after ≡ top_behind ids top a.answer
  pub counted : refused_after ≡ min (refused + refused_of ids top a.answer) (2 ^ 64 - 1)

-- The same of some turn of this moment that ended so, told by the receiver's clock; in it a datagram came, or none.
pub record TakesOne (mode : Mode) (c : AcqConfig) (ids : IdMode) (camera : Address) (Old New : List Input → Type 0) (p q : ReceiverClock)
    (top refused top_after refused_after : ℕ) (o n : Outside) (moment : ℕ) (came : Bool) (end : TurnEnd) (s u : Token) : Type 0 where
  pub turned : Turned
  pub arrival : Arrival
  pub ended : turned.end ≡ end
  pub told : turned.told ≡ told_with p arrival
  pub read : q ≡ read_with p arrival
  pub hears : HearsTurn ids top refused top_after refused_after turned arrival
  pub takes : TakesTurn mode c ids camera Old New o n turned arrival s u
  pub moment_is : moment ≡ arrival.moment
  pub came_is : came ≡ is_datagram arrival.answer

-- ---- turns

-- These turns were made, and nothing else: the run word was 1 in each, and its inputs were served, whatever inputs the
-- receiver stood for; the links and the clock told just what the turns received, sent and read.
pub record TurnsOn (mode : Mode) (c : AcqConfig) (ids : IdMode) (camera : Address) (Old New : List Input → Type 0) (o n : Outside) (made : List Turned)
    (arrivals : List Arrival) (s u : Token) : Type 0 where
  pub events : List Event
  pub enters : EntersEach s events u
  pub serves : (q : List Input) → Old q → ServesTurns mode c (After c q) made events
  pub stands : (q : List Input) → Old q → New (q ++ inputs_in made)
  pub claims : Claims mode (inputs_in made) s u
  pub entries : List Turn
  pub notes : (q : List Input) → Old q → NoteEach c q made entries
  pub controlled : (q : List Input) → Old q → ControlEach ids c q o.client made n.client
  pub received : TellsEach o.received n.received (answers_of arrivals)
  pub heard : TellsEach o.heard n.heard (heards_in made)
  pub sent : Adds o.sent n.sent (addressed camera (sends_in made))
  pub told : TellsEach o.told n.told (moments_in made)
