-- What the reader of a camera's stream did: turns by the receiver's clock, until the run was stopped, the camera was
-- silent, or its control ended.
use Rattle.std.specs.Prelude.{◌≡◌, ℕ, Bool, true, false, List, [], ◌∷◌, ◌++◌, Option, Some, None}
use Rattle.gev_links.specs.Links.{Address}
use Rattle.acquisition_machine.specs.declared.config.AcqConfig.{AcqConfig}
use Rattle.acquisition_machine.specs.Machine.{Input}
use Rattle.buffer_words.specs.Passes.{Token}
use Rattle.board_calls.specs.declared.mode.Mode.{Mode}
use Rattle.gev_acq.specs.Turns.{Turned, Outside}
use Rattle.gev_acq.specs.Acquired.{FindsStopped}
use Rattle.gev_acq.specs.Moments.{told_in}
use Rattle.packet_requests.specs.declared.id_mode.IdMode.{IdMode}
use Rattle.camera_control.specs.declared.control_end.ControlEnd.{ControlEnd}
use Rattle.first_leader.specs.Waiting.{is_link_fault}
use Rattle.camera_reader.specs.declared.reader_end.ReaderEnd.{ReaderEnd}
use Rattle.camera_reader.specs.declared.reader_end.ReaderEnd.TheVariants.{Stopped, Silent, Ended}
use Rattle.camera_reader.specs.Hearing.{Arrival, is_datagram, HearsEach}
use Rattle.camera_reader.specs.declared.receiver_clock.ReceiverClock.{ReceiverClock}
use Rattle.camera_reader.specs.ReceiverClock.{told_with, read_with, receiver_moments}
use Rattle.camera_reader.specs.Listening.{is_silent_behind, begins_listening, listened_to, NoneSilent, turn_cause, client_after, NoneEnded}
use Rattle.camera_reader.specs.Turns.{HearsTurn, TakesTurn, TurnsOn}

-- A turn was made, told by the receiver's clock, which ended control so, if it did; its moment, and whether a datagram came.
pub record TakesCameraTurn (mode : Mode) (c : AcqConfig) (ids : IdMode) (camera : Address) (Old New : List Input → Type 0) (p q : ReceiverClock)
    (top refused top_after refused_after : ℕ) (o n : Outside) (moment : ℕ) (came : Bool) (cause : Option ControlEnd) (s u : Token) : Type 0 where
  pub turned : Turned
  pub arrival : Arrival
  pub told : turned.told ≡ told_with p arrival
  pub read : q ≡ read_with p arrival
  pub hears : HearsTurn ids top refused top_after refused_after turned arrival
  pub takes : TakesTurn mode c ids camera Old New o n turned arrival s u
  pub moment_is : moment ≡ arrival.moment
  pub came_is : came ≡ is_datagram arrival.answer
  pub cause_is : turn_cause o.client turned ≡ cause

-- These turns were made from this moment on, each told by the receiver's clock, and none of them ended the reader. This
-- arrived in them, and so many datagrams were refused in widening.
pub record KeepsOn (mode : Mode) (c : AcqConfig) (ids : IdMode) (camera : Address) (silence begin : ℕ) (Old New : List Input → Type 0) (o n : Outside)
    (refused : ℕ) (made : List Turned) (arrivals : List Arrival) (s u : Token) : Type 0 where
  pub on : TurnsOn mode c ids camera Old New o n made arrivals s u
  pub hears : HearsEach ids made arrivals refused
  pub told : told_in made ≡ receiver_moments begin arrivals
  pub client : n.client ≡ client_after o.client made
  pub controlled : NoneEnded o.client made
  pub heard : NoneSilent silence (begins_listening begin) arrivals

-- The last turn, behind those that went on, ended the reader: it told the end of control, or the camera was silent behind
-- it.
pub record LastTurn (mode : Mode) (c : AcqConfig) (ids : IdMode) (camera : Address) (silence begin : ℕ) (Old New : List Input → Type 0) (o n : Outside)
    (refused : ℕ) (before : List Turned) (last : Turned) (arrivals : List Arrival) (arrival : Arrival) (cause : Option ControlEnd) (s u : Token) : Type 0 where
  pub on : TurnsOn mode c ids camera Old New o n (before ++ last ∷ []) (arrivals ++ arrival ∷ []) s u
  pub hears : HearsEach ids (before ++ last ∷ []) (arrivals ++ arrival ∷ []) refused
  pub told : told_in (before ++ last ∷ []) ≡ receiver_moments begin (arrivals ++ arrival ∷ [])
  pub controlled : NoneEnded o.client before
  pub heard : NoneSilent silence (begins_listening begin) arrivals
  pub cause_is : turn_cause (client_after o.client before) last ≡ cause

-- The reader made turns and ended so: a look found the run stopped, the camera was silent behind the last turn, or
-- control ended in it. So many datagrams were refused in widening.
pub data ReadsTurns (mode : Mode) (c : AcqConfig) (ids : IdMode) (camera : Address) (silence begin : ℕ) (Old New : List Input → Type 0) (o n : Outside)
    (refused : ℕ) (s u : Token) : ReaderEnd → Type 0 where
  stopped : (made : List Turned) (arrivals : List Arrival) (middle : Token)
      → KeepsOn mode c ids camera silence begin Old New o n refused made arrivals s middle → FindsStopped middle u
      → ReadsTurns mode c ids camera silence begin Old New o n refused s u Stopped
  silent : (before : List Turned) (last : Turned) (arrivals : List Arrival) (arrival : Arrival)
      → LastTurn mode c ids camera silence begin Old New o n refused before last arrivals arrival None s u
      → is_silent_behind silence (listened_to silence (begins_listening begin) arrivals) arrival ≡ true
      → ReadsTurns mode c ids camera silence begin Old New o n refused s u Silent
  ended : (before : List Turned) (last : Turned) (arrivals : List Arrival) (arrival : Arrival) (cause : ControlEnd)
      → LastTurn mode c ids camera silence begin Old New o n refused before last arrivals arrival (Some cause) s u
      → ReadsTurns mode c ids camera silence begin Old New o n refused s u (Ended cause)

abbrev pub cause_faults : Option ControlEnd → Bool
cause_faults None = false
cause_faults (Some cause) = is_link_fault cause

abbrev pub is_fault : ReaderEnd → Bool
is_fault Stopped = false
is_fault Silent = false
is_fault (Ended cause) = is_link_fault cause
