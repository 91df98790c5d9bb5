-- What the reader's worker of a run over a camera's frames did.
use Rattle.std.specs.Prelude.{◌≡◌, ◌≢◌, ℕ, ◌+◌, ◌-◌, ◌^◌, min, false, true, List, [], ◌∷◌, ◌++◌, Option, Some, None, Result}
use Rattle.board_machine.specs.declared.events.Event.{Event}
use Rattle.board_machine.specs.declared.events.Event.TheVariants.{LookRun, Stop}
use Rattle.client_machine.specs.Machine.{Client}
use Rattle.acquisition_machine.specs.declared.config.AcqConfig.{AcqConfig}
use Rattle.acquisition_machine.specs.declared.counts.Counts.{Counts}
use Rattle.acquisition_machine.specs.Machine.{Input, tick, stop}
use Rattle.acq_core.specs.Standing.{capped}
use Rattle.acquisition_machine.specs.Runs.{After}
use Rattle.buffer_words.specs.Passes.{Token}
use Rattle.buffer_words.specs.Several.{EntersEach}
use Rattle.board_calls.specs.declared.mode.Mode.{Mode}
use Rattle.gev_links.specs.Links.{Address, Adds}
use Rattle.gev_links.specs.Moments.{TellsEach}
use Rattle.gev_control.specs.Sends.{addressed}
use Rattle.gev_acq.specs.declared.turn.Turn.{Turn}
use Rattle.gev_acq.specs.Serving.{Serves}
use Rattle.gev_acq.specs.Claims.{Claims}
use Rattle.gev_acq.specs.Turns.{Turned, Outside}
use Rattle.gev_acq.specs.Acquired.{inputs_in, moments_in, heards_in, sends_in, ServesTurns, NoteEach}
use Rattle.gev_acq.specs.Moments.{told_in}
use Rattle.packet_requests.specs.declared.id_mode.IdMode.{IdMode}
use Rattle.camera_control.specs.declared.control_end.ControlEnd.{ControlEnd}
use Rattle.camera_reader.specs.declared.reader_end.ReaderEnd.{ReaderEnd}
use Rattle.camera_reader.specs.declared.reader_end.ReaderEnd.TheVariants.{Stopped, Silent, Ended}
use Rattle.camera_reader.specs.Hearing.{Arrival, answers_of, HearsEach}
use Rattle.camera_reader.specs.ReceiverClock.{receiver_moments}
use Rattle.camera_reader.specs.Listening.{is_silent_behind, begins_listening, listened_to, NoneSilent, turn_cause, client_after, NoneEnded}
use Rattle.camera_reader.specs.Asking.{ControlEach}

-- ---- how it ended

-- Behind turns that went on the last one ended the reader, with this of control.
pub record EndsLast (silence begin : ℕ) (s : Client) (made : List Turned) (arrivals : List Arrival) (cause : Option ControlEnd) : Type 0 where
  pub before : List Turned
  pub last : Turned
  pub are : made ≡ before ++ last ∷ []
  pub earlier : List Arrival
  pub arrival : Arrival
  pub arrived : arrivals ≡ earlier ++ arrival ∷ []
  pub controlled : NoneEnded s before
  pub heard : NoneSilent silence (begins_listening begin) earlier
  pub cause_is : turn_cause (client_after s before) last ≡ cause

-- No turn ended it; or the camera was silent behind the last; or control ended in that.
abbrev pub EndsReading : ReaderEnd → ℕ → ℕ → Client → List Turned → List Arrival → Type 0
EndsReading Stopped silence begin s made arrivals = NoneEnded s made × NoneSilent silence (begins_listening begin) arrivals
EndsReading Silent silence begin s made arrivals =
    (e : EndsLast silence begin s made arrivals None)
    × (is_silent_behind silence (listened_to silence (begins_listening begin) e.earlier) e.arrival ≡ true)
EndsReading (Ended cause) silence begin s made arrivals = EndsLast silence begin s made arrivals (Some cause)

-- Where the run was stopped the last look found another run word than 1, and else there was no further look.
abbrev pub LastLook : ReaderEnd → List Event → Type 0
LastLook Stopped es = (run : ℕ) × (run ≢ 1) × (es ≡ LookRun run ∷ [])
LastLook Silent es = es ≡ []
LastLook (Ended cause) es = es ≡ []

-- ---- what it did

-- The receiver was told a moment, and then these turns were made, each told by the receiver's clock from that moment on. It
-- heard what arrived on the stream's link, each datagram in its wide form where the stream's identifiers are standard, and so
-- many were refused in that. Its requests went out in the form of these identifiers. The links and the clock told just what
-- came, was sent and was read.
pub record ReadsOn (mode : Mode) (c : AcqConfig) (ids : IdMode) (camera : Address) (silence begin : ℕ) (o n : Outside) (refused : ℕ) (end : ReaderEnd)
    (made : List Turned) (turned last : List Event) : Type 0 where
  pub serves : ServesTurns mode c (After c (tick begin ∷ [])) made turned
  pub controlled : ControlEach ids c (tick begin ∷ []) o.client made n.client
  pub entries : List Turn
  pub notes : NoteEach c (tick begin ∷ []) made entries
  pub arrivals : List Arrival
  pub hears : HearsEach ids made arrivals refused
  pub says : told_in made ≡ receiver_moments begin arrivals
  pub ends : EndsReading end silence begin o.client made arrivals
  pub looks : LastLook end last
  pub received : TellsEach o.received n.received (answers_of arrivals)
  pub heard : TellsEach o.heard n.heard (heards_in made)
  pub sent : Adds o.sent n.sent (addressed camera (sends_in made))
  pub told : TellsEach o.told n.told (begin ∷ moments_in made)

-- what the receiver was told
abbrev pub inputs_from : ℕ → List Turned → List Input
inputs_from begin made = tick begin ∷ inputs_in made

-- The turns.
pub record ReadsTo (mode : Mode) (c : AcqConfig) (ids : IdMode) (camera : Address) (silence : ℕ) (New : List Input → Type 0) (o n : Outside) (refused : ℕ)
    (end : ReaderEnd) (s t : Token) : Type 0 where
  pub begin : ℕ
  pub made : List Turned
  pub turned : List Event
  pub last : List Event
  pub on : ReadsOn mode c ids camera silence begin o n refused end made turned last
  pub enters : EntersEach s (turned ++ last) t
  pub claims : Claims mode (inputs_in made) s t
  pub stands : New (inputs_from begin made)

-- what the receiver counted, with the datagrams that were refused in widening
abbrev pub with_refused : Counts → ℕ → Counts
with_refused counts refused = record counts { foreign = min (counts.foreign + refused) (2 ^ 64 - 1) }

-- The turns, and in every case the stop of the receiver, whose blocks retire, and the stop of the run. The pass's own
-- entries are these, and this was counted.
pub record ReadsFrames (mode : Mode) (c : AcqConfig) (ids : IdMode) (camera : Address) (silence : ℕ) (o n : Outside) (counts : Counts) (end : ReaderEnd)
    (s t : Token) : Type 0 where
  pub begin : ℕ
  pub refused : ℕ
  pub made : List Turned
  pub turned : List Event
  pub last : List Event
  pub on : ReadsOn mode c ids camera silence begin o n refused end made turned last
  pub drained : List Event
  pub drains : Serves mode c (After c (inputs_from begin made)) (stop ∷ []) drained
  pub answer : Result (Unit {0}) ℕ
  pub enters : EntersEach s (turned ++ (last ++ (drained ++ Stop false answer ∷ []))) t
  pub claims : Claims mode (inputs_in made) s t
  pub counted : counts ≡ with_refused (capped (After c (inputs_from begin made ++ stop ∷ [])).counts) refused
