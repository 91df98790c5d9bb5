-- What is true of the turns of a camera's reader.
use Rattle.std.specs.Prelude.{◌≡◌, ℕ, ◌+◌, ◌≤◌, true, if◌then◌else◌, List, [], ◌∷◌, ◌++◌}
use Rattle.client_machine.specs.Machine.{Client}
use Rattle.acquisition_machine.specs.declared.config.AcqConfig.{AcqConfig}
use Rattle.acquisition_machine.specs.Machine.{Input}
use Rattle.gev_control.specs.Controlled.{sent_by, control_of}
use Rattle.packet_requests.specs.declared.id_mode.IdMode.{IdMode}
use Rattle.gev_acq.specs.Turns.{Turned}
use Rattle.gev_acq.specs.Acquired.{sends_in}
use Rattle.camera_reader.specs.Hearing.{Arrival, is_datagram}
use Rattle.camera_reader.specs.Listening.{is_silent_behind, begins_listening, listened_to}
use Rattle.camera_reader.specs.Asking.{ControlEach}

-- the moment of the last datagram among these, or that of the begin where none came
abbrev pub last_datagram : ℕ → List Arrival → ℕ
last_datagram begin [] = begin
last_datagram begin (a ∷ xs) = last_datagram (if is_datagram a.answer then a.moment else begin) xs

-- Where the camera was silent behind the last of these turns, that turn's moment lies the whole silence behind that of the
-- last datagram, or behind the begin where none came.
abbrev pub SilenceIsWaited : Type 0
SilenceIsWaited =
    (silence begin : ℕ) (arrivals : List Arrival) (last : Arrival) → is_silent_behind silence (listened_to silence (begins_listening begin) arrivals) last ≡ true
    → last_datagram begin (arrivals ++ last ∷ []) + silence ≤ last.moment

-- what the client had to send in these turns, but where a call failed before
abbrev pub client_sends : Client → List Turned → List (List ℕ)
client_sends s [] = []
client_sends s (t ∷ ts) = sent_by t.end (control_of s t.heard t.moment).send ++ client_sends (control_of s t.heard t.moment).state ts

-- Where no block may ask for packets again, what the turns sent is the client's alone.
abbrev pub WithoutRoundsNothingIsAsked : Type 0
WithoutRoundsNothingIsAsked =
    (ids : IdMode) (c : AcqConfig) (q : List Input) (s u : Client) (made : List Turned) → 1 ≤ c.window → c.rounds ≡ 0 → ControlEach ids c q s made u
    → sends_in made ≡ client_sends s made
