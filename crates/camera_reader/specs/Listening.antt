-- When a camera is silent, and when its control ended, turn by turn.
use Rattle.std.specs.Prelude.{◌≡◌, ⊤, ℕ, Bool, false, if◌then◌else◌, List, [], ◌∷◌, Option, None, is_some}
use Rattle.client_machine.specs.Machine.{Client}
use Rattle.gev_control.specs.Controlled.{control_of}
use Rattle.gev_control.specs.Telling.{told_value}
use Rattle.camera_control.specs.declared.control_end.ControlEnd.{ControlEnd}
use Rattle.first_leader.specs.Waiting.{beat_cause, is_over, next_pace}
use Rattle.gev_acq.specs.Turns.{Turned}
use Rattle.camera_reader.specs.declared.listening.Listening.{Listening}
use Rattle.camera_reader.specs.Hearing.{Arrival, is_datagram}

-- ---- silence

-- the moment at which the camera was heard last, behind a turn of this moment
abbrev pub last_heard : Listening → ℕ → Bool → ℕ
last_heard l moment datagram = if datagram then moment else l.heard

-- Behind a turn the camera is silent where nothing came for long enough, by the rule of the first leader's wait.
abbrev pub is_silent : ℕ → Listening → ℕ → Bool → Bool
is_silent silence l moment datagram = is_over silence (last_heard l moment datagram) l.pace moment

abbrev pub listened : ℕ → Listening → ℕ → Bool → Listening
listened silence l moment datagram = record { heard = last_heard l moment datagram; pace = next_pace silence l.pace moment }

-- nothing was heard before the first turn, at whose begin the clock told this
abbrev pub begins_listening : ℕ → Listening
begins_listening begin = record { heard = begin; pace = record { last = begin; spared = false } }

-- Behind a turn the camera is silent by what arrived in it: each datagram ends a silence, also one that is foreign, or that
-- widening refuses.
abbrev pub is_silent_behind : ℕ → Listening → Arrival → Bool
is_silent_behind silence l a = is_silent silence l a.moment (is_datagram a.answer)

abbrev pub listened_behind : ℕ → Listening → Arrival → Listening
listened_behind silence l a = listened silence l a.moment (is_datagram a.answer)

-- behind turns in which this arrived
abbrev pub listened_to : ℕ → Listening → List Arrival → Listening
listened_to silence l [] = l
listened_to silence l (a ∷ xs) = listened_to silence (listened_behind silence l a) xs

-- The camera was silent behind none of these turns.
abbrev pub NoneSilent : ℕ → Listening → List Arrival → Type 0
NoneSilent silence l [] = ⊤
NoneSilent silence l (a ∷ xs) = (is_silent_behind silence l a ≡ false) × NoneSilent silence (listened_behind silence l a) xs

-- ---- control

-- how a turn ended control, if it did: by its own end, and by what a heartbeat told in it
abbrev pub turn_cause : Client → Turned → Option ControlEnd
turn_cause s t =
    let u : Client = (control_of s t.heard t.moment).state in beat_cause t.end (told_value (is_some s.asked) u.asked u)

-- the client behind these turns
abbrev pub client_after : Client → List Turned → Client
client_after s [] = s
client_after s (t ∷ ts) = client_after (control_of s t.heard t.moment).state ts

-- Control ended in none of these turns.
abbrev pub NoneEnded : Client → List Turned → Type 0
NoneEnded s [] = ⊤
NoneEnded s (t ∷ ts) = (turn_cause s t ≡ None) × NoneEnded (control_of s t.heard t.moment).state ts
