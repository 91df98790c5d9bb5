-- The receiver's clock: the moments that the receiver of a camera's stream is told, for which a pause is no time.
use Rattle.std.specs.Prelude.{◌≡◌, ℕ, ◌+◌, ◌-◌, ◌^◌, ◌<◌, ◌≤◌, min, Bool, if◌then◌else◌, List, [], ◌∷◌}
use Rattle.camera_reader.specs.declared.receiver_clock.ReceiverClock.{ReceiverClock}
use Rattle.camera_reader.specs.Hearing.{Arrival, is_datagram, moments_of}

-- by how many milliseconds it rises at most in a turn in which a datagram came, and in one in which none came
abbrev pub most_rise : Bool → ℕ
most_rise came = if came then 1 else 5

-- it stands where the host's clock stood before the first turn
abbrev pub begins_at : ℕ → ReceiverClock
begins_at begin = record { before = begin; told = begin }

-- By how much it rises in a turn: as the host's clock rose since the turn before, cut to that.
abbrev pub rise_at : ReceiverClock → ℕ → Bool → ℕ
rise_at c moment came = min (moment - c.before) (most_rise came)

-- what it tells in the turn; it stands still at the end of its type
abbrev pub told_at : ReceiverClock → ℕ → Bool → ℕ
told_at c moment came = min (c.told + rise_at c moment came) (2 ^ 64 - 1)

abbrev pub read_at : ReceiverClock → ℕ → Bool → ReceiverClock
read_at c moment came = record { before = moment; told = told_at c moment came }

-- ---- by what arrived

abbrev pub told_with : ReceiverClock → Arrival → ℕ
told_with c a = told_at c a.moment (is_datagram a.answer)

abbrev pub read_with : ReceiverClock → Arrival → ReceiverClock
read_with c a = read_at c a.moment (is_datagram a.answer)

-- what it tells in turns in which this arrived, one after the other
abbrev pub told_from : ReceiverClock → List Arrival → List ℕ
told_from c [] = []
told_from c (a ∷ xs) = told_with c a ∷ told_from (read_with c a) xs

-- the receiver's moments behind the one that it was told before the first turn
abbrev pub receiver_moments : ℕ → List Arrival → List ℕ
receiver_moments begin arrivals = told_from (begins_at begin) arrivals

-- ---- by its steps

-- none of these moments, of which the first is m, is below the one before it, and the last fits its type
abbrev pub InOrder : ℕ → List ℕ → Type 0
InOrder m [] = m < 2 ^ 64
InOrder m (n ∷ ns) = (m ≤ n) × InOrder n ns

-- by how much each of these is above the one before it, of which the first is m
abbrev pub steps_from : ℕ → List ℕ → List ℕ
steps_from m [] = []
steps_from m (n ∷ ns) = (n - m) ∷ steps_from n ns

-- the steps of the host's clock from turn to turn, each one above 1 cut to 1 where a datagram came, and above 5 to 5 where
-- none came
abbrev pub cut_steps : ℕ → List Arrival → List ℕ
cut_steps m [] = []
cut_steps m (a ∷ xs) = min (a.moment - m) (most_rise (is_datagram a.answer)) ∷ cut_steps a.moment xs

-- The steps of the receiver's clock are those of the host's, cut so, where the host's clock never falls.
abbrev pub ReceiverClockCutsSteps : Type 0
ReceiverClockCutsSteps =
    (begin : ℕ) (arrivals : List Arrival) → InOrder begin (moments_of arrivals)
    → steps_from begin (receiver_moments begin arrivals) ≡ cut_steps begin arrivals
