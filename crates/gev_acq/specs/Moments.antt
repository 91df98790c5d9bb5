-- Which moment a reader tells its receiver in a turn, and the receiver's clock, for which a pause is no time.
use Rattle.std.specs.Prelude.{◌≡◌, ℕ, ◌+◌, ◌-◌, ◌^◌, ◌<◌, ◌≤◌, min, List, [], ◌∷◌, map}
use Rattle.gev_acq.specs.Turns.{Turned}
use Rattle.gev_acq.specs.Acquired.{moments_in, TellsOwn}

-- the moment of each turn is told
abbrev pub SaysOwn : {P : Type 0} → P → ℕ → ℕ → P → Type 0
SaysOwn p moment told q = told ≡ moment

-- ---- the receiver's clock

-- the host's moment at the last reading, and what the receiver was told then
pub record PacedClock : Type 0 where
  pub before : ℕ
  pub told : ℕ

-- by how many milliseconds it rises at most with a reading
abbrev pub most_rise : ℕ
most_rise = 10

abbrev pub begins_at : ℕ → PacedClock
begins_at m = record { before = m; told = m }

-- By how much it rises with a reading of the host's clock: as that rose since the reading before, but by at most 10.
abbrev pub rise_at : PacedClock → ℕ → ℕ
rise_at c m = min most_rise (m - c.before)

-- what it tells then; it stands still at the end of its type
abbrev pub told_at : PacedClock → ℕ → ℕ
told_at c m = min (c.told + rise_at c m) (2 ^ 64 - 1)

abbrev pub read_at : PacedClock → ℕ → PacedClock
read_at c m = record { before = m; told = told_at c m }

abbrev pub SaysPaced : PacedClock → ℕ → ℕ → PacedClock → Type 0
SaysPaced c moment told d = (told ≡ told_at c moment) × (d ≡ read_at c moment)

-- what it tells at these readings
abbrev pub paced_from : PacedClock → List ℕ → List ℕ
paced_from c [] = []
paced_from c (m ∷ ms) = told_at c m ∷ paced_from (read_at c m) ms

-- what it tells at these readings, at the first of which it begins
abbrev pub paced : List ℕ → List ℕ
paced [] = []
paced (m ∷ ms) = m ∷ paced_from (begins_at m) ms

-- ---- a whole run

-- The policy said which moments were told in these turns, one after the other, from its first state to its last.
abbrev pub SaysEach : {P : Type 0} → (P → ℕ → ℕ → P → Type 0) → P → List Turned → P → Type 0
SaysEach says p [] q = q ≡ p
SaysEach {P} says p (t ∷ ts) q = (r : P) × says p t.moment t.told r × SaysEach says r ts q

-- the moments that the receiver was told
abbrev pub told_in : List Turned → List ℕ
told_in [] = []
told_in (t ∷ ts) = t.told ∷ told_in ts

-- Over a run of turns the moments told are those of the receiver's clock.
abbrev pub PacedTellsItsClock : Type 0
PacedTellsItsClock =
    (m : ℕ) (q : PacedClock) (made : List Turned) → SaysEach SaysPaced (begins_at m) made q → m ∷ told_in made ≡ paced (m ∷ moments_in made)

-- Over a run of turns in each of which the turn's moment was told, the moments told are those of the turns.
abbrev pub OwnTellsMoments : Type 0
OwnTellsMoments = (made : List Turned) → TellsOwn made → told_in made ≡ moments_in made

-- ---- the receiver's clock by its steps

-- none of these moments, of which the first is m, is below the one before it, and the last fits its type
abbrev pub InOrder : ℕ → List ℕ → Type 0
InOrder m [] = m < 2 ^ 64
InOrder m (n ∷ ns) = (m ≤ n) × InOrder n ns

-- by how much each of these is above the one before it, of which the first is m
abbrev pub steps_from : ℕ → List ℕ → List ℕ
steps_from m [] = []
steps_from m (n ∷ ns) = (n - m) ∷ steps_from n ns

abbrev pub steps : List ℕ → List ℕ
steps [] = []
steps (m ∷ ms) = steps_from m ms

-- The steps of the receiver's clock are those of the host's, each one above 10 cut to 10.
abbrev pub PacedCutsSteps : Type 0
PacedCutsSteps = (m : ℕ) (ms : List ℕ) → InOrder m ms → steps (paced (m ∷ ms)) ≡ map (min most_rise) (steps (m ∷ ms))
