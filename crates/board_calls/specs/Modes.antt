-- The calls by which an acquisition gets an empty buffer and gives a filled one, in each buffer handling
-- mode (GenICam SFNC, StreamBufferHandlingMode): for each call, its answer and the list of its own
-- events.
use Rattle.std.specs.Prelude.{◌≡◌, ℕ, ◌<◌, ◌⊎◌, Bool, true, false, List, [], ◌∷◌, ◌++◌, length, Option, Some, None}
use Rattle.gev_types.specs.Filling.{Filling}
use Rattle.gev_types.specs.Limits.{place_count}
use Rattle.board_machine.specs.declared.events.Event.{Event}
use Rattle.board_machine.specs.declared.events.Event.TheVariants.{Claim, Take, Pool, Fill}
use Rattle.board_machine.specs.declared.events.TakeEnd.{TakeEnd}
use Rattle.board_machine.specs.declared.events.TakeEnd.TheVariants.{Taken, Empty, Closed}
use Rattle.board_calls.specs.declared.mode.Mode.{Mode}
use Rattle.board_calls.specs.declared.mode.Mode.TheVariants.{OldestFirst, OldestFirstOverwrite, NewestOnly}

-- a take that got no buffer
abbrev pub GotNothing : TakeEnd → Type 0
GotNothing (Taken i) = ⊥
GotNothing Empty = Unit {0}
GotNothing Closed = Unit {0}

-- ---- claims

-- A claim alone. The answer is its place, and that nothing was dropped for it.
abbrev pub ClaimsOnly : Option (ℕ × Bool) → List Event → Type 0
ClaimsOnly None es = es ≡ Claim None ∷ []
ClaimsOnly (Some (i, false)) es = es ≡ Claim (Some i) ∷ []
ClaimsOnly (Some (i, true)) es = ⊥

-- A claim, and where it got nothing a take. The answer tells whether its place was taken.
abbrev pub ClaimsOrTakes : Option (ℕ × Bool) → List Event → Type 0
ClaimsOrTakes None es = (end : TakeEnd) × GotNothing end × (es ≡ Claim None ∷ Take end ∷ [])
ClaimsOrTakes (Some (i, false)) es = es ≡ Claim (Some i) ∷ []
ClaimsOrTakes (Some (i, true)) es = es ≡ Claim None ∷ Take (Taken i) ∷ []

abbrev pub ClaimsFor : Mode → Option (ℕ × Bool) → List Event → Type 0
ClaimsFor OldestFirst answer es = ClaimsOnly answer es
ClaimsFor OldestFirstOverwrite answer es = ClaimsOrTakes answer es
ClaimsFor NewestOnly answer es = ClaimsOrTakes answer es

-- ---- fills

-- Each of these places is taken and pooled, one after the other.
abbrev pub takes_and_pools : List ℕ → List Event
takes_and_pools [] = []
takes_and_pools (i ∷ is) = Take (Taken i) ∷ Pool i ∷ takes_and_pools is

-- these places, and then a take that got nothing
pub record DropsUntilNothing (dropped : List ℕ) (es : List Event) : Type 0 where
  pub end : TakeEnd
  pub nothing : GotNothing end
  pub few : length dropped < place_count
  pub is : es ≡ takes_and_pools dropped ++ Take end ∷ []

-- as many places as there are, and no more takes
pub record DropsAll (dropped : List ℕ) (es : List Event) : Type 0 where
  pub all : length dropped ≡ place_count
  pub is : es ≡ takes_and_pools dropped

-- what is dropped before a fill
abbrev pub DropsFor : Mode → List ℕ → List Event → Type 0
DropsFor OldestFirst dropped es = (dropped ≡ []) × (es ≡ [])
DropsFor OldestFirstOverwrite dropped es = (dropped ≡ []) × (es ≡ [])
DropsFor NewestOnly dropped es = DropsUntilNothing dropped es ⊎ DropsAll dropped es

-- Places are dropped by the mode, and then the buffer is filled.
pub record FillsFor (mode : Mode) (dropped : List ℕ) (i : ℕ) (f : Filling) (filled : Bool) (es : List Event) : Type 0 where
  pub front : List Event
  pub drops : DropsFor mode dropped front
  pub is : es ≡ front ++ Fill i f filled ∷ []

-- the same, with so many places dropped
pub record FillsDropping (mode : Mode) (count i : ℕ) (f : Filling) (filled : Bool) (es : List Event) : Type 0 where
  pub dropped : List ℕ
  pub counted : length dropped ≡ count
  pub fills : FillsFor mode dropped i f filled es
