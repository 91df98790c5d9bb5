-- What a worker's claims gave, as they stand in the board's history.
use Rattle.std.specs.Prelude.{◌≡◌, ℕ, ◌==◌, cond, List, [], ◌∷◌, ◌++◌, Option, Some, None}
use Rattle.board_machine.specs.declared.events.Entry.{Entry}
use Rattle.board_machine.specs.declared.events.Event.{Event}
use Rattle.board_machine.specs.declared.events.Event.TheVariants.{Claim, Take}
use Rattle.board_machine.specs.declared.events.TakeEnd.TheVariants.{Taken}
use Rattle.board_machine.specs.Machine.{Board, word_at, next}
use Rattle.board_machine.specs.Histories.{After}
use Rattle.acquisition_machine.specs.declared.config.AcqConfig.{AcqConfig}
use Rattle.acquisition_machine.specs.Blocks.{Given}
use Rattle.acquisition_machine.specs.Machine.{Input, datagram, claimed, tick, stop, restart}
use Rattle.acquisition_machine.specs.Runs.{After as AfterInputs}
use Rattle.buffer_words.specs.Passes.{Token}
use Rattle.buffer_words.specs.Several.{EntersEach}
use Rattle.board_calls.specs.declared.mode.Mode.{Mode}
use Rattle.board_calls.specs.declared.mode.Mode.TheVariants.{OldestFirst, OldestFirstOverwrite, NewestOnly}
use Rattle.gev_acq.specs.Serving.{Serves}

-- the outcomes of claims among these inputs, in order
abbrev pub claims_in : List Input → List (Option Given)
claims_in [] = []
claims_in (datagram bytes ∷ is) = claims_in is
claims_in (claimed given ∷ is) = given ∷ claims_in is
claims_in (tick moment ∷ is) = claims_in is
claims_in (stop ∷ is) = claims_in is
claims_in (restart ∷ is) = claims_in is

-- an event, and the board on which it came
pub record Met : Type 0 where
  pub board : Board
  pub event : Event

abbrev pub met : Board → Event → Met
met b event = record { board = b; event = event }

-- actor n's own events, as these entries came on this board
abbrev pub met_by : ℕ → Board → List Entry → List Met
met_by n b [] = []
met_by n b (e ∷ es) = cond (e.by == n) (met b e.event ∷ []) [] ++ met_by n (next b e) es

-- a place, and the size of its buffer by its word
abbrev pub given_at : Board → ℕ → Given
given_at b i = record { place = i; size = (word_at b i).size }

-- what a take gave that a claim made
abbrev pub given_by_take : Board → Event → Option Given
given_by_take b (Take (Taken i)) = Some (given_at b i)
given_by_take b _ = None

-- what the first of these gave, as the take of a claim that found no buffer in the pool
abbrev pub taken_next : List Met → Option Given
taken_next [] = None
taken_next (m ∷ ms) = given_by_take m.board m.event

-- What a claim that found no buffer in the pool gave: with OldestFirst nothing, and else what its take gave, which
-- is the actor's next event.
abbrev pub given_later : Mode → List Met → Option Given
given_later OldestFirst ms = None
given_later OldestFirstOverwrite ms = taken_next ms
given_later NewestOnly ms = taken_next ms

-- What a claim with this answer gave on this board, where these are its actor's later events.
abbrev pub given_by : Mode → Board → Event → List Met → List (Option Given)
given_by mode b (Claim None) ms = given_later mode ms ∷ []
given_by mode b (Claim (Some i)) ms = Some (given_at b i) ∷ []
given_by mode b _ ms = []

-- what the claims among an actor's events gave
abbrev pub claims_of : Mode → List Met → List (Option Given)
claims_of mode [] = []
claims_of mode (m ∷ ms) = given_by mode m.board m.event ms ++ claims_of mode ms

-- what actor n's claims gave, as these entries came on this board
abbrev pub claims_by : Mode → ℕ → Board → List Entry → List (Option Given)
claims_by mode n b es = claims_of mode (met_by n b es)

-- The outcomes of claims among these inputs are what the pass's own claims gave, whatever events come later.
pub record Claims (mode : Mode) (is : List Input) (s t : Token) : Type 0 where
  pub between : List Entry
  pub seen : t.seen ≡ s.seen ++ between
  pub are : (later : List Met) → claims_in is ++ claims_of mode later ≡ claims_of mode (met_by s.number (After s.seen) between ++ later)

-- The inputs were served. Old and New are of which lists of inputs the machine stood before, and stands after:
-- for each of them it stands for that list with these inputs added.
pub record ServesOn (mode : Mode) (c : AcqConfig) (Old New : List Input → Type 0) (is : List Input) (s t : Token) : Type 0 where
  pub events : List Event
  pub enters : EntersEach s events t
  pub serves : (q : List Input) → Old q → Serves mode c (AfterInputs c q) is events
  pub stands : (q : List Input) → Old q → New (q ++ is)
  pub claims : Claims mode is s t
