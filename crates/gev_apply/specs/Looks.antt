-- The turns of a live run's application: a look at the run word, a wait of no time, and where it gave a buffer
-- its return and its queueing.
use Rattle.std.specs.Prelude.{◌≡◌, ℕ, List, [], ◌∷◌, ◌++◌, Some, Result, Ok, Err}
use Rattle.gentl_types.specs.declared.buffer_id.BufferId.{BufferId}
use Rattle.gentl_types.specs.declared.errors.GcError.{GcError}
use Rattle.board_machine.specs.declared.events.Event.{Event}
use Rattle.board_machine.specs.declared.events.Event.TheVariants.{LookRun, Lay}
use Rattle.board_machine.specs.Machine.{Item, item}
use Rattle.board_calls.specs.Calls.{Queues}
use Rattle.buffer_words.specs.Loans.{Lent}
use Rattle.gentl_events.specs.Waits.{Waits}
use Rattle.gev_report.specs.ReplayLines.{take_line}

-- One turn: what came from outside and what the board answered.
pub record Looked : Type 0 where
  -- the run word
  pub run : ℕ
  -- the moments that the wait read, in milliseconds
  pub moments : List ℕ
  -- the wait's answer
  pub answer : Result Lent GcError
  -- of a buffer, what its queueing answered
  pub queued : Result (Unit {0}) GcError

-- These are the events of a wait of no time that read these moments.
abbrev pub WaitsNoTime : List ℕ → Result Lent GcError → List Event → Type 0
WaitsNoTime moments answer es = Waits 0 (Some []) (Some moments) answer es

-- The buffer is given back, and then queued.
pub record GivesBack (loan : Lent) (queued : Result (Unit {0}) GcError) (es : List Event) : Type 0 where
  pub rest : List Event
  pub queues : Queues loan.id queued rest
  pub is : es ≡ Lay loan.id.place ∷ rest

-- What follows the wait: of a buffer its return and its queueing, and else nothing.
abbrev pub Follows : Result Lent GcError → Result (Unit {0}) GcError → List Event → Type 0
Follows (Ok loan) queued es = GivesBack loan queued es
Follows (Err error) queued es = es ≡ []

-- These are the events of this turn.
pub record LooksOnce (t : Looked) (es : List Event) : Type 0 where
  pub waited : List Event
  pub after : List Event
  pub waits : WaitsNoTime t.moments t.answer waited
  pub follows : Follows t.answer t.queued after
  pub is : es ≡ LookRun t.run ∷ (waited ++ after)

-- First this turn's events, and then these.
pub record LooksFirst (t : Looked) (Rest : List Event → Type 0) (es : List Event) : Type 0 where
  pub first : List Event
  pub rest : List Event
  pub looks : LooksOnce t first
  pub later : Rest rest
  pub is : es ≡ first ++ rest

-- These are the events of these turns, one after another.
abbrev pub LookEach : List Looked → List Event → Type 0
LookEach [] es = es ≡ []
LookEach (t ∷ ts) es = LooksFirst t (λ rest. LookEach ts rest) es

abbrev pub lent_by : Result Lent GcError → List Lent
lent_by (Ok loan) = loan ∷ []
lent_by (Err error) = []

-- the buffers that these turns got, in order
abbrev pub lent_in : List Looked → List Lent
lent_in [] = []
lent_in (t ∷ ts) = lent_by t.answer ++ lent_in ts

-- the moments that these turns read, in order
abbrev pub moments_in : List Looked → List ℕ
moments_in [] = []
moments_in (t ∷ ts) = t.moments ++ moments_in ts

-- these buffers as what was taken out of the output: each place with the bytes and the record
abbrev pub items_of : List Lent → List Item
items_of [] = []
items_of (loan ∷ loans) = item loan.id.place loan.filling ∷ items_of loans

abbrev pub ids_of : List Lent → List BufferId
ids_of [] = []
ids_of (loan ∷ loans) = loan.id ∷ ids_of loans

-- the lines of these buffers
abbrev pub lines_of : List Lent → List ℕ
lines_of [] = []
lines_of (loan ∷ loans) = take_line loan.id loan.filling ++ lines_of loans
