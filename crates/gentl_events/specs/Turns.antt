-- The turns of a wait for a filled buffer: the events of each, and what the last one gives.
use Rattle.std.specs.Prelude.{◌≡◌, ⊤, ℕ, true, false, List, [], ◌∷◌, ◌++◌, Option, Some, None, Result, Ok, Err}
use Rattle.gentl_types.specs.declared.errors.GcError.{GcError}
use Rattle.gentl_types.specs.declared.errors.GcError.TheVariants.{InvalidHandle, Abort}
use Rattle.gentl_types.specs.declared.errors.Shown.TheVariants as shown
use Rattle.board_machine.specs.declared.events.Event.{Event}
use Rattle.board_machine.specs.declared.events.Event.TheVariants.{Take, Unpost}
use Rattle.board_machine.specs.declared.events.TakeEnd.TheVariants.{Taken, Empty, Closed}
use Rattle.board_machine.specs.Machine.{Item, item}
use Rattle.board_machine.specs.Handout.{taken_items}
use Rattle.buffer_words.specs.Passes.{Token, slot_at, gone, lifted, GrowsTo, SameHands, Has}
use Rattle.buffer_words.specs.Loans.{Lent, IsLoanOf}
use Rattle.buffer_words.specs.Several.{EntersEach}

-- a turn that finds neither a buffer nor the close mark nor a kill
abbrev pub idle_turn : List Event
idle_turn = Take Empty ∷ Unpost false ∷ []

-- such a turn before each of these moments
abbrev pub idle_turns : List ℕ → List Event
idle_turns [] = []
idle_turns (moment ∷ later) = idle_turn ++ idle_turns later

-- The events after the idle turns, by the answer: those of the turn that found it. After a Timeout there are
-- none.
abbrev pub last_turn : Result Lent GcError → List Event
last_turn (Ok loan) = Take (Taken loan.id.place) ∷ []
last_turn (Err (InvalidHandle shown.Closed)) = Take Closed ∷ []
last_turn (Err Abort) = Take Empty ∷ Unpost true ∷ []
last_turn (Err error) = []

-- what was taken, with the bytes and the record of the loan
abbrev pub lent_items : Result Lent GcError → List Item
lent_items (Ok loan) = item loan.id.place loan.filling ∷ []
lent_items (Err error) = []

-- What the pass has taken out of the output has grown by these, and each has the bytes and record of its fill.
abbrev pub TakesMore : List Item → Token → Token → Type 0
TakesMore items s t = taken_items s.number t.seen ≡ taken_items s.number s.seen ++ items

-- The pass has this loan, of a place that it didn't have, and of each other place what it had.
pub record HasLoan (loan : Lent) (s t : Token) : Type 0 where
  pub is : IsLoanOf t loan
  pub new : slot_at s loan.id.place ≡ gone
  pub hands : Has loan.id.place lifted s t

-- A turn that changes nothing in the pass's hands.
pub record TurnsWith (events : List Event) (s t : Token) : Type 0 where
  pub enters : EntersEach s events t
  pub hands : SameHands s t
  pub takes : TakesMore [] s t

-- A turn that takes a buffer and lends it. More of others' entries may be seen after it.
pub record TurnsToLoan (loan : Lent) (s t : Token) : Type 0 where
  pub middle : Token
  pub enters : EntersEach s (last_turn (Ok loan)) middle
  pub grows : GrowsTo middle t
  pub has : HasLoan loan s t
  pub takes : TakesMore (lent_items (Ok loan)) s t

-- what ends a wait but for a buffer and the timeout
abbrev pub EndsWait : GcError → Type 0
EndsWait (InvalidHandle shown.Closed) = ⊤
EndsWait Abort = ⊤
EndsWait error = ⊥

-- One turn, by the wait's answer if it found one.
abbrev pub Turns : Option (Result Lent GcError) → Token → Token → Type 0
Turns None s t = TurnsWith idle_turn s t
Turns (Some (Ok loan)) s t = TurnsToLoan loan s t
Turns (Some (Err error)) s t = EndsWait error × TurnsWith (last_turn (Err error)) s t
