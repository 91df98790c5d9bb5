-- What holds of all that a pass has seen, and of the table between any two steps.
use Rattle.std.specs.Prelude.{◌≡◌, ◌≢◌, ℕ, List, ◌++◌, length}
use Rattle.gev_types.specs.Filling.{Filling}
use Rattle.atomic_table.specs.Table as table
use Rattle.board_machine.specs.declared.events.Entry.{Entry}
use Rattle.board_machine.specs.declared.events.Event.{Event}
use Rattle.board_machine.specs.Machine.{InHand}
use Rattle.board_machine.specs.Histories.{Run, After, own_of}
use Rattle.board_machine.specs.Owners.{IsOwned}
use Rattle.board_machine.specs.Handout.{IsLegal}
use Rattle.buffer_words.specs.declared.view.View.{View}
use Rattle.buffer_words.specs.Rule.{Slot, Shows, Shelved, Seats, Kept}
use Rattle.buffer_words.specs.Passes.{Token, slot_at, gone, IsDown, size_at, Enters}

-- the places that the pass has slots of are in its hands
abbrev pub HoldsSlots : Token → Type 0
HoldsSlots s = (i : ℕ) → slot_at s i ≢ gone → InHand (After s.seen) s.number i

-- each buffer that is set down has its word's size, in bytes
abbrev pub SizesFit : Token → Type 0
SizesFit s = (i : ℕ) (f : Filling) → IsDown s i f → length f.bytes ≡ size_at s i

-- In what was seen, and in all that is seen later, the actor's entries are these.
abbrev pub StaysOwn : ℕ → List Entry → List Entry → Type 0
StaysOwn n seen entries = (more : List Entry) → Run (seen ++ more) → own_of n (seen ++ more) ≡ entries

-- Words, slots and passes are those of one history, in which each place has one owner and buffers were
-- handed out as they were filled.
pub record HasOneOwner (s : table.State Slot View) : Type 0 where
  pub history : List Entry
  pub run : Run history
  pub owned : IsOwned (After history)
  pub legal : IsLegal history
  pub shows : Shows (After history) s.words
  pub shelved : Shelved (After history) s.homes
  pub seats : Seats history s.views

-- Each state that keeps the rule of the table has one owner for each place: so between any two steps.
abbrev pub BetweenSteps : Type 0
BetweenSteps = (s : table.State Slot View) → Kept s → HasOneOwner s

-- What was seen has one owner for each place, and hands out in order.
pub record SawOneOwner (seen : List Entry) : Type 0 where
  pub run : Run seen
  pub owned : IsOwned (After seen)
  pub legal : IsLegal seen

-- So has what a call that added an entry saw.
abbrev pub EntriesAreOwned : Type 0
EntriesAreOwned = (s t : Token) (event : Event) → Enters s event t → SawOneOwner t.seen
