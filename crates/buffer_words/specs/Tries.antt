-- How a call that makes one try ended.
use Rattle.std.specs.Prelude.{◌≢◌, ℕ, List, Option, Some, None}
use Rattle.board_machine.specs.declared.events.Entry.{Entry}
use Rattle.board_machine.specs.Places.{IsPrefix}
use Rattle.buffer_words.specs.declared.tried.Tried.{Tried}
use Rattle.buffer_words.specs.declared.tried.Tried.TheVariants.{Did, Lost}
use Rattle.buffer_words.specs.Passes.{Token, GrowsTo, SameHands, Gets}

-- what holds of the answer
abbrev pub IfDid : {T : Type 0} → Tried T → (T → Type 0) → Type 0
IfDid (Did answer) P = P answer
IfDid (Lost loaded found) P = Unit {0}

-- what holds of the two numbers
abbrev pub IfLost : {T : Type 0} → Tried T → (ℕ → ℕ → Type 0) → Type 0
IfLost (Did answer) P = Unit {0}
IfLost (Lost loaded found) P = P loaded found

-- The word was one number after a front of what is seen now, and another one after all of it.
pub record LostTo (Sees : List Entry → ℕ → Type 0) (s : Token) (loaded found : ℕ) (t : Token) : Type 0 where
  pub grows : GrowsTo s t
  pub hands : SameHands s t
  pub differ : found ≢ loaded
  pub first : List Entry
  pub later : IsPrefix s.seen first
  pub begins : IsPrefix first t.seen
  pub was : Sees first loaded
  pub is : Sees t.seen found

-- The pass gets the place's buffer, where there was one.
abbrev pub GetsOne : Option ℕ → Token → Token → Type 0
GetsOne None s t = SameHands s t
GetsOne (Some place) s t = Gets place s t
