-- The parts of claims and fills.
use Rattle.std.specs.Prelude.{◌≡◌, ℕ, Bool, true, false, List, [], ◌∷◌, length, Option, Some, None}
use Rattle.board_machine.specs.declared.events.Event.{Event}
use Rattle.board_machine.specs.declared.events.Event.TheVariants.{Take, Pool}
use Rattle.board_machine.specs.declared.events.TakeEnd.{TakeEnd}
use Rattle.board_machine.specs.declared.events.TakeEnd.TheVariants.{Taken}
use Rattle.board_machine.specs.Places.{times}
use Rattle.board_machine.specs.Machine.{Board, hand}
use Rattle.board_calls.specs.declared.mode.Mode.{Mode}
use Rattle.board_calls.specs.Modes.{GotNothing, takes_and_pools, DropsFor}

-- One take. The answer is the place that it got, and that it was dropped.
abbrev pub TakesOne : Option (ℕ × Bool) → List Event → Type 0
TakesOne None es = (end : TakeEnd) × GotNothing end × (es ≡ Take end ∷ [])
TakesOne (Some (i, true)) es = es ≡ Take (Taken i) ∷ []
TakesOne (Some (i, false)) es = ⊥

-- One take, and where it got a place, that place is pooled.
abbrev pub DropsOne : Bool → List Event → Type 0
DropsOne true es = (i : ℕ) × (es ≡ Take (Taken i) ∷ Pool i ∷ [])
DropsOne false es = (end : TakeEnd) × GotNothing end × (es ≡ Take end ∷ [])

-- So many places are taken and pooled, one after the other.
pub record DropsSome (count : ℕ) (es : List Event) : Type 0 where
  pub dropped : List ℕ
  pub counted : length dropped ≡ count
  pub is : es ≡ takes_and_pools dropped

-- So many places are dropped by the mode.
pub record Drops (mode : Mode) (count : ℕ) (es : List Event) : Type 0 where
  pub dropped : List ℕ
  pub counted : length dropped ≡ count
  pub drops : DropsFor mode dropped es

-- The actor has in hand what it had, and no word changed.
pub record KeepsHeld (b : Board) (k : ℕ) (new : Board) : Type 0 where
  pub hands : (i : ℕ) → times i (hand new k) ≡ times i (hand b k)
  pub words : new.words ≡ b.words
