-- The fills of retired blocks in a buffer handling mode.
use Rattle.std.specs.Prelude.{◌≡◌, ℕ, Bool, true, false, List, [], ◌∷◌, ◌++◌}
use Rattle.board_machine.specs.declared.events.Event.{Event}
use Rattle.board_machine.specs.declared.events.Event.TheVariants.{Lay}
use Rattle.acquisition_machine.specs.declared.retired.Retired.{Retired}
use Rattle.board_calls.specs.declared.mode.Mode.{Mode}
use Rattle.board_calls.specs.Modes.{FillsFor}

-- a buffer that came back is laid
abbrev pub laid_unless : Bool → ℕ → List Event
laid_unless true i = []
laid_unless false i = Lay i ∷ []

-- A retired block is filled into the output by the mode, and laid where the close mark stands.
pub record FillsOne (mode : Mode) (x : Retired) (events : List Event) : Type 0 where
  pub dropped : List ℕ
  pub filled : Bool
  pub call : List Event
  pub fills : FillsFor mode dropped x.place x.buf filled call
  pub is : events ≡ call ++ laid_unless filled x.place

-- So each of these is, in order.
abbrev pub FillsRetiredFor : Mode → List Retired → List Event → Type 0
FillsRetiredFor mode [] events = events ≡ []
FillsRetiredFor mode (x ∷ xs) events =
    (first rest : List Event) × FillsOne mode x first × FillsRetiredFor mode xs rest × (events ≡ first ++ rest)
