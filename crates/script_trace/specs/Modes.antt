-- The buffer handling mode of a trace: what the acquisition's claims and fills do in it, and which places it
-- drops.
use Rattle.std.specs.Prelude.{◌≡◌, ℕ, ◌==◌, cond, Bool, true, false, List, [], ◌∷◌, ◌++◌, Option, Some, None, if◌then◌else◌}
use Rattle.board_machine.specs.declared.events.Entry.{Entry}
use Rattle.board_machine.specs.declared.events.Event.{Event}
use Rattle.board_machine.specs.declared.events.Event.TheVariants.{Lay}
use Rattle.board_machine.specs.Handout.{handed_by}
use Rattle.acquisition_machine.specs.declared.retired.Retired.{Retired}
use Rattle.board_calls.specs.declared.mode.Mode.{Mode}
use Rattle.board_calls.specs.declared.mode.Mode.TheVariants.{OldestFirst, OldestFirstOverwrite, NewestOnly}
use Rattle.board_calls.specs.Modes.{FillsFor}
use Rattle.board_calls.specs.Dropped.{others}
use Rattle.script_trace.specs.Trace.{acquirer}

-- the mode that a line's number names; the grammar has 0 to 2
abbrev pub mode_of : ℕ → Mode
mode_of n = if n == 0 then OldestFirst else (if n == 1 then OldestFirstOverwrite else NewestOnly)

-- ---- fills

-- a buffer that came back is laid
abbrev pub laid_unless : Bool → ℕ → List Event
laid_unless true i = []
laid_unless false i = Lay i ∷ []

-- A retired block is filled into the output by the mode, and laid where the close mark stands.
pub record FillsBlock (mode : Mode) (x : Retired) (events : List Event) : Type 0 where
  pub dropped : List ℕ
  pub filled : Bool
  pub call : List Event
  pub fills : FillsFor mode dropped x.place x.buf filled call
  pub is : events ≡ call ++ laid_unless filled x.place

-- So each of these is, one after the other.
abbrev pub FillsInMode : Mode → List Retired → List Event → Type 0
FillsInMode mode [] events = events ≡ []
FillsInMode mode (x ∷ xs) events =
    (first : List Event) × (rest : List Event) × (events ≡ first ++ rest) × FillsBlock mode x first × FillsInMode mode xs rest

-- the place that a claim got, whether it was pooled or dropped for it
abbrev pub place_of : Option (ℕ × Bool) → Option ℕ
place_of None = None
place_of (Some got) = Some got.0

-- ---- dropped places

-- who drops what it takes: the acquisition, whatever claims `step` lines make
abbrev pub acquires : ℕ → Bool
acquires k = k == acquirer

-- the places that takes of these actors took, in order
abbrev pub taken_by : (ℕ → Bool) → List Entry → List ℕ
taken_by who [] = []
taken_by who (e ∷ es) = cond (who e.by) (handed_by e.event) [] ++ taken_by who es

-- the places that were handed out
abbrev pub handed_out : List Entry → List ℕ
handed_out h = taken_by (others acquires) h

-- the places that were dropped
abbrev pub dropped : List Entry → List ℕ
dropped h = taken_by acquires h
