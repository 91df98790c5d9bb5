-- What left the output in a history: handed out to the application, dropped by the acquisition, or swept.
use Rattle.std.specs.Prelude.{◌≡◌, ℕ, Bool, true, false, not, List, [], ◌∷◌, ◌++◌, length, replicate}
use Rattle.board_machine.specs.declared.events.Entry.{Entry}
use Rattle.board_machine.specs.declared.events.Event.{Event}
use Rattle.board_machine.specs.declared.events.Event.TheVariants.{Take, SweepOut}
use Rattle.board_machine.specs.declared.events.TakeEnd.TheVariants.{Taken}
use Rattle.board_machine.specs.Machine.{Item}
use Rattle.board_machine.specs.Handout.{marked, removed_items, items_handed_to}

-- What the takes of the acquisition's actors took, with the bytes and the record of its fill. It is
-- never handed out.
abbrev pub dropped_items : (ℕ → Bool) → List Entry → List Item
dropped_items acquires h = items_handed_to acquires h

-- the other actors
abbrev pub others : (ℕ → Bool) → ℕ → Bool
others acquires k = not (acquires k)

-- what the takes of other actors took: this is handed out
abbrev pub handed_out_items : (ℕ → Bool) → List Entry → List Item
handed_out_items acquires h = items_handed_to (others acquires) h

-- for each place that an event took out of the output, whether it was a sweep
abbrev pub sweeps_by : Event → List Bool
sweeps_by (SweepOut is) = replicate (length is) true
sweeps_by (Take (Taken i)) = false ∷ []
sweeps_by _ = []

abbrev pub sweep_marks : List Entry → List Bool
sweep_marks [] = []
sweep_marks (e ∷ es) = sweeps_by e.event ++ sweep_marks es

abbrev pub swept_items : List Entry → List Item
swept_items h = marked (sweep_marks h) (removed_items h)

-- exactly one of three
abbrev pub is_one : Bool → Bool → Bool → Bool
is_one true false false = true
is_one false true false = true
is_one false false true = true
is_one _ _ _ = false

-- At each position exactly one of three lists is marked.
abbrev pub ExactlyOne : List Bool → List Bool → List Bool → Type 0
ExactlyOne [] [] [] = Unit {0}
ExactlyOne (x ∷ xs) (y ∷ ys) (z ∷ zs) = (is_one x y z ≡ true) × ExactlyOne xs ys zs
ExactlyOne _ _ _ = ⊥
