-- What the acquisition dropped from the output, a list for each of its fills and claims.
use Rattle.std.specs.Prelude.{◌==◌, List, [], ◌∷◌, ◌++◌, take, Bool, true, false, Some, None, if◌then◌else◌}
use Rattle.board_machine.specs.declared.events.Entry.{Entry}
use Rattle.board_machine.specs.declared.events.Event.{Event}
use Rattle.board_machine.specs.declared.events.Event.TheVariants.{Claim, Fill, Take}
use Rattle.board_machine.specs.declared.events.TakeEnd.TheVariants.{Taken}
use Rattle.board_machine.specs.Machine.{Item}
use Rattle.board_machine.specs.Histories.{After}
use Rattle.script_trace.specs.Trace.{Trace, Part, acquirer}

-- what an act of the acquisition is to the output's entries
pub data Doing : Type 0 where
  -- it drops the first of them
  drops : Doing
  -- it fills: what was dropped before it gave way to this one
  fills : Doing
  -- it claims a place of the pool, and drops none
  gets : Doing
  -- it found the pool empty: what the claim drops comes right behind it
  seeks : Doing
  other : Doing

abbrev pub doing_of : Event → Doing
doing_of (Take (Taken i)) = drops
doing_of (Fill i f filled) = fills
doing_of (Claim (Some i)) = gets
doing_of (Claim None) = seeks
doing_of _ = other

abbrev pub doing : Entry → Doing
doing e = if e.by == acquirer then doing_of e.event else other

-- the first entry of the output after this history
abbrev pub first_item : List Entry → List Item
first_item h = take 1 (After h).out

-- what a seeking claim dropped
abbrev pub sought : Bool → Doing → List Item → List (List Item)
sought false d item = []
sought true drops item = item ∷ []
sought true fills item = [] ∷ []
sought true gets item = [] ∷ []
sought true seeks item = [] ∷ []
sought true other item = [] ∷ []

-- what is told at an act
abbrev pub told_at : Doing → List Item → List (List Item)
told_at drops before = []
told_at fills before = before ∷ []
told_at gets before = [] ∷ []
told_at seeks before = []
told_at other before = []

-- what waits for a fill, behind an act
abbrev pub waits : Bool → Doing → List Item → List Item → List Item
waits true drops item before = before
waits false drops item before = before ++ item
waits seeking fills item before = []
waits seeking gets item before = before
waits seeking seeks item before = before
waits seeking other item before = before

abbrev pub is_seeking : Doing → Bool
is_seeking drops = false
is_seeking fills = false
is_seeking gets = false
is_seeking seeks = true
is_seeking other = false

-- the lists of these acts, behind this history
abbrev pub drops_from : List Entry → Bool → List Item → List Entry → List (List Item)
drops_from h seeking before [] = sought seeking other []
drops_from h seeking before (e ∷ es) =
    sought seeking (doing e) (first_item h)
    ++ (told_at (doing e) before
    ++ drops_from (h ++ e ∷ []) (is_seeking (doing e)) (waits seeking (doing e) (first_item h) before) es)

-- those of a part of a trace
abbrev pub drops_in : Trace → Part → List (List Item)
drops_in t part = drops_from t.entries false [] part.entries
