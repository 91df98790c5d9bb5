-- What lies at each place, told by the history: the bytes and the record of the last fill, whatever it was
-- answered, since the buffer came; before the first fill zeros, and the empty record.
use Rattle.std.specs.Prelude.{◌≡◌, ⊤, ℕ, ◌⊎◌, List, [], ◌∷◌, replicate, slice_set, Option, Some, Ok}
use Rattle.gev_types.specs.Filling.{Filling}
use Rattle.gev_types.specs.Limits.{place_count}
use Rattle.board_machine.specs.declared.events.Entry.{Entry}
use Rattle.board_machine.specs.declared.events.Event.{Event}
use Rattle.board_machine.specs.declared.events.Event.TheVariants.{Enrol, Vacate, Fill}
use Rattle.board_model.specs.Plain.{lying, nothing}
use Rattle.board_model.specs.Holdings.{emptied, fresh}
use Rattle.script_trace.specs.Trace.{acquirer}

abbrev pub content_after : List (Option Filling) → Event → List (Option Filling)
content_after contents (Enrol i size (Ok g)) = slice_set contents i (Some (fresh size))
content_after contents (Vacate i) = slice_set contents i nothing
content_after contents (Fill i f filled) = slice_set contents i (Some f)
content_after contents _ = contents

abbrev pub contents_from : List (Option Filling) → List Entry → List (Option Filling)
contents_from contents [] = contents
contents_from contents (e ∷ es) = contents_from (content_after contents e.event) es

-- what lies at the places after this history
abbrev pub contents_of : List Entry → List (Option Filling)
contents_of h = contents_from (replicate place_count nothing) h

-- A fill is the acquisition's, or has the bytes that lay there and the empty record.
abbrev pub FillsAsLay : List (Option Filling) → ℕ → Event → Type 0
FillsAsLay contents k (Fill i f filled) = (k ≡ acquirer) ⊎ (Some f ≡ emptied (lying contents i))
FillsAsLay contents k _ = ⊤

-- so each of these entries does
abbrev pub FillsFrom : List (Option Filling) → List Entry → Type 0
FillsFrom contents [] = ⊤
FillsFrom contents (e ∷ es) = FillsAsLay contents e.by e.event × FillsFrom contents es
