-- The order in which filled buffers are handed out, told by the history alone.
use Rattle.std.specs.Prelude.{◌≡◌, ℕ, ◌==◌, Bool, true, false, cond, List, [], ◌∷◌, ◌++◌, length, take, replicate}
use Rattle.board_machine.specs.declared.events.Entry.{Entry}
use Rattle.board_machine.specs.declared.events.Event.{Event}
use Rattle.board_machine.specs.declared.events.Event.TheVariants.{Fill, Take, SweepOut, Close}
use Rattle.board_machine.specs.declared.events.TakeEnd.TheVariants.{Taken}
use Rattle.board_machine.specs.Places.{IsPrefix}
use Rattle.board_machine.specs.Machine.{Item, item, places}

-- what an event put into the output
abbrev pub filled_by : Event → List Item
filled_by (Fill i f true) = item i f ∷ []
filled_by _ = []

-- the places that an event took out of the output
abbrev pub removed_by : Event → List ℕ
removed_by (Take (Taken i)) = i ∷ []
removed_by (SweepOut is) = is
removed_by _ = []

-- the place that an event handed to a consumer
abbrev pub handed_by : Event → List ℕ
handed_by (Take (Taken i)) = i ∷ []
handed_by _ = []

-- all that was put into the output, in order
abbrev pub filled : List Entry → List Item
filled [] = []
filled (e ∷ es) = filled_by e.event ++ filled es

-- the places that were taken out of the output, in order
abbrev pub removed : List Entry → List ℕ
removed [] = []
removed (e ∷ es) = removed_by e.event ++ removed es

-- the part of these that was taken, and not swept
abbrev pub handed : List Entry → List ℕ
handed [] = []
handed (e ∷ es) = handed_by e.event ++ handed es

-- What was taken out of the output, with the bytes and the record of the fill at the same position.
abbrev pub removed_items : List Entry → List Item
removed_items h = take (length (removed h)) (filled h)

-- for each place that actor k's event took out of the output, whether a take of one of these actors took it
abbrev pub marks_by : (ℕ → Bool) → ℕ → Event → List Bool
marks_by who k (Take (Taken i)) = who k ∷ []
marks_by who k (SweepOut is) = replicate (length is) false
marks_by who k _ = []

-- for each place that was taken out of the output, whether a take of one of these actors took it
abbrev pub marks : (ℕ → Bool) → List Entry → List Bool
marks who [] = []
marks who (e ∷ es) = marks_by who e.by e.event ++ marks who es

-- the members that are marked
abbrev pub marked : {A : Type 0} → List Bool → List A → List A
marked [] xs = []
marked (mark ∷ ms) [] = []
marked (mark ∷ ms) (x ∷ xs) = cond mark (x ∷ marked ms xs) (marked ms xs)

-- What the takes of these actors took out of the output, with the bytes and the record of its fill.
abbrev pub items_handed_to : (ℕ → Bool) → List Entry → List Item
items_handed_to who h = marked (marks who h) (removed_items h)

abbrev pub every_actor : ℕ → Bool
every_actor k = true

abbrev pub only_actor : ℕ → ℕ → Bool
only_actor k n = n == k

-- what takes took, whoever made them
abbrev pub handed_items : List Entry → List Item
handed_items h = items_handed_to every_actor h

-- what the takes of actor k took
abbrev pub taken_items : ℕ → List Entry → List Item
taken_items k h = items_handed_to (only_actor k) h

-- First filled is first removed; and after a close no fill and no take succeeds.
pub record IsLegal (h : List Entry) : Type 0 where
  pub in_order : (front rest : List Entry) → h ≡ front ++ rest → IsPrefix (removed front) (places (filled front))
  pub no_fill : (front rest : List Entry) (e : Entry) → h ≡ front ++ e ∷ rest → e.event ≡ Close → filled rest ≡ []
  pub no_take : (front rest : List Entry) (e : Entry) → h ≡ front ++ e ∷ rest → e.event ≡ Close → handed rest ≡ []
