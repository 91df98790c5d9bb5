-- The ids of the buffers that an actor took: each place with the generation that its word had at the take.
use Rattle.std.specs.Prelude.{◌≡◌, ℕ, ◌==◌, cond, List, [], ◌∷◌, ◌++◌}
use Rattle.gentl_types.specs.declared.buffer_id.BufferId.{BufferId}
use Rattle.board_machine.specs.declared.events.Entry.{Entry}
use Rattle.board_machine.specs.declared.events.Event.{Event}
use Rattle.board_machine.specs.declared.events.Event.TheVariants.{Take}
use Rattle.board_machine.specs.declared.events.TakeEnd.TheVariants.{Taken}
use Rattle.board_machine.specs.Machine.{Board, empty_board, next}
use Rattle.board_machine.specs.Ids.{buffer_at}
use Rattle.buffer_words.specs.Passes.{Token}

-- the id of the buffer that an event took on this board
abbrev pub id_taken : Board → Event → List BufferId
id_taken b (Take (Taken place)) = buffer_at b place ∷ []
id_taken b _ = []

-- the ids of the buffers that actor n's takes got as these entries came on this board
abbrev pub ids_from : ℕ → Board → List Entry → List BufferId
ids_from n b [] = []
ids_from n b (e ∷ es) = cond (e.by == n) (id_taken b e.event) [] ++ ids_from n (next b e) es

-- the ids of the buffers that actor n took in this history
abbrev pub taken_ids : ℕ → List Entry → List BufferId
taken_ids n h = ids_from n empty_board h

-- The ids of what the pass has taken have grown by these.
abbrev pub TakesIds : List BufferId → Token → Token → Type 0
TakesIds ids s t = taken_ids s.number t.seen ≡ taken_ids s.number s.seen ++ ids
