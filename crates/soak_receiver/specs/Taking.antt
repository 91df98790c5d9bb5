-- What it is to take the output's first buffer, to return it and to queue it.
use Rattle.std.specs.Prelude.{◌≡◌, ℕ, ◌<◌, Bool, List, [], ◌∷◌, ◌++◌, Option, None, Some, Ok}
use Rattle.gev_types.specs.Filling.{Filling}
use Rattle.gev_types.specs.Limits.{place_count}
use Rattle.gentl_types.specs.declared.buffer_id.BufferId.{BufferId}
use Rattle.gev_report.specs.ReplayLines.{take_line}
use Rattle.gev_script.specs.Lines as line
use Rattle.board_machine.specs.declared.events.Event.TheVariants.{Take, Lay, Grab, Pool}
use Rattle.board_machine.specs.declared.events.TakeEnd.TheVariants.{Taken}
use Rattle.board_machine.specs.Machine.{Board, Item, item, word_at, IsHeldAs}
use Rattle.board_model.specs.Plain.{content_at}
use Rattle.script_trace.specs.Trace.{caller}
use Rattle.board_machine.specs.Ids.{buffer_at}
use Rattle.script_replay.specs.declared.running.Running.{Running}
use Rattle.world_laws.specs.Receiver.{Receiver, acts_on, waiting, takes_one}
use Rattle.soak_receiver.specs.Moves.{Moves, unchanged}

-- the board after the output's first buffer, of this place, was taken and returned
abbrev pub returned : ℕ → Board → Board
returned place b = acts_on caller (Take (Taken place) ∷ Lay place ∷ []) b

-- the board after a held buffer was queued
abbrev pub queued : BufferId → Board → Board
queued id b = acts_on caller (Grab id.place id.generation (Ok tt) ∷ Pool id.place ∷ []) b

-- this happened to the receiver's board
abbrev pub on_board : (Board → Board) → Receiver → Receiver
on_board change r = record r { board = change r.board }

-- The output's first buffer was taken and returned: it lies at its place, held, under this id.
pub record TookFirst (id : BufferId) (old new : Running) : Type 0 where
  pub filling : Filling
  pub rest : List Item
  pub first : waiting old.board.board ≡ item id.place filling ∷ rest
  pub is : id ≡ buffer_at old.board.board id.place
  pub lies : content_at new.board id.place ≡ Some filling
  pub within : id.place < place_count
  pub held : IsHeldAs (word_at new.board.board id.place) id.generation
  pub moves : Moves (line.take ∷ []) (on_board (returned id.place)) old new

-- There was nothing to take.
pub record TookNothing (old new : Running) : Type 0 where
  pub none : waiting old.board.board ≡ []
  pub moves : Moves (line.take ∷ []) unchanged old new

-- The first buffer was taken, told, returned and queued, and its record is complete or isn't.
pub record TakesItem (complete : Bool) (old : Running) (said said_after : List ℕ) (new : Running) : Type 0 where
  pub first : Item
  pub rest : List Item
  pub waits : waiting old.board.board ≡ first ∷ rest
  pub complete_is : complete ≡ first.filling.rec.complete
  pub told : said_after ≡ said ++ take_line (buffer_at old.board.board first.place) first.filling
  pub moves :
      Moves (line.take ∷ line.queue first.place (word_at old.board.board first.place).generation ∷ []) (takes_one first) old new

-- by whether there was something to take
abbrev pub TakesFirst : Option Bool → Running → List ℕ → List ℕ → Running → Type 0
TakesFirst None old said said_after new = (said_after ≡ said) × TookNothing old new
TakesFirst (Some complete) old said said_after new = TakesItem complete old said said_after new
