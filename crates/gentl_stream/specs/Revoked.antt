-- The buffer that a revoke gives back.
use Rattle.std.specs.Prelude.{◌≡◌, length, Ok}
use Rattle.gev_types.specs.Filling.{Filling}
use Rattle.gentl_types.specs.declared.buffer_id.BufferId.{BufferId}
use Rattle.board_machine.specs.declared.events.Event.TheVariants.{Grab, Vacate}
use Rattle.buffer_words.specs.Passes.{Token, IsDown, size_at, Enters}

-- The place was taken in hand, where it had this buffer, of its word's size in bytes, and was made Vacant.
pub record GivesBack (id : BufferId) (f : Filling) (s t : Token) : Type 0 where
  pub middle : Token
  pub grabs : Enters s (Grab id.place id.generation (Ok tt)) middle
  pub lay_there : IsDown middle id.place f
  pub size : length f.bytes ≡ size_at middle id.place
  pub vacates : Enters middle (Vacate id.place) t
