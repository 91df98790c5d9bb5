-- The buffer that an announce brings.
use Rattle.std.specs.Prelude.{◌≡◌, ℕ, replicate}
use Rattle.gev_types.specs.Filling.{Filling, empty_record}
use Rattle.gentl_types.specs.declared.buffer_id.BufferId.{BufferId}
use Rattle.board_machine.specs.declared.events.Event.TheVariants.{Lay}
use Rattle.buffer_words.specs.Passes.{Token, slot_at, gone, down, IsDown, Enters, Has}

-- a new buffer of this size, in bytes: zeros, and the empty record
abbrev pub fresh : ℕ → Filling
fresh size = record { bytes = replicate size 0; rec = empty_record }

-- The buffer of a place that the pass didn't have is set down there now.
pub record Brings (place : ℕ) (f : Filling) (s t : Token) : Type 0 where
  pub new : slot_at s place ≡ gone
  pub has : Has place (down f) s t

-- A new buffer of this size was set down at the place, and laid.
pub record LaysNew (id : BufferId) (size : ℕ) (s t : Token) : Type 0 where
  pub middle : Token
  pub fresh_there : IsDown middle id.place (fresh size)
  pub lays : Enters middle (Lay id.place) t
