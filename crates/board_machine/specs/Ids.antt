-- The id of a buffer: its place with the generation of the place's word.
use Rattle.std.specs.Prelude.{ℕ}
use Rattle.gentl_types.specs.declared.buffer_id.BufferId.{BufferId}
use Rattle.board_machine.specs.Machine.{Board, word_at}

-- the id of the buffer that a place has now
abbrev pub buffer_at : Board → ℕ → BufferId
buffer_at b place = record { place = place; generation = (word_at b place).generation }
