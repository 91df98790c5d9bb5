-- What notes read of a board: the generations of its words, and the close mark.
use Rattle.std.specs.Prelude.{◌≡◌, ℕ}
use Rattle.board_machine.specs.Machine.{Board, word_at}

-- Both stay.
pub record KeepsMarks (b new : Board) : Type 0 where
  pub generation : (i : ℕ) → (word_at new i).generation ≡ (word_at b i).generation
  pub closed : new.closed ≡ b.closed
