-- What a queue adds: the entry of its grab, and where that succeeded the entry of its pool.
use Rattle.std.specs.Prelude.{ℕ, Ok}
use Rattle.board_machine.specs.declared.events.Event.TheVariants.{Grab, Pool}
use Rattle.buffer_words.specs.Passes.{Token, Enters}

-- The buffer with this generation was grabbed and then put into the pool; others' entries may stand between.
pub record QueuesIn (s : Token) (place generation : ℕ) (t : Token) : Type 0 where
  pub middle : Token
  pub grabs : Enters s (Grab place generation (Ok tt)) middle
  pub pools : Enters middle (Pool place) t
