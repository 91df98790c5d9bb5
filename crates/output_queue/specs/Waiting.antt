-- What a look at the output's length finds.
use Rattle.std.specs.Prelude.{◌≡◌, ℕ, Bool, List, length}
use Rattle.board_machine.specs.declared.events.Event.TheVariants.{LookOut}
use Rattle.buffer_words.specs.Passes.{Token, Enters}

-- The output had this many places, and the close mark stood or not.
pub record FindsWaiting (s : Token) (count : ℕ) (closed : Bool) (t : Token) : Type 0 where
  pub places : List ℕ
  pub all : count ≡ length places
  pub entry : Enters s (LookOut places closed) t
