-- The sizes of buffers: what an act leaves of a buffer's word, and histories whose buffers have one size.
use Rattle.std.specs.Prelude.{◌≡◌, ◌≢◌, ℕ, List, [], ◌∷◌, Ok}
use Rattle.gentl_types.specs.declared.word.Word.{Word}
use Rattle.gentl_types.specs.declared.word.State.TheVariants.{Vacant}
use Rattle.board_machine.specs.declared.events.Entry.{Entry}
use Rattle.board_machine.specs.declared.events.Event.{Event}
use Rattle.board_machine.specs.declared.events.Event.TheVariants.{Enrol}
use Rattle.board_machine.specs.Machine.{Board, word_at}

-- The word still names the same buffer: size and generation are as they were.
pub record KeepsBuffer (old new : Word) : Type 0 where
  pub size : new.size ≡ old.size
  pub generation : new.generation ≡ old.generation

-- a buffer that the event brings has this size, in bytes
abbrev pub BringsSize : ℕ → Event → Type 0
BringsSize size (Enrol i n (Ok g)) = n ≡ size
BringsSize size _ = Unit {0}

-- Each buffer that these entries bring has this size.
abbrev pub BringOneSize : ℕ → List Entry → Type 0
BringOneSize size [] = Unit {0}
BringOneSize size (e ∷ es) = BringsSize size e.event × BringOneSize size es

-- Each word that isn't Vacant has this size.
abbrev pub HaveOneSize : ℕ → Board → Type 0
HaveOneSize size b = (i : ℕ) → (word_at b i).state ≢ Vacant → (word_at b i).size ≡ size
