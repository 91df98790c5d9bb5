-- What a step tells the pass that made it.
use Rattle.std.specs.Prelude.{◌≡◌, ℕ, List, [], ◌∷◌, ◌++◌}
use Rattle.board_machine.specs.declared.events.Entry.{Entry}
use Rattle.board_machine.specs.declared.events.Event.{Event}
use Rattle.board_machine.specs.Machine.{word_at, hand_at, entry, InHand}
use Rattle.board_machine.specs.Histories.{Run, After, own_of}
use Rattle.board_machine.specs.Laws.{IsAlone}
use Rattle.buffer_words.specs.declared.view.View.{View}
use Rattle.buffer_words.specs.declared.view.Stage.TheVariants.{Idle}

-- What actor n had seen has grown by entries of others, by none where it was the only actor. They left its
-- hands and the words of the places in them.
pub record Grew (n : ℕ) (seen between : List Entry) : Type 0 where
  pub others : own_of n between ≡ []
  pub alone : IsAlone (After seen) n → between ≡ []
  pub hand : hand_at (After (seen ++ between)) n ≡ hand_at (After seen) n
  pub words : (i : ℕ) → InHand (After seen) n i → word_at (After (seen ++ between)) i ≡ word_at (After seen) i

-- What was seen has grown by others' entries, and then by this one.
pub record Entered (v : View) (event : Event) (w : View) : Type 0 where
  pub number : w.number ≡ v.number
  pub stage : w.stage ≡ Idle
  pub run : Run w.seen
  pub between : List Entry
  pub seen : w.seen ≡ (v.seen ++ between) ++ entry v.number event ∷ []
  pub grew : Grew v.number v.seen between

-- What was seen has grown by others' entries.
pub record Grows (v w : View) : Type 0 where
  pub number : w.number ≡ v.number
  pub between : List Entry
  pub seen : w.seen ≡ v.seen ++ between
  pub grew : Grew v.number v.seen between

-- A step that added nothing.
pub record Waited (v w : View) : Type 0 where
  pub grows : Grows v w
  pub stage : w.stage ≡ Idle
  pub run : Run w.seen
