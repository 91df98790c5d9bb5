-- What gave way to another image.
use Rattle.std.specs.Prelude.{◌≡◌, List, ◌∷◌}
use Rattle.board_machine.specs.Machine.{Item}
use Rattle.board_model.specs.declared.gone.Gone.{Gone}

-- an entry of the output, as it is told
abbrev pub gone_of : Item → Gone
gone_of x = record { place = x.place; block = x.filling.rec.block }

-- it was the output's first entry, and is no more
pub record WasGone (before : List Item) (gone : Gone) (after : List Item) : Type 0 where
  pub entry : Item
  pub first : before ≡ entry ∷ after
  pub is : gone ≡ gone_of entry
