-- What a fill takes from a pass, and what a take gives it.
use Rattle.std.specs.Prelude.{◌≡◌, ℕ, ◌<◌, Bool, true, false, List, [], ◌∷◌, ◌++◌, length}
use Rattle.gev_types.specs.Filling.{Filling}
use Rattle.gev_types.specs.Limits.{place_count}
use Rattle.board_machine.specs.declared.events.Event.TheVariants.{Fill}
use Rattle.board_machine.specs.declared.events.TakeEnd.{TakeEnd}
use Rattle.board_machine.specs.declared.events.TakeEnd.TheVariants.{Taken, Empty, Closed}
use Rattle.board_machine.specs.Machine.{Item, item}
use Rattle.board_machine.specs.Handout.{removed_items, taken_items}
use Rattle.buffer_words.specs.Passes.{Token, slot_at, gone, down, IsDown, size_at, Enters, SameHands, Has}

-- The buffer is gone where it was put into the output, and in hand where the close mark stood.
abbrev pub AfterFill : Bool → ℕ → Token → Token → Type 0
AfterFill true i s t = Has i gone s t
AfterFill false i s t = SameHands s t

-- The fill's entry has the buffer that was set down at the place.
pub record DidFill (i : ℕ) (filled : Bool) (s t : Token) : Type 0 where
  pub filling : Filling
  pub was : IsDown s i filling
  pub entry : Enters s (Fill i filling filled) t
  pub hands : AfterFill filled i s t

-- The pass gets the buffer of a place that it didn't have, with the bytes and the record of its fill: what
-- was taken out of the output ends with it, and what this pass's actor has taken has grown by it alone.
pub record HandsOver (i : ℕ) (s t : Token) : Type 0 where
  pub below : i < place_count
  pub new : slot_at s i ≡ gone
  pub filling : Filling
  pub has : Has i (down filling) s t
  pub size : length filling.bytes ≡ size_at t i
  pub earlier : List Item
  pub removed : removed_items t.seen ≡ earlier ++ item i filling ∷ []
  pub taken : taken_items s.number t.seen ≡ taken_items s.number s.seen ++ item i filling ∷ []

-- The pass gets the buffer that was taken, where there was one.
abbrev pub HandsOne : TakeEnd → Token → Token → Type 0
HandsOne (Taken place) s t = HandsOver place s t
HandsOne Empty s t = SameHands s t
HandsOne Closed s t = SameHands s t
