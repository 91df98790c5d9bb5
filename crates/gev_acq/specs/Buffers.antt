-- The buffers of a receiver's open blocks, and the hands of the pass that serves it.
use Rattle.std.specs.Prelude.{◌≡◌, ◌≢◌, ⊤, ℕ, ◌≤◌, List, [], ◌∷◌}
use Rattle.board_machine.specs.Places.{times}
use Rattle.acquisition_machine.specs.Blocks.{Given}
use Rattle.buffer_words.specs.Passes.{Token, slot_at, gone, IsLifted, size_at}

abbrev pub places_of : List Given → List ℕ
places_of [] = []
places_of (g ∷ gs) = g.place ∷ places_of gs

-- The buffer was lifted from a place in hand, and has the size of the place's word.
pub record IsBacked (s : Token) (g : Given) : Type 0 where
  pub lifted : IsLifted s g.place
  pub size : g.size ≡ size_at s g.place

abbrev pub AreBacked : Token → List Given → Type 0
AreBacked s [] = ⊤
AreBacked s (g ∷ gs) = IsBacked s g × AreBacked s gs

-- These buffers are of different places, each lifted in hand.
pub record Backs (s : Token) (gs : List Given) : Type 0 where
  pub single : (i : ℕ) → times i (places_of gs) ≤ 1
  pub backed : AreBacked s gs

-- The pass has no other place in hand.
abbrev pub HoldsAlone : Token → List Given → Type 0
HoldsAlone s gs = (i : ℕ) → slot_at s i ≢ gone → 1 ≤ times i (places_of gs)
