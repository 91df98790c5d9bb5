-- Flush 0, INPUT_TO_OUTPUT, by what lay in the pool: each buffer goes to the output with its bytes and the
-- empty record.
use Rattle.std.specs.Prelude.{◌≡◌, ℕ, Bool, List, [], ◌∷◌, ◌++◌}
use Rattle.gev_types.specs.Filling.{Filling, empty_record}
use Rattle.board_machine.specs.declared.events.Event.{Event}
use Rattle.board_machine.specs.declared.events.Event.TheVariants.{SweepPool}
use Rattle.board_calls.specs.Rounds.{filled_or_laid}
use Rattle.buffer_words.specs.Passes.{Token, IsDown, Enters}
use Rattle.buffer_words.specs.Swept.{GetsAll}
use Rattle.buffer_words.specs.Several.{EntersOf}

-- the buffer with its bytes and the empty record
abbrev pub emptied : Filling → Filling
emptied f = record { bytes = f.bytes; rec = empty_record }

-- The place is filled with the bytes that lay there and the empty record, or laid where the close mark stood.
pub record FillsEmptied (s : Token) (i : ℕ) (es : List Event) : Type 0 where
  pub filling : Filling
  pub lay_there : IsDown s i filling
  pub filled : Bool
  pub is : es ≡ filled_or_laid i (emptied filling) filled

-- So is each of these places, in order.
abbrev pub FillAllEmptied : Token → List ℕ → List Event → Type 0
FillAllEmptied s [] es = es ≡ []
FillAllEmptied s (i ∷ is) es =
    (one : List Event) × (rest : List Event) × FillsEmptied s i one × (es ≡ one ++ rest) × FillAllEmptied s is rest

-- The pool is swept, and so is each place that it had, lowest first.
pub record EmptiesPool (s t : Token) : Type 0 where
  pub pooled : List ℕ
  pub swept : Token
  pub sweeps : Enters s (SweepPool pooled) swept
  pub gets : GetsAll pooled s swept
  pub fills : EntersOf swept (FillAllEmptied swept pooled) t
