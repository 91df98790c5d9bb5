-- The output's word, and what each kind of step on it tells.
use Rattle.std.specs.Prelude.{◌≡◌, ◌≢◌, Some, true, false, ℕ, ◌+◌, ◌-◌, ◌%◌, ◌^◌, ◌<◌, ◌≤◌, Bool, MatchBool, List, [], ◌∷◌, ◌++◌}
use Rattle.gev_types.specs.Filling.{Filling}
use Rattle.gev_types.specs.Limits.{place_count}
use Rattle.atomic_table.specs.Table.{Step}
use Rattle.board_machine.specs.declared.events.Entry.{Entry}
use Rattle.board_machine.specs.declared.events.Event.TheVariants.{LookOut, Fill, Take, SweepOut, Close}
use Rattle.board_machine.specs.declared.events.TakeEnd.TheVariants.{Taken, Empty, Closed}
use Rattle.board_machine.specs.Places.{times}
use Rattle.board_machine.specs.Machine.{Item, item, places}
use Rattle.board_machine.specs.Histories.{After}
use Rattle.board_machine.specs.Handout.{removed_items}
use Rattle.buffer_words.specs.Codes.{out_code, mark_code}
use Rattle.buffer_words.specs.Rule.{Slot}
use Rattle.buffer_words.specs.Plays.{Seated, IsFront, ReadsQueue, LooksAt, TakesBuffer, GivesBack}
use Rattle.buffer_words.specs.Swept.{TakesAll}

-- The fields of the number, four bits each, are these places plus 1, the first in the lowest; no place twice.
pub record AreFields (n : ℕ) (is : List ℕ) : Type 0 where
  pub number : n ≡ out_code is
  pub single : (i : ℕ) → times i is ≤ 1
  pub below : (i : ℕ) → 1 ≤ times i is → i < place_count

-- The number has such fields and nothing else.
pub record HasFields (n : ℕ) : Type 0 where
  pub places : List ℕ
  pub are : AreFields n places

-- Whether the close mark stands in the number.
abbrev pub IsMarked : ℕ → Bool → Type 0
IsMarked n closed = MatchBool closed (2 ^ 60 ≤ n) (n < 2 ^ 60)

-- The output's word is this number: its places, first in first, and the close mark.
pub record IsOut (n : ℕ) (is : List ℕ) (closed : Bool) : Type 0 where
  pub fields : AreFields (n % 2 ^ 60) is
  pub mark : IsMarked n closed

-- the output's word after this history
abbrev pub SeesOut : List Entry → ℕ → Type 0
SeesOut h n = n ≡ out_code (places (After h).out) + mark_code (After h).closed

abbrev pub ReadsOut : Seated → ℕ → Seated → Type 0
ReadsOut before found after = ReadsQueue SeesOut before found after

-- A look at the output.
pub record LooksOut (before : Seated) (found : ℕ) (after : Seated) : Type 0 where
  pub places : List ℕ
  pub closed : Bool
  pub is : IsOut found places closed
  pub looks : LooksAt before (LookOut places closed) after

abbrev pub looked_out : Step Slot → Seated → ℕ → Seated → Type 0
looked_out st before found after = LooksOut before found after

-- The close mark is set, whatever stood there.
abbrev pub closed_out : Step Slot → Seated → ℕ → Seated → Type 0
closed_out st before found after = LooksAt before Close after

-- A sweep of the output: all of its places, first in first. The mark stays.
pub record SweepsOut (before : Seated) (found : ℕ) (after : Seated) : Type 0 where
  pub places : List ℕ
  pub fields : AreFields (found % 2 ^ 60) places
  pub takes : TakesAll before (SweepOut places) places after

abbrev pub swept_out : Step Slot → Seated → ℕ → Seated → Type 0
swept_out st before found after = SweepsOut before found after

-- the place in the lowest field
abbrev pub first_in : ℕ → ℕ
first_in n = n % 16 - 1

-- A take: the slot of the output's first place is taken up, with the bytes and the record of its fill.
pub record TakesOut (before : Seated) (place : ℕ) (after : Seated) : Type 0 where
  pub takes : TakesBuffer before (Take (Taken place)) place after
  pub earlier : List Item
  pub removed : removed_items after.0.seen ≡ earlier ++ item place takes.filling ∷ []

-- A take's load: the mark stands, or the output is empty, or nothing was added.
abbrev pub saw_first : Step Slot → Seated → ℕ → Seated → Type 0
saw_first st before found after =
    (2 ^ 60 ≤ found → LooksAt before (Take Closed) after)
    × (found ≡ 0 → LooksAt before (Take Empty) after)
    × (0 < found → found < 2 ^ 60 → ReadsOut before found after)

-- A take's exchange: the word was the one that was read, or nothing was added.
abbrev pub took : Step Slot → Seated → ℕ → Seated → Type 0
took st before found after =
    (found ≡ st.first → TakesOut before (first_in st.first) after)
    × (found ≢ st.first → ReadsOut before found after)

-- the lowest power of 16 above the number
pub record IsUnit (n unit : ℕ) : Type 0 where
  pub fields : ℕ
  pub power : unit ≡ 16 ^ fields
  pub above : n < unit
  pub lowest : (k : ℕ) → n < 16 ^ k → fields ≤ k

-- the number with one more field, for this place
abbrev pub HasLast : ℕ → ℕ → ℕ → Type 0
HasLast n i more = (is : List ℕ) → AreFields n is → more ≡ out_code (is ++ i ∷ [])

-- The close mark stands: the buffer in the slot in front stays in hand.
pub record RefusesFill (before : Seated) (place : ℕ) (after : Seated) : Type 0 where
  pub filling : Filling
  pub front : IsFront before place (Some filling)
  pub looks : LooksAt before (Fill place filling false) after

-- A fill: the slot in front is given back, and its buffer is the last one of the output.
pub record FillsOut (before : Seated) (place : ℕ) (after : Seated) : Type 0 where
  pub filling : Filling
  pub front : IsFront before place (Some filling)
  pub gives : GivesBack before (Fill place filling true) after

-- A fill's load: the mark stands, or nothing was added.
abbrev pub saw_mark : ℕ → Step Slot → Seated → ℕ → Seated → Type 0
saw_mark place st before found after = (2 ^ 60 ≤ found → RefusesFill before place after) × (found < 2 ^ 60 → ReadsOut before found after)

-- A fill's exchange: the word was the one that was read, or nothing was added.
abbrev pub filled : ℕ → Step Slot → Seated → ℕ → Seated → Type 0
filled place st before found after =
    (found ≡ st.first → FillsOut before place after)
    × (found ≢ st.first → ReadsOut before found after)
