-- What a contract sees of a pass, and what a call does to it.
use Rattle.std.specs.Prelude.{◌≡◌, ◌≢◌, ℕ, ◌<◌, ◌≤◌, ◌==◌, cond, List, [], ◌∷◌, ◌++◌, length, Option, Some, None}
use Rattle.gev_types.specs.Filling.{Filling}
use Rattle.gev_types.specs.Limits.{place_count}
use Rattle.atomic_table.specs.Seated.{TableId}
use Rattle.board_machine.specs.declared.events.Entry.{Entry}
use Rattle.board_machine.specs.declared.events.Event.{Event}
use Rattle.board_machine.specs.Places.{times}
use Rattle.board_machine.specs.Machine.{word_at, hand, entry, IsActor}
use Rattle.board_machine.specs.Histories.{Run, After, own_of}
use Rattle.board_machine.specs.Sizes.{KeepsBuffer}
use Rattle.buffer_words.specs.declared.view.View.{View}
use Rattle.buffer_words.specs.declared.view.Stage.TheVariants.{Idle}
use Rattle.buffer_words.specs.Rule.{Slot, Slots}
use Rattle.buffer_words.specs.Told.{Grew}

-- A pass: of which board, the number of its actor, the history that it has seen, and the slots that it has.
pub record Token : Type 0 where
  pub table : TableId
  pub number : ℕ
  pub seen : List Entry
  pub slots : Slots

abbrev pub slot_places : Slots → List ℕ
slot_places [] = []
slot_places (x ∷ c) = x.0 ∷ slot_places c

abbrev pub slot_of : ℕ → Slots → Option Slot
slot_of i [] = None
slot_of i (x ∷ c) = cond (x.0 == i) (Some x.1) (slot_of i c)

-- each place once
abbrev pub IsSingle : Slots → Type 0
IsSingle c = (i : ℕ) → times i (slot_places c) ≤ 1

-- What a pass has of a place: nothing, its empty slot (it's lifted), or a buffer that is set down in it.
abbrev pub slot_at : Token → ℕ → Option Slot
slot_at s i = slot_of i s.slots

abbrev pub gone : Option Slot
gone = None

abbrev pub lifted : Option Slot
lifted = Some None

abbrev pub down : Filling → Option Slot
down f = Some (Some f)

abbrev pub IsLifted : Token → ℕ → Type 0
IsLifted s i = slot_at s i ≡ lifted

abbrev pub IsDown : Token → ℕ → Filling → Type 0
IsDown s i f = slot_at s i ≡ down f

-- a buffer is set down
pub record IsWhole (s : Token) (i : ℕ) : Type 0 where
  pub filling : Filling
  pub is : IsDown s i filling

abbrev pub IsEmptyHanded : Token → Type 0
IsEmptyHanded s = (i : ℕ) → slot_at s i ≡ gone

-- the entries of the pass's actor, as far as it has seen
abbrev pub own : Token → List Entry
own s = own_of s.number s.seen

-- the size of the place's buffer, by the word that the pass knows
abbrev pub size_at : Token → ℕ → ℕ
size_at s i = (word_at (After s.seen) i).size

-- The call adds this entry: what was seen has grown by others' entries, and then by this one.
pub record Enters (s : Token) (event : Event) (t : Token) : Type 0 where
  pub table : t.table ≡ s.table
  pub number : t.number ≡ s.number
  pub run : Run t.seen
  pub between : List Entry
  pub seen : t.seen ≡ (s.seen ++ between) ++ entry s.number event ∷ []
  pub grew : Grew s.number s.seen between

-- The call adds nothing; others' entries may be seen.
pub record GrowsTo (s t : Token) : Type 0 where
  pub table : t.table ≡ s.table
  pub number : t.number ≡ s.number
  pub between : List Entry
  pub seen : t.seen ≡ s.seen ++ between
  pub grew : Grew s.number s.seen between

-- The call sees nothing.
pub record Stays (s t : Token) : Type 0 where
  pub table : t.table ≡ s.table
  pub number : t.number ≡ s.number
  pub seen : t.seen ≡ s.seen

-- What the pass has of a place is as it was, and what it has there stays the same buffer.
pub record SamePlace (i : ℕ) (s t : Token) : Type 0 where
  pub slot : slot_at t i ≡ slot_at s i
  pub buffer : slot_at s i ≢ gone → KeepsBuffer (word_at (After s.seen) i) (word_at (After t.seen) i)

abbrev pub SameHands : Token → Token → Type 0
SameHands s t = (i : ℕ) → SamePlace i s t

-- What the pass has of this place is this, and of every other place what it was.
pub record Has (i : ℕ) (x : Option Slot) (s t : Token) : Type 0 where
  pub here : slot_at t i ≡ x
  pub others : (j : ℕ) → j ≢ i → SamePlace j s t

-- The pass gets the buffer of a place that it didn't have.
pub record Gets (i : ℕ) (s t : Token) : Type 0 where
  pub below : i < place_count
  pub new : slot_at s i ≡ gone
  pub filling : Filling
  pub has : Has i (down filling) s t
  pub size : length filling.bytes ≡ size_at t i

-- The slots of a pass are those of the places in its hands, and each buffer in them has its word's size.
pub record Carries (n : ℕ) (seen : List Entry) (c : Slots) : Type 0 where
  pub run : Run seen
  pub actor : IsActor (After seen) n
  pub once : (i : ℕ) → times i (slot_places c) ≡ times i (hand (After seen) n)
  pub sizes : (i : ℕ) (f : Filling) → slot_of i c ≡ Some (Some f) → length f.bytes ≡ (word_at (After seen) i).size

-- A pass with the order of its slots.
pub record IsPass (held : List ℕ) (v : View) (c : Slots) : Type 0 where
  pub order : held ≡ slot_places c
  pub idle : v.stage ≡ Idle
  pub carries : Carries v.number v.seen c
