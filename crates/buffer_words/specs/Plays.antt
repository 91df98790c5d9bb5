-- What each kind of step on a place's word tells, of the step, the pass before, the number found and the
-- pass after.
use Rattle.std.specs.Prelude.{◌≡◌, ◌≢◌, ℕ, ◌+◌, ◌<◌, ◌^◌, List, [], ◌∷◌, length, Some, None, Ok, Err}
use Rattle.gev_types.specs.Filling.{Filling}
use Rattle.atomic_table.specs.Table.{Step, Me, rest}
use Rattle.board_machine.specs.declared.events.Event.{Event}
use Rattle.board_machine.specs.declared.events.Event.TheVariants.{Look, LookPool, Enrol, Grab, Lay, Vacate, Pool, Claim, Split, Join}
use Rattle.board_machine.specs.Machine.{word_at, InHand, IsHeldAs, CanEnrol}
use Rattle.board_machine.specs.Histories.{After, own_of}
use Rattle.board_machine.specs.Laws.{IsEnded}
use Rattle.board_machine.specs.Places.{IsPrefix, IsRising}
use Rattle.board_machine.specs.declared.events.Entry.{Entry}
use Rattle.buffer_words.specs.declared.view.View.{View}
use Rattle.buffer_words.specs.declared.view.Stage.{Stage}
use Rattle.buffer_words.specs.declared.view.Stage.TheVariants.{Idle, Bearing, Joining, Spent}
use Rattle.buffer_words.specs.Codes.{code, decode, IsPool}
use Rattle.buffer_words.specs.Rule.{Slot, nothing, idle}
use Rattle.buffer_words.specs.Told.{Entered, Grows, Waited}

-- what a pass knows, and the slots that it has taken
abbrev pub Seated : Type 0
Seated = Me Slot View

-- a pass that is about nothing
abbrev pub IsIdle : Seated → Type 0
IsIdle me = me.0.stage ≡ Idle

-- The slot that the pass took last, with what is in it.
abbrev pub IsFront : Seated → ℕ → Slot → Type 0
IsFront me place slot = me.1 ≡ (place, slot) ∷ rest me.1

-- The pass has the place in hand, and took its slot last; a buffer of the word's size is in it.
pub record HoldsBuffer (me : Seated) (place : ℕ) : Type 0 where
  pub filling : Filling
  pub front : IsFront me place (Some filling)
  pub in_hand : InHand (After me.0.seen) me.0.number place
  pub size : length filling.bytes ≡ (word_at (After me.0.seen) place).size

-- The pass has the place in hand, and took its slot last; nothing is in it.
pub record HoldsNothing (me : Seated) (place : ℕ) : Type 0 where
  pub front : IsFront me place nothing
  pub in_hand : InHand (After me.0.seen) me.0.number place

-- The slot that the pass took last holds a buffer.
pub record HasFilled (me : Seated) (place : ℕ) : Type 0 where
  pub filling : Filling
  pub front : IsFront me place (Some filling)

-- The word of the place was this number, and nothing was added.
pub record Reads (before : Seated) (place found : ℕ) (after : Seated) : Type 0 where
  pub waited : Waited before.0 after.0
  pub slots : after.1 ≡ before.1
  pub word : found ≡ code (word_at (After after.0.seen) place)

-- An entry was added with the slots as they were.
pub record LooksAt (before : Seated) (event : Event) (after : Seated) : Type 0 where
  pub entered : Entered before.0 event after.0
  pub slots : after.1 ≡ before.1

-- An entry was added that takes this slot with this value.
pub record TakesUp (before : Seated) (event : Event) (place : ℕ) (slot : Slot) (after : Seated) : Type 0 where
  pub entered : Entered before.0 event after.0
  pub slots : after.1 ≡ (place, slot) ∷ before.1

-- An entry was added that gives the slot that was taken last back.
pub record GivesBack (before : Seated) (event : Event) (after : Seated) : Type 0 where
  pub entered : Entered before.0 event after.0
  pub slots : after.1 ≡ rest before.1

abbrev pub looked : Step Slot → Seated → ℕ → Seated → Type 0
looked st before found after = LooksAt before (Look st.word (decode found)) after

abbrev pub reading : Step Slot → Seated → ℕ → Seated → Type 0
reading st before found after = Reads before st.word found after

-- A grab's load: the word is Held with the generation, or it's the refusal.
abbrev pub sought : ℕ → Step Slot → Seated → ℕ → Seated → Type 0
sought g st before found after =
    (IsHeldAs (decode found) g → Reads before st.word found after)
    × ((¬ IsHeldAs (decode found) g) → LooksAt before (Grab st.word g (Err (decode found))) after)

-- The slot that was taken has a buffer of its word's size.
pub record TakesBuffer (before : Seated) (event : Event) (place : ℕ) (after : Seated) : Type 0 where
  pub filling : Filling
  pub takes : TakesUp before event place (Some filling) after
  pub size : length filling.bytes ≡ (word_at (After after.0.seen) place).size

-- A grab's exchange: the word was the one that was read, or it's the refusal.
abbrev pub grabbed : Step Slot → Seated → ℕ → Seated → Type 0
grabbed st before found after =
    (found ≡ st.first → TakesBuffer before (Grab st.word (decode st.first).generation (Ok tt)) st.word after)
    × (found ≢ st.first → LooksAt before (Grab st.word (decode st.first).generation (Err (decode found))) after)

-- An enrol's load: the place can take a buffer of this size, or the word is the refusal.
abbrev pub vacancy : ℕ → Step Slot → Seated → ℕ → Seated → Type 0
vacancy size st before found after =
    (CanEnrol (decode found) → Reads before st.word found after)
    × ((¬ CanEnrol (decode found)) → LooksAt before (Enrol st.word size (Err (decode found))) after)

-- An enrol's exchange: the word was the one that was read, or nothing was added.
abbrev pub enrolled : ℕ → Step Slot → Seated → ℕ → Seated → Type 0
enrolled size st before found after =
    (found ≡ st.first → TakesUp before (Enrol st.word size (Ok ((decode st.first).generation + 1))) st.word nothing after)
    × (found ≢ st.first → Reads before st.word found after)

-- An enrol's try was lost: the word's generation has risen.
pub record Loses (before : Seated) (place : ℕ) (after : Seated) : Type 0 where
  pub waited : Waited before.0 after.0
  pub slots : after.1 ≡ before.1
  pub later : (word_at (After before.0.seen) place).generation < (word_at (After after.0.seen) place).generation
  pub bound : (word_at (After after.0.seen) place).generation < 2 ^ 32

-- The pass has seen more, or nothing more, and its slots are as they were.
pub record HasGrown (before after : Seated) : Type 0 where
  pub grows : Grows before.0 after.0
  pub slots : after.1 ≡ before.1
  pub idle : IsIdle after

abbrev pub laid : Step Slot → Seated → ℕ → Seated → Type 0
laid st before found after = GivesBack before (Lay st.word) after

abbrev pub vacated : Step Slot → Seated → ℕ → Seated → Type 0
vacated st before found after = GivesBack before (Vacate st.word) after

-- A split's load: an actor with this number was added, and the pass answers for both.
pub record Bears (before : Seated) (child : ℕ) (after : Seated) : Type 0 where
  pub view : after.0 ≡ record { number = before.0.number; seen = after.0.seen; stage = Bearing child }
  pub entered : Entered before.0 (Split child) (idle before.0.number after.0.seen)
  pub slots : after.1 ≡ before.1
  pub unborn : own_of child after.0.seen ≡ []

abbrev pub bore : Step Slot → Seated → ℕ → Seated → Type 0
bore st before found after = (child : ℕ) × Bears before child after

-- the two passes that a split makes of one
abbrev pub stays_idle : View → View
stays_idle v = idle v.number v.seen

abbrev pub child_in : Stage → ℕ
child_in (Bearing k) = k
child_in _ = 0

abbrev pub newborn : View → View
newborn v = idle (child_in v.stage) v.seen

-- the pass that has taken another one in
abbrev pub joining : View → View → View
joining v w = record { number = v.number; seen = v.seen; stage = Joining w.number w.seen }

abbrev pub spent : View
spent = record { number = 0; seen = []; stage = Spent }

-- A join's load: the other actor has ended, and the pass has seen what the other had.
pub record Ends (before : Seated) (other : ℕ) (seen : List Entry) (after : Seated) : Type 0 where
  pub entered : Entered before.0 (Join other) after.0
  pub slots : after.1 ≡ before.1
  pub begins : IsPrefix seen after.0.seen
  pub own : own_of other after.0.seen ≡ own_of other seen
  pub ended : IsEnded (After after.0.seen) other

-- the number, and what was seen, of a pass that was taken in
abbrev pub number_in : Stage → ℕ
number_in (Joining k seen) = k
number_in _ = 0

abbrev pub seen_in : Stage → List Entry
seen_in (Joining k seen) = seen
seen_in _ = []

abbrev pub ends : Step Slot → Seated → ℕ → Seated → Type 0
ends st before found after = Ends before (number_in before.0.stage) (seen_in before.0.stage) after

-- the pool's word after this history
abbrev pub SeesPool : List Entry → ℕ → Type 0
SeesPool h n = IsPool n (After h).pool

-- The word of a queue was this number, and nothing was added.
pub record ReadsQueue (Sees : List Entry → ℕ → Type 0) (before : Seated) (found : ℕ) (after : Seated) : Type 0 where
  pub waited : Waited before.0 after.0
  pub slots : after.1 ≡ before.1
  pub sees : Sees after.0.seen found

abbrev pub ReadsPool : Seated → ℕ → Seated → Type 0
ReadsPool before found after = ReadsQueue SeesPool before found after

-- A look at the pool: its places, lowest first.
pub record LooksPool (before : Seated) (found : ℕ) (after : Seated) : Type 0 where
  pub places : List ℕ
  pub is : IsPool found places
  pub rising : IsRising places
  pub looks : LooksAt before (LookPool places) after

abbrev pub looked_pool : Step Slot → Seated → ℕ → Seated → Type 0
looked_pool st before found after = LooksPool before found after

abbrev pub pooled : ℕ → Step Slot → Seated → ℕ → Seated → Type 0
pooled place st before found after = GivesBack before (Pool place) after

-- A claim's load: the pool is empty, or nothing was added.
abbrev pub saw_pool : Step Slot → Seated → ℕ → Seated → Type 0
saw_pool st before found after = (found ≡ 0 → LooksAt before (Claim None) after) × (found ≢ 0 → ReadsPool before found after)

-- A claim's exchange: the pool was the one that was read, or nothing was added.
abbrev pub claimed : ℕ → Step Slot → Seated → ℕ → Seated → Type 0
claimed place st before found after =
    (found ≡ st.first → TakesBuffer before (Claim (Some place)) place after)
    × (found ≢ st.first → ReadsPool before found after)

-- The slot that the pass took last is that of this place.
pub record IsFrontPlace (me : Seated) (place : ℕ) : Type 0 where
  pub slot : Slot
  pub front : IsFront me place slot
