-- What a sweep of a queue's word does: the buffers of several places come into hand by one step.
use Rattle.std.specs.Prelude.{◌≡◌, ℕ, ◌<◌, ◌≤◌, List, ◌++◌, length, Some}
use Rattle.gev_types.specs.Filling.{Filling}
use Rattle.gev_types.specs.Limits.{place_count}
use Rattle.atomic_table.specs.Table.{Step}
use Rattle.board_machine.specs.declared.events.Event.{Event}
use Rattle.board_machine.specs.declared.events.Event.TheVariants.{SweepPool}
use Rattle.board_machine.specs.Places.{times, IsRising}
use Rattle.board_machine.specs.Machine.{Board, word_at}
use Rattle.board_machine.specs.Histories.{After}
use Rattle.buffer_words.specs.Codes.{IsPool}
use Rattle.buffer_words.specs.Rule.{Slot, Slots}
use Rattle.buffer_words.specs.Told.{Entered}
use Rattle.buffer_words.specs.Plays.{Seated}
use Rattle.buffer_words.specs.Passes.{Token, slot_places, slot_of, slot_at, gone, IsDown, size_at, SamePlace}

-- The slot of the place, among these, has a buffer of the place's size.
pub record HasSlot (b : Board) (taken : Slots) (i : ℕ) : Type 0 where
  pub filling : Filling
  pub is : slot_of i taken ≡ Some (Some filling)
  pub size : length filling.bytes ≡ (word_at b i).size

-- An entry was added that takes the slots of these places, each with a buffer of its word's size.
pub record TakesAll (before : Seated) (event : Event) (is : List ℕ) (after : Seated) : Type 0 where
  pub entered : Entered before.0 event after.0
  pub taken : Slots
  pub places : slot_places taken ≡ is
  pub slots : after.1 ≡ taken ++ before.1
  pub full : (i : ℕ) → 1 ≤ times i is → HasSlot (After after.0.seen) taken i

-- A sweep of the pool: all of its places, lowest first.
pub record SweepsPool (before : Seated) (found : ℕ) (after : Seated) : Type 0 where
  pub places : List ℕ
  pub is : IsPool found places
  pub rising : IsRising places
  pub takes : TakesAll before (SweepPool places) places after

abbrev pub swept_pool : Step Slot → Seated → ℕ → Seated → Type 0
swept_pool st before found after = SweepsPool before found after

-- The buffer of a place that the pass didn't have is set down in its slot now.
pub record Comes (i : ℕ) (s t : Token) : Type 0 where
  pub below : i < place_count
  pub new : slot_at s i ≡ gone
  pub filling : Filling
  pub is : IsDown t i filling
  pub size : length filling.bytes ≡ size_at t i

-- The pass gets the buffers of these places, each place once, and what it has of others is as it was.
pub record GetsAll (is : List ℕ) (s t : Token) : Type 0 where
  pub single : (i : ℕ) → times i is ≤ 1
  pub all : (i : ℕ) → 1 ≤ times i is → Comes i s t
  pub others : (i : ℕ) → times i is ≡ 0 → SamePlace i s t
