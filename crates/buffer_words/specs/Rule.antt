-- The rule of the shared table: its words, its slots and the passes are those of the board machine after
-- one history.
use Rattle.std.specs.Prelude.{◌≡◌, ◌≢◌, ◌⊎◌, ℕ, ◌+◌, ◌<◌, ◌≤◌, List, length, Option, Some, None, slice_index, slice_get}
use mathlib.Core.Option as opt
use lib.ListN.{get_elem?}
use Rattle.gev_types.specs.Filling.{Filling}
use Rattle.gentl_types.specs.declared.word.State.TheVariants.{Vacant, Held}
use Rattle.atomic_table.specs.Table as table
use Rattle.board_machine.specs.declared.events.Entry.{Entry}
use Rattle.board_machine.specs.Places.{times, IsPrefix}
use Rattle.board_machine.specs.Machine.{Board, Item, word_at, hand_at, places, empty_hands, IsActor, InHand}
use Rattle.board_machine.specs.Histories.{Run, After, own_of}
use Rattle.buffer_words.specs.declared.view.View.{View}
use Rattle.buffer_words.specs.declared.view.Stage.{Stage}
use Rattle.buffer_words.specs.declared.view.Stage.TheVariants.{Idle, Bearing, Joining, Spent}
use Rattle.buffer_words.specs.Codes.{code, IsPool, out_code, mark_code, kill_code}

-- what stands in a slot
abbrev pub Slot : Type 0
Slot = Option Filling

-- the slots, each with its value where no pass has taken it
abbrev pub Homes : Type 0
Homes = List (opt.Option Slot)

-- the slots that a pass has taken, the last one first
abbrev pub Slots : Type 0
Slots = List (ℕ × Slot)

abbrev pub nothing : Slot
nothing = None

-- a pass that is about nothing
abbrev pub idle : ℕ → List Entry → View
idle n seen = record { number = n; seen = seen; stage = Idle }

-- The 19 words are those of the board.
pub record Shows (b : Board) (words : List ℕ) : Type 0 where
  pub wide : length words ≡ 19
  pub own : (i : ℕ) → i < 15 → slice_index words i ≡ code (word_at b i)
  pub pool : IsPool (slice_index words 15) b.pool
  pub out : slice_index words 16 ≡ out_code (places b.out) + mark_code b.closed
  pub kill : slice_index words 17 ≡ kill_code b.kill
  pub run : slice_index words 18 ≡ b.run

-- The slot of the place holds a buffer of its word's size.
pub record Stored (b : Board) (homes : Homes) (i : ℕ) : Type 0 where
  pub filling : Filling
  pub is : get_elem? homes i ≡ opt.some (opt.some (Some filling))
  pub size : length filling.bytes ≡ (word_at b i).size

-- The slots of the places that no pass has in hand: empty where the place is Vacant, a buffer of the
-- word's size where it's Held or in the pool, and in the output the bytes and record of the fill.
pub record Shelved (b : Board) (homes : Homes) : Type 0 where
  pub wide : length homes ≡ 15
  pub vacant : (i : ℕ) → i < 15 → (word_at b i).state ≡ Vacant → get_elem? homes i ≡ opt.some (opt.some nothing)
  pub laid : (i : ℕ) → (word_at b i).state ≡ Held → Stored b homes i
  pub pooled : (i : ℕ) → 1 ≤ times i b.pool → Stored b homes i
  pub filled : (n : ℕ) (x : Item) → slice_get b.out n ≡ Some x → get_elem? homes x.place ≡ opt.some (opt.some (Some x.filling))

-- What an actor has seen is a front of the history with all that it did; its hands, and the words of the
-- places in them, are as it saw them.
pub record Follows (h : List Entry) (n : ℕ) (seen : List Entry) : Type 0 where
  pub begins : IsPrefix seen h
  pub own : own_of n h ≡ own_of n seen
  pub actor : IsActor (After h) n
  pub hand : hand_at (After h) n ≡ hand_at (After seen) n
  pub words : (i : ℕ) → InHand (After h) n i → word_at (After h) i ≡ word_at (After seen) i

-- the actors that a pass answers for
abbrev pub AnswersFor : ℕ → Stage → ℕ → Type 0
AnswersFor n Idle k = k ≡ n
AnswersFor n (Bearing j) k = (k ≡ n) ⊎ (k ≡ j)
AnswersFor n (Joining j seen) k = (k ≡ n) ⊎ (k ≡ j)
AnswersFor n Spent k = ⊥

-- What a pass knows of the history.
abbrev pub Knows : List Entry → ℕ → List Entry → Stage → Type 0
Knows h n seen Idle = Follows h n seen
Knows h n seen (Bearing k) = Follows h n seen × Follows h k seen × (k ≢ n)
Knows h n seen (Joining k other) = Follows h n seen × Follows h k other × (k ≢ n) × (hand_at (After h) k ≡ empty_hands)
Knows h n seen Spent = Unit {0}

-- Each pass knows its part of the history, and no two answer for one actor.
pub record Seats (h : List Entry) (views : List View) : Type 0 where
  pub knows : (id : ℕ) (v : View) → get_elem? views id ≡ opt.some v → Knows h v.number v.seen v.stage
  pub apart : (i j k : ℕ) (v w : View) → i ≢ j → get_elem? views i ≡ opt.some v → get_elem? views j ≡ opt.some w
      → AnswersFor v.number v.stage k → ¬ AnswersFor w.number w.stage k

pub record Kept (s : table.State Slot View) : Type 0 where
  pub history : List Entry
  pub run : Run history
  pub shows : Shows (After history) s.words
  pub shelved : Shelved (After history) s.homes
  pub seats : Seats history s.views
