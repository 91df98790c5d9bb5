-- How a live run begins on an empty board: buffers of one size are announced and queued, one after another, and
-- then the acquisition is started.
use Rattle.std.specs.Prelude.{◌≡◌, ◌≢◌, ◌⊎◌, ℕ, ◌<◌, ◌≤◌, false, List, [], ◌∷◌, ◌++◌, length, Result, Ok, Err}
use Rattle.gev_types.specs.Limits.{place_count}
use Rattle.gentl_types.specs.declared.buffer_id.BufferId.{BufferId}
use Rattle.gentl_types.specs.declared.errors.GcError.{GcError}
use Rattle.gentl_types.specs.declared.word.State.TheVariants.{Vacant}
use Rattle.board_machine.specs.declared.events.Event.{Event}
use Rattle.board_machine.specs.Machine.{Board, word_at, vacant}
use Rattle.board_machine.specs.Histories.{After}
use Rattle.board_machine.specs.Laws.{IsAlone}
use Rattle.board_machine.specs.Adding.{entries_of}
use Rattle.board_calls.specs.Calls.{LooksOut, Announces, Queues, Starts}
use Rattle.buffer_words.specs.Passes.{Token}
use Rattle.buffer_words.specs.Several.{EntersOf}

-- A buffer of this size is announced and then queued.
pub record PreparesOne (size : ℕ) (id : BufferId) (answer : Result (Unit {0}) GcError) (events : List Event) : Type 0 where
  pub announced : List Event
  pub queued : List Event
  pub is : events ≡ announced ++ queued
  pub announces : Announces size (Ok id) announced
  pub queues : Queues id answer queued

-- The first refusal ends it.
abbrev pub PreparesBuffer : ℕ → Result BufferId GcError → List Event → Type 0
PreparesBuffer size (Ok id) events = PreparesOne size id (Ok tt) events
PreparesBuffer size (Err error) events = Announces size (Err error) events ⊎ ((id : BufferId) × PreparesOne size id (Err error) events)

-- First this buffer is prepared, and then these events follow.
pub record PreparesFirst (size : ℕ) (id : BufferId) (Rest : List Event → Type 0) (events : List Event) : Type 0 where
  pub first : List Event
  pub rest : List Event
  pub prepares : PreparesOne size id (Ok tt) first
  pub later : Rest rest
  pub is : events ≡ first ++ rest

-- These buffers are prepared, one after another.
abbrev pub PreparesEach : ℕ → List BufferId → List Event → Type 0
PreparesEach size [] events = events ≡ []
PreparesEach size (id ∷ ids) events = PreparesFirst size id (λ rest. PreparesEach size ids rest) events

-- So many buffers of this size are prepared, and the acquisition is started.
pub record Prepares (size buffers : ℕ) (events : List Event) : Type 0 where
  pub ids : List BufferId
  pub number : length ids ≡ buffers
  pub prepared : List Event
  pub each : PreparesEach size ids prepared
  pub started : List Event
  pub starts : Starts (Ok tt) started
  pub is : events ≡ prepared ++ started

-- Memory was wanting for the next one: an announce that wants memory has looked at the output.
abbrev pub LooksLast : List Event → Type 0
LooksLast events = (events ≡ []) ⊎ LooksOut false events

-- Fewer than so many buffers are prepared, since memory was wanting.
pub record FallsShort (size buffers : ℕ) (events : List Event) : Type 0 where
  pub ids : List BufferId
  pub fewer : length ids < buffers
  pub prepared : List Event
  pub each : PreparesEach size ids prepared
  pub last : List Event
  pub looks : LooksLast last
  pub is : events ≡ prepared ++ last

-- All that the pass has seen are the first actor's entries with events of this kind.
pub record SawOnly (Kind : List Event → Type 0) (t : Token) : Type 0 where
  pub events : List Event
  pub kind : Kind events
  pub seen : t.seen ≡ entries_of 0 events

-- ---- between two buffers

-- The stream is open and not started, the places below n have buffers, and the others have had none.
pub record HasBuffers (n : ℕ) (b : Board) : Type 0 where
  pub unclosed : b.closed ≡ false
  pub idle : b.run ≡ 0
  pub wide : length b.words ≡ place_count
  pub taken : (i : ℕ) → i < n → (word_at b i).state ≢ Vacant
  pub free : (i : ℕ) → n ≤ i → i < place_count → word_at b i ≡ vacant

-- So many buffers were prepared, and nothing else was done.
pub record HasPrepared (size n : ℕ) (s t : Token) : Type 0 where
  pub ids : List BufferId
  pub number : length ids ≡ n
  pub enters : EntersOf s (PreparesEach size ids) t
  pub alone : IsAlone (After t.seen) t.number
  pub has : HasBuffers n (After t.seen)

-- The same, but memory was wanting for the next one.
pub record LacksMemory (size n : ℕ) (s t : Token) : Type 0 where
  pub ids : List BufferId
  pub fewer : length ids < n
  pub last : List Event
  pub looks : LooksLast last
  pub enters : EntersOf s (λ events. (prepared : List Event) × PreparesEach size ids prepared × (events ≡ prepared ++ last)) t
