-- What was seen where two threads shared a board: whose each entry is.
use Rattle.std.specs.Prelude.{◌≡◌, ◌≢◌, ◌⊎◌, ℕ, List, [], ◌∷◌, ◌++◌, Result, Ok, Err}
use Rattle.gentl_types.specs.declared.buffer_id.BufferId.{BufferId}
use Rattle.gentl_types.specs.declared.errors.GcError.{GcError}
use Rattle.board_machine.specs.declared.events.Entry.{Entry}
use Rattle.board_machine.specs.declared.events.Event.{Event}
use Rattle.board_machine.specs.Adding.{entries_of}
use Rattle.board_calls.specs.Calls.{Announces, Queues}
use Rattle.buffer_words.specs.Workers.{OnlyBy}
use Rattle.gentl_events.specs.Kinds.{is_fill, is_take}

-- A buffer of this size is announced and then queued.
pub record PreparesOne (size : ℕ) (id : BufferId) (answer : Result (Unit {0}) GcError) (events : List Event) : Type 0 where
  pub announced : List Event
  pub queued : List Event
  pub is : events ≡ announced ++ queued
  pub announces : Announces size (Ok id) announced
  pub queues : Queues id answer queued

-- The first refusal ends the preparation.
abbrev pub Prepares : ℕ → Result BufferId GcError → List Event → Type 0
Prepares size (Ok id) events = PreparesOne size id (Ok tt) events
Prepares size (Err error) events = Announces size (Err error) events ⊎ ((id : BufferId) × PreparesOne size id (Err error) events)

-- What was seen begins with these entries. After them each claim and each fill is one worker's, and each take
-- another one's.
pub record Divides (front seen : List Entry) : Type 0 where
  pub since : List Entry
  pub is : seen ≡ front ++ since
  pub filler : ℕ
  pub taker : ℕ
  pub apart : filler ≢ taker
  pub fills : OnlyBy is_fill (filler ∷ []) since
  pub takes : OnlyBy is_take (taker ∷ []) since

-- The first actor prepared the buffer, and then two workers divided the claims and fills and the takes.
pub record Shares (size : ℕ) (id : BufferId) (seen : List Entry) : Type 0 where
  pub prepared : List Event
  pub prepares : Prepares size (Ok id) prepared
  pub divides : Divides (entries_of 0 prepared) seen
