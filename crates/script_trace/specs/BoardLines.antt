-- What lines that call the stream and its event add: announce, queue, revoke, flush, take, kill,
-- event-flush, info and binfo.
use Rattle.std.specs.Prelude.{◌≡◌, ◌≢◌, ◌⊎◌, ℕ, ◌==◌, ◌||◌, Bool, true, false, List, ◌∷◌, ◌++◌, codes, Option, Some, None, Result, Ok, Err}
use Rattle.gev_types.specs.Filling.{Filling}
use Rattle.gentl_types.specs.declared.buffer_id.BufferId.{BufferId}
use Rattle.gentl_types.specs.declared.errors.GcError.{GcError}
use Rattle.gentl_types.specs.declared.errors.GcError.TheVariants.{InvalidHandle, OutOfMemory}
use Rattle.gentl_types.specs.declared.errors.Shown.TheVariants.{NoHandle}
use Rattle.gentl_handles.specs.declared.opened.Opened.{Opened}
use Rattle.gentl_handles.specs.Handles.{child_of}
use Rattle.gev_report.specs.ReplayLines.{take_line}
use Rattle.board_machine.specs.declared.events.Event.{Event}
use Rattle.board_machine.specs.Machine.{Item, item}
use Rattle.board_machine.specs.Ids.{buffer_at}
use Rattle.board_calls.specs.Calls.{Announces, Queues, Revokes, Borrows, Returns, Flushes, DiscardsOutput, Gets, Kills, itself}
use Rattle.board_calls.specs.Infos.{Infos, BufferInfos}
use Rattle.board_calls.specs.Loans.{loan_value, new_data, is_incomplete, size_filled, frame_id, data_larger_than_buffer}
use Rattle.board_model.specs.Plain.{filling_of, lying}
use Rattle.script_trace.specs.Trace.{Trace, Part, board, caller, acts, only_says, Calls}
use Rattle.script_trace.specs.Contents.{contents_of}
use Rattle.script_trace.specs.Answers.{refused_text, done_text, answer_text, id_text, value_text}

abbrev pub buffer : ℕ → ℕ → BufferId
buffer place generation = record { place = place; generation = generation }

-- Want of memory is no answer of a line: there the run of the script ends.
abbrev pub AnnounceLine : Trace → ℕ → Part → Type 0
AnnounceLine t size part =
    (answer : Result BufferId GcError) × (answer ≢ Err OutOfMemory)
    × Calls t caller (Announces size answer) (id_text (codes "announce") answer) part

abbrev pub QueueLine : Trace → BufferId → Part → Type 0
QueueLine t id part =
    (answer : Result (Unit {0}) GcError) × Calls t caller (Queues id answer) (answer_text (codes "queue") answer) part

-- the buffer is dropped
abbrev pub RevokeLine : Trace → BufferId → Part → Type 0
RevokeLine t id part =
    (answer : Result (Unit {0}) GcError) × Calls t caller (Revokes id answer) (answer_text (codes "revoke") answer) part

abbrev pub FlushLine : Trace → ℕ → Part → Type 0
FlushLine t operation part =
    (answer : Result (Unit {0}) GcError) × Calls t caller (Flushes operation answer) (answer_text (codes "flush") answer) part

abbrev pub KillLine : Trace → Part → Type 0
KillLine t part = Calls t caller Kills (done_text (codes "kill")) part

abbrev pub EventFlushLine : Trace → Part → Type 0
EventFlushLine t part = Calls t caller DiscardsOutput (done_text (codes "event-flush")) part

abbrev pub InfoLine : Trace → ℕ → Part → Type 0
InfoLine t which part =
    (answer : Result ℕ GcError) × Calls t caller (Infos which answer) (value_text (codes "info") which answer) part

-- ---- take

-- the handle under which an event of the stream with serial 4 is open
abbrev pub open_event : Trace → Option Opened
open_event t = child_of (Some 4) 0 t.handles.handles

-- The output's first buffer is taken, told as its fill left it, and returned.
pub record TakesBuffer (t : Trace) (moment : ℕ) (part : Part) : Type 0 where
  pub place : ℕ
  pub filling : Filling
  pub rest : List Item
  pub first : (board t).out ≡ item place filling ∷ rest
  pub gets : List Event
  pub got : Gets {T = ℕ} moment itself (Ok place) gets
  pub returns : List Event
  pub returned : Returns place returns
  pub is : part ≡ acts t caller (gets ++ returns) (take_line (buffer_at (board t) place) filling)

-- There is nothing to take: the stream is closed, a kill stands, or the time to wait, 0, is over.
pub record TakesNothing (t : Trace) (moment : ℕ) (part : Part) : Type 0 where
  pub refusal : GcError
  pub calls : Calls t caller (Gets {T = ℕ} moment itself (Err refusal)) (refused_text (codes "take") refusal) part

-- by whether the event is open; the moment at which the line is run doesn't show
abbrev pub TakeIfOpen : Trace → Option Opened → Part → Type 0
TakeIfOpen t None part = part ≡ only_says t (refused_text (codes "take") (InvalidHandle (NoHandle 4)))
TakeIfOpen t (Some event) part = (moment : ℕ) × (TakesBuffer t moment part ⊎ TakesNothing t moment part)

abbrev pub TakeLine : Trace → Part → Type 0
TakeLine t part = TakeIfOpen t (open_event t) part

-- ---- binfo

-- the information that is told of a buffer which is a loan
abbrev pub is_of_loan : ℕ → Bool
is_of_loan which =
    which == new_data || which == is_incomplete || which == size_filled || which == frame_id || which == data_larger_than_buffer

-- The buffer is borrowed, asked, and returned.
abbrev pub AsksLoan : Trace → BufferId → ℕ → Result (Unit {0}) GcError → Part → Type 0
AsksLoan t id which (Ok done) part =
    (borrows : List Event) × (returns : List Event) × Borrows {T = Unit {0}} id (Ok tt) borrows × Returns id.place returns
    × (part ≡ acts t caller (borrows ++ returns) (value_text (codes "binfo") which (loan_value (filling_of (lying (contents_of t.entries) id.place)).rec which)))
AsksLoan t id which (Err refusal) part =
    Calls t caller (Borrows {T = Unit {0}} id (Err refusal)) (refused_text (codes "binfo") refusal) part

abbrev pub AsksBuffer : Trace → BufferId → ℕ → Bool → Part → Type 0
AsksBuffer t id which true part = (answer : Result (Unit {0}) GcError) × AsksLoan t id which answer part
AsksBuffer t id which false part =
    (answer : Result ℕ GcError) × Calls t caller (BufferInfos id which answer) (value_text (codes "binfo") which answer) part

abbrev pub BufferInfoLine : Trace → BufferId → ℕ → Part → Type 0
BufferInfoLine t id which part = AsksBuffer t id which (is_of_loan which) part
