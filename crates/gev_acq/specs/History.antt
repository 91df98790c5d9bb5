-- The reader's part in the whole history of a live run, and what is true of it.
use Rattle.std.specs.Prelude.{◌≡◌, ⊤, ℕ, false, List, [], ◌∷◌, ◌++◌, Option, Some, None, Result}
use Rattle.board_machine.specs.declared.events.Entry.{Entry}
use Rattle.board_machine.specs.declared.events.Event.{Event}
use Rattle.board_machine.specs.declared.events.Event.TheVariants.{Stop}
use Rattle.board_machine.specs.Machine.{empty_board}
use Rattle.board_machine.specs.Histories.{Run, own_of}
use Rattle.board_machine.specs.Adding.{entries_of}
use Rattle.board_machine.specs.Kinds.{HasNone, is_fill_refused}
use Rattle.board_machine.specs.Places.{IsPrefix}
use Rattle.board_machine.specs.Sizes.{BringOneSize}
use Rattle.acquisition_machine.specs.declared.config.AcqConfig.{AcqConfig}
use Rattle.acquisition_machine.specs.Blocks.{Given}
use Rattle.acquisition_machine.specs.Machine.{stop}
use Rattle.acquisition_machine.specs.Runs.{first_state, After}
use Rattle.gev_links.specs.Links.{Address}
use Rattle.block_fills.specs.Fills.{tried, retired_items}
use Rattle.buffer_words.specs.Passes.{Token, own}
use Rattle.buffer_words.specs.Workers.{AreOf}
use Rattle.gev_control.specs.declared.acq_end.AcqEnd.{AcqEnd}
use Rattle.gev_acq.specs.declared.turn.Turn.{Turn}
use Rattle.board_calls.specs.declared.mode.Mode.{Mode}
use Rattle.gev_acq.specs.Serving.{Serves}
use Rattle.gev_acq.specs.Claims.{claims_in, claims_by}
use Rattle.gev_acq.specs.Turns.{Turned, Outside}
use Rattle.gev_acq.specs.Acquired.{inputs_in, ServesTurns}
use Rattle.gev_acq.specs.Kinds.{is_strict_readers}
use Rattle.gev_acq.specs.Reads.{LastLook, Reads}

-- All entries of actor n are those of these turns of a new receiver, of the last look, of the receiver's stop and
-- of the acquisition's. The outcomes of claims among the turns' inputs are what its claims gave in this history.
pub record LiveReading (mode : Mode) (c : AcqConfig) (n : ℕ) (end : AcqEnd) (made : List Turned) (h : List Entry) : Type 0 where
  pub turned : List Event
  pub turns : ServesTurns mode c first_state made turned
  pub last : List Event
  pub looks : LastLook end last
  pub drained : List Event
  pub drains : Serves mode c (After c (inputs_in made)) (stop ∷ []) drained
  pub answer : Result (Unit {0}) ℕ
  pub own : own_of n h ≡ entries_of n (turned ++ (last ++ (drained ++ Stop false answer ∷ [])))
  pub claims : claims_in (inputs_in made) ≡ claims_by mode n empty_board h

-- A reader's part is so in each history that begins with what it has seen and has no further entry of it.
abbrev pub ReadersPartStays : Type 0
ReadersPartStays =
    (mode : Mode) (c : AcqConfig) (camera stream : Address) (o n : Outside) (journal journal_after : List Turn) (turns : ℕ) (end : AcqEnd) (s t : Token)
    (reads : Reads mode c camera stream o n journal journal_after turns end s t) (h : List Entry) → own s ≡ [] → IsPrefix t.seen h → own_of s.number h ≡ own t
    → LiveReading mode c s.number end reads.made h

-- What the reader put into the output, or tried to, is all that its turns' inputs and the stop retire, in order.
abbrev pub ReadersFillsAreRetired : Type 0
ReadersFillsAreRetired =
    (mode : Mode) (c : AcqConfig) (n : ℕ) (end : AcqEnd) (made : List Turned) (h : List Entry) → LiveReading mode c n end made h
    → tried (own_of n h) ≡ retired_items c (inputs_in made ++ stop ∷ [])

-- Where no fill of it was refused it laid nothing.
abbrev pub ReadersLayNothing : Type 0
ReadersLayNothing =
    (mode : Mode) (c : AcqConfig) (n : ℕ) (end : AcqEnd) (made : List Turned) (h : List Entry) → LiveReading mode c n end made h
    → HasNone is_fill_refused (own_of n h) → AreOf (is_strict_readers mode) (own_of n h)

-- each buffer that was given has this size, in bytes
abbrev pub AreSized : ℕ → List (Option Given) → Type 0
AreSized size [] = ⊤
AreSized size (None ∷ gs) = AreSized size gs
AreSized size (Some g ∷ gs) = (g.size ≡ size) × AreSized size gs

-- Where all buffers have one size, each claimed buffer has it.
abbrev pub ReadersClaimOneSize : Type 0
ReadersClaimOneSize =
    (mode : Mode) (c : AcqConfig) (n : ℕ) (end : AcqEnd) (made : List Turned) (h : List Entry) (size : ℕ) → LiveReading mode c n end made h → Run h → BringOneSize size h
    → AreSized size (claims_in (inputs_in made))
