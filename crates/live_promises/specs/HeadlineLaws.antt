-- The headline of traces of scripts, and of any history whose fills are known.
use Rattle.std.specs.Prelude.{◌≡◌, ⊤, ℕ, ◌≤◌, List, [], ◌∷◌, Option}
use Rattle.std.specs.List.{AllByRecursion}
use Rattle.gev_types.specs.declared.frame.Frame.{Frame}
use Rattle.block_image.specs.OneBlock.{AreSent}
use Rattle.board_machine.specs.declared.events.Entry.{Entry}
use Rattle.board_machine.specs.Machine.{Item}
use Rattle.board_machine.specs.Histories.{Run, own_of}
use Rattle.acquisition_machine.specs.declared.config.AcqConfig.{AcqConfig}
use Rattle.acquisition_machine.specs.Machine.{Input}
use Rattle.acquisition_machine.specs.Runs.{first_state, packets_in}
use Rattle.block_fills.specs.Fills.{tried, retired_items, IsRetired}
use Rattle.block_fills.specs.Laws.{StartsClean}
use Rattle.script_trace.specs.Trace.{Trace, acquirer}
use Rattle.script_trace.specs.Laws.{KeepsPromises}
use Rattle.script_trace.specs.Standing.{Standing, first, running}
use Rattle.live_promises.specs.Headline.{Acquirer, FillsByAcquirers, KeepsHeadline, HoldsUnder}

-- ---- scripts

-- the acquisition of a script
abbrev pub receiver_of : Trace → Acquirer
receiver_of t = record { actor = acquirer; inputs = t.inputs }

-- Behind its lines a script's trace keeps the headline.
abbrev pub StandsByHeadline : Standing → Type 0
StandsByHeadline first = ⊤
StandsByHeadline (running c w t) = KeepsHeadline c (receiver_of t ∷ []) t.entries

-- What the traces of scripts promise has the headline in it.
abbrev pub TracesKeepHeadline : Type 0
TracesKeepHeadline = (c : AcqConfig) (t : Trace) → KeepsPromises c t → KeepsHeadline c (receiver_of t ∷ []) t.entries

-- ---- any history

-- Its inputs begin no acquisition while a block is open, and it fills what they retire.
pub record FillsWhatRetires (c : AcqConfig) (h : List Entry) (a : Acquirer) : Type 0 where
  pub clean : StartsClean c first_state a.inputs
  pub retired : tried (own_of a.actor h) ≡ retired_items c a.inputs

-- A run whose acquirers fill what their acquisitions retire, and in which nobody else fills more than empty records,
-- keeps the headline.
abbrev pub RunsKeepHeadline : Type 0
RunsKeepHeadline =
    (c : AcqConfig) (acquirers : List Acquirer) (h : List Entry) → 1 ≤ c.window → Run h → AllByRecursion (FillsWhatRetires c h) acquirers → FillsByAcquirers acquirers h → KeepsHeadline c acquirers h

-- ---- frames

-- Where all datagrams of an acquisition were sent from one map of frames, each block that retired holds its frame, or
-- what came of it.
abbrev pub BlocksHoldFrames : Type 0
BlocksHoldFrames =
    (frames : ℕ → Option Frame) (c : AcqConfig) (inputs : List Input) (x : Item) → IsRetired c inputs x → AreSent frames c.p (packets_in inputs) → HoldsUnder frames c inputs x
