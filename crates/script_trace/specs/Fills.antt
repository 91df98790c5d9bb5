-- The acquisition's fills in a trace. The words for fills and retired blocks are those of `block_fills`.
use Rattle.std.specs.Prelude.{◌≡◌, ◌⊎◌, ⊤, ℕ, List}
use Rattle.gev_types.specs.Filling.{empty_record}
use Rattle.board_machine.specs.declared.events.Entry.{Entry}
use Rattle.board_machine.specs.declared.events.Event.{Event}
use Rattle.board_machine.specs.declared.events.Event.TheVariants.{Fill}
use Rattle.board_machine.specs.Machine.{Item}
use Rattle.board_machine.specs.Histories.{own_of}
use Rattle.block_fills.specs.Fills.{tried}
pub use Rattle.block_fills.specs.Fills.{item_of, retired_items, IsRetired, IsHandedSo}
use Rattle.script_trace.specs.Trace.{Trace, acquirer}

-- what the acquisition tried to put into the output, in order
abbrev pub tried_blocks : Trace → List Item
tried_blocks t = tried (own_of acquirer t.entries)

-- a fill is the acquisition's, or has the empty record
abbrev pub FillsEmpty : ℕ → Event → Type 0
FillsEmpty k (Fill i f filled) = (k ≡ acquirer) ⊎ (f.rec ≡ empty_record)
FillsEmpty k _ = ⊤

abbrev pub IsEmptyElse : Entry → Type 0
IsEmptyElse e = FillsEmpty e.by e.event
