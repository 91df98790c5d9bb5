-- The trace before the first line behind the header.
use Rattle.std.specs.Prelude.{false, List, [], ◌∷◌, Some, None}
use Rattle.gentl_handles.specs.Handles.{Handles, no_handles}
use Rattle.gentl_handles.specs.Calls.{Call, open_child, after_calls}
use Rattle.board_machine.specs.declared.events.Event.TheVariants.{Split}
use Rattle.board_machine.specs.Adding.{entries_of}
use Rattle.board_calls.specs.declared.mode.Mode.TheVariants.{OldestFirst}
use Rattle.script_trace.specs.Trace.{Trace, caller}

-- a system, an interface, a device, a stream and its event, each with number 0 under the one before, and
-- with the serials 1 to 5
abbrev pub first_calls : List Call
first_calls = open_child None 0 ∷ open_child (Some 1) 0 ∷ open_child (Some 2) 0 ∷ open_child (Some 3) 0 ∷ open_child (Some 4) 0 ∷ []

abbrev pub first_handles : Handles
first_handles = after_calls no_handles first_calls

-- The actors 1 to 5 are split off; nothing was told yet, and waiting buffers stay.
abbrev pub opening : Trace
opening = record {
  entries = entries_of caller (Split 1 ∷ Split 2 ∷ Split 3 ∷ Split 4 ∷ Split 5 ∷ []);
  inputs = [];
  handles = first_handles;
  idle = 0;
  text = [];
  mode = OldestFirst;
  told_mode = false;
}
