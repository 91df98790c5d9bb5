-- Lines whose part hangs on the open handles.
use Rattle.std.specs.Prelude.{◌≡◌, ℕ, List}
use Rattle.gentl_handles.specs.Handles.{Handles}
use Rattle.board_model.specs.Plain.{PlainState}
use Rattle.script_trace.specs.Trace.{Trace, Part}
use Rattle.script_replay.specs.Boards.{IsLeftBy, ActsAs}

-- So it is behind every such trace with these open handles.
abbrev pub ActsUnder : Handles → (Trace → Part → Type 0) → ℕ → ℕ → PlainState → List ℕ → PlainState → Type 0
ActsUnder handles Line k count old said new =
    (t : Trace) → t.handles ≡ handles → IsLeftBy old t.entries → ActsAs Line k count said new t
