use Rattle.std.proofs.Common.{◌≡◌, drop}
use Rattle.gentl_handles.specs.Handles.{child_of}
use Rattle.gentl_handles.specs.Storing.{opened_by}
use Rattle.gentl_handles.proofs.storing.find_child.Given as goal

abbrev pub invariant-loop-key : goal.invariant-loop-key
invariant-loop-key l =
    child_of l.parent l.index (opened_by l.entries l.order) ≡ child_of l.parent l.index (opened_by l.entries (drop l.key-index l.order))
