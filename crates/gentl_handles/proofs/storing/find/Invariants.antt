use Rattle.std.proofs.Common.{◌≡◌, drop}
use Rattle.gentl_handles.specs.Handles.{found}
use Rattle.gentl_handles.specs.Storing.{opened_by}
use Rattle.gentl_handles.proofs.storing.find.Given as goal

abbrev pub invariant-loop-key : goal.invariant-loop-key
invariant-loop-key l = found l.serial (opened_by l.entries l.order) ≡ found l.serial (opened_by l.entries (drop l.key-index l.order))
