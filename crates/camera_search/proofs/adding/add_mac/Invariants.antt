use Rattle.std.proofs.Common.{◌≡◌, ◌++◌, take}
use Rattle.std.specs.List.{flat_map}
use Rattle.camera_search.specs.CameraLine.{behind_colon}
use Rattle.camera_search.proofs.adding.add_mac.Given as goal

abbrev pub invariant-loop-byte : goal.invariant-loop-byte
invariant-loop-byte l = l.out.items ≡ l.initial.out.items ++ flat_map behind_colon (take l.byte-index l.rest)
