use Rattle.std.proofs.Common.{◌≡◌, false, take}
use Rattle.std.specs.List.{list_any}
use Rattle.camera_search.specs.Found.{has_mac}
use Rattle.camera_search.proofs.noting.is_known.Given as goal

abbrev pub invariant-loop-camera : goal.invariant-loop-camera
invariant-loop-camera l = list_any (has_mac l.mac) (take l.camera-index l.found) ≡ false
