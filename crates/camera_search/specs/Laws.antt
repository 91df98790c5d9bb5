-- What is promised of the cameras that are told, in the words of a list of them.
use Rattle.std.specs.Prelude.{◌≡◌, ℕ, ◌<◌, ◌≤◌, true, false, List, length, Option, Some}
use Rattle.std.specs.List.{All, Any, AllPairs, list_any}
use Rattle.gev_links.specs.Links.{Answer}
use Rattle.camera_search.specs.declared.discovery_ack.DiscoveryAck.{DiscoveryAck}
use Rattle.camera_search.specs.Asking.{MOST_CAMERAS}
use Rattle.camera_search.specs.Found.{told_in, has_mac, cameras_in}

-- Each of the cameras answered, no two of them have one MAC address, and there are at most 256. Where there are fewer,
-- each answer's MAC address is among them.
pub record EachOnce (answers : List Answer) : Type 0 where
  pub answered : All (λ (camera : DiscoveryAck). Any (λ (a : Answer). told_in a ≡ Some camera) answers) (cameras_in answers)
  pub apart : AllPairs (λ (first later : DiscoveryAck). has_mac later.mac_address first ≡ false) (cameras_in answers)
  pub few : length (cameras_in answers) ≤ MOST_CAMERAS
  pub none_left : length (cameras_in answers) < MOST_CAMERAS
      → All (λ (a : Answer). (camera : DiscoveryAck) → told_in a ≡ Some camera → list_any (has_mac camera.mac_address) (cameras_in answers) ≡ true) answers

abbrev pub CamerasAreToldOnce : Type 0
CamerasAreToldOnce = (answers : List Answer) → EachOnce answers
