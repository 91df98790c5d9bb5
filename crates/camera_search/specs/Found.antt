-- Which cameras answered, by what was heard: each MAC address once, in the order of the answers.
use Rattle.std.specs.Prelude.{ℕ, ◌==◌, ◌&&◌, nat_lt, not, Bool, if◌then◌else◌, List, [], ◌∷◌, ◌++◌, length, Option, Some, None, Result, Ok, Err}
use Rattle.std.specs.List.{list_any, flat_map}
use Rattle.std.specs.Str.{bytes_eq}
use Rattle.gvcp_wire.specs.declared.message.ControlError.{ControlError}
use Rattle.gvcp_wire.specs.Messages.{PlainAck}
use Rattle.gvcp_wire.specs.Reading.{ack_reading}
use Rattle.camera_search.specs.declared.discovery_ack.DiscoveryAck.{DiscoveryAck}
use Rattle.camera_search.specs.Discovery.{discovery_reading}
use Rattle.camera_search.specs.CameraLine.{camera_line, count_line}
use Rattle.gev_links.specs.Links.{Answer, nothing, failed, came}
use Rattle.camera_search.specs.Asking.{REQUEST, MOST_CAMERAS}

-- an acknowledge of the search's own request number
abbrev pub told_by_ack : Result PlainAck ControlError → Option DiscoveryAck
told_by_ack (Ok ack) = if ack.req == REQUEST then discovery_reading ack else None
told_by_ack (Err e) = None

-- what a datagram tells
abbrev pub told_by : List ℕ → Option DiscoveryAck
told_by bytes = told_by_ack (ack_reading bytes)

abbrev pub told_in : Answer → Option DiscoveryAck
told_in nothing = None
told_in failed = None
told_in (came bytes peer) = told_by bytes

abbrev pub has_mac : List ℕ → DiscoveryAck → Bool
has_mac mac camera = bytes_eq camera.mac_address mac

-- none of these has its MAC address, and there is room for one more
abbrev pub is_new : List DiscoveryAck → DiscoveryAck → Bool
is_new found camera = nat_lt (length found) MOST_CAMERAS && not (list_any (has_mac camera.mac_address) found)

-- what an answer adds to these
abbrev pub new_among : List DiscoveryAck → Option DiscoveryAck → List DiscoveryAck
new_among found None = []
new_among found (Some camera) = if is_new found camera then camera ∷ [] else []

abbrev pub found_after : List DiscoveryAck → List Answer → List DiscoveryAck
found_after found [] = found
found_after found (x ∷ xs) = found_after (found ++ new_among found (told_in x)) xs

abbrev pub cameras_in : List Answer → List DiscoveryAck
cameras_in answers = found_after [] answers

-- ---- the text

abbrev pub lines_of : List DiscoveryAck → List ℕ
lines_of cameras = flat_map camera_line cameras

-- a line for each camera, and the last one
abbrev pub text_of : List DiscoveryAck → List ℕ
text_of cameras = lines_of cameras ++ count_line (length cameras)
