-- How cameras are looked for (GigE Vision 2.0, DISCOVERY): what is sent, when, and for how long answers are heard.
use Rattle.std.specs.Prelude.{ℕ, ◌-◌, Bool, nat_le, if◌then◌else◌, List, replicate}
use Rattle.std.specs.List.{list_any}
use Rattle.gvcp_wire.specs.Control.{plain}
use Rattle.gvcp_wire.specs.Bodies.{discovery_head, discovery_command}
use Rattle.gev_types.specs.declared.peer.Peer.{Peer}
use Rattle.gev_links.specs.Links.{Address}

-- the port of a camera's control channel
abbrev pub CONTROL_PORT : ℕ
CONTROL_PORT = 3956

-- the request number of each DISCOVERY
abbrev pub REQUEST : ℕ
REQUEST = 65535

-- So many milliseconds after the first DISCOVERY comes the second one.
abbrev pub SECOND_SEND : ℕ
SECOND_SEND = 500

-- So many milliseconds after the first one the search ends: a device may put its answer off by up to a second.
abbrev pub SEARCH_TIME : ℕ
SEARCH_TIME = 1600

-- the most cameras that are told
abbrev pub MOST_CAMERAS : ℕ
MOST_CAMERAS = 256

abbrev pub control_peer : ℕ → Address
control_peer address = record { address = address; port = CONTROL_PORT }

abbrev pub discovery_datagram : List ℕ
discovery_datagram = plain (discovery_head REQUEST) discovery_command

-- so many of them to this address
abbrev pub asked : Address → ℕ → List (Address × List ℕ)
asked to count = replicate count (to, discovery_datagram)

-- the search that began at a moment is over at this one
abbrev pub is_over : ℕ → ℕ → Bool
is_over begun moment = nat_le SEARCH_TIME (moment - begun)

-- the second DISCOVERY is due
abbrev pub is_second : ℕ → ℕ → Bool
is_second begun moment = nat_le SECOND_SEND (moment - begun)

-- it was due at one of these moments
abbrev pub was_second : ℕ → List ℕ → Bool
was_second begun moments = list_any (is_second begun) moments

abbrev pub sends_of : Bool → ℕ
sends_of again = if again then 2 else 1

-- how many are sent by turns at these moments
abbrev pub sends_in : ℕ → List ℕ → ℕ
sends_in begun moments = sends_of (was_second begun moments)

-- how many a turn sends, by whether the second one was sent before and is due
abbrev pub more_sends : Bool → Bool → ℕ
more_sends again due = if again then 0 else (if due then 1 else 0)
