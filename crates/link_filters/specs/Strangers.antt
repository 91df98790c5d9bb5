-- What is heard of one address alone: a datagram that came from another one is none.
use Rattle.std.specs.Prelude.{◌≡◌, ⊤, ℕ, ◌-◌, ◌^◌, ◌==◌, min, not, Bool, false, if◌then◌else◌, List, map, count_by, Option, Some, None}
use Rattle.gev_links.specs.Links.{Answer, nothing, failed, came}

-- It came from another address, whatever the port.
abbrev pub is_stranger : ℕ → Answer → Bool
is_stranger source nothing = false
is_stranger source failed = false
is_stranger source (came bytes peer) = not (peer.address == source)

-- what is heard of an answer
abbrev pub from_only : ℕ → Answer → Answer
from_only source answer = if is_stranger source answer then nothing else answer

abbrev pub all_from : ℕ → List Answer → List Answer
all_from source answers = map (from_only source) answers

-- So many of these came from strangers, where the link tells them. The count stands still at the counter's end.
abbrev pub CountsStrangers : ℕ → Option (List Answer) → ℕ → Type 0
CountsStrangers source None count = ⊤
CountsStrangers source (Some answers) count = count ≡ min (count_by (is_stranger source) answers) (2 ^ 64 - 1)
