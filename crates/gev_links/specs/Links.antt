-- What a link tells of its receives and sends, and the room of a receive. None means that it tells nothing.
use Rattle.std.specs.Prelude.{◌≡◌, ⊤, ℕ, List, [], ◌++◌, take, Option, Some, None, Result, Ok, Err}
use Rattle.gev_types.specs.declared.peer.Peer.{Peer}
use Rattle.gev_links.specs.declared.failed.Failed.{Failed}

-- the bytes of each receive's slice, and of that of a receive for a tape
abbrev pub receive_room : ℕ
receive_room = 9000

abbrev pub tape_room : ℕ
tape_room = 1600

-- an address and a port, of who sent a datagram or is sent one
abbrev pub Address : Type 0
Address = Peer

-- What a receive gave. A receive that failed is told too.
pub data Answer : Type 0 where
  nothing : Answer
  failed : Answer
  came : List ℕ → Address → Answer

-- What a receive gave, by its answer and by the bytes that it left in the slice.
abbrev pub answer_of : Result (Option (ℕ × Address)) Failed → List ℕ → Answer
answer_of (Err error) out = failed
answer_of (Ok None) out = nothing
answer_of (Ok (Some datagram)) out = came (take datagram.0 out) datagram.1

-- These stand behind what stood there, and nothing else does. A list of sends has no end.
abbrev pub Adds : {A : Type 0} → Option (List A) → Option (List A) → List A → Type 0
Adds None new members = new ≡ None
Adds (Some old) new members = new ≡ Some (old ++ members)

-- nothing was told yet
abbrev pub IsBlank : {A : Type 0} → Option (List A) → Type 0
IsBlank None = ⊤
IsBlank (Some members) = members ≡ []
