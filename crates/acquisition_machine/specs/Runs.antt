-- Lists of inputs, first in first, and what the machine makes of them.
use Rattle.std.specs.Prelude.{◌≡◌, ℕ, List, [], ◌∷◌, ◌++◌, Option, Some, None}
use Rattle.stream_packets.specs.Packets.{StreamPacket}
use Rattle.gvsp_wire.specs.Reading.{packet_of}
use Rattle.acquisition_machine.specs.declared.config.AcqConfig.{AcqConfig}
use Rattle.acquisition_machine.specs.declared.counts.Counts.{Counts}
use Rattle.acquisition_machine.specs.declared.need.Need.{Need}
use Rattle.acquisition_machine.specs.Blocks.{Retirement}
use Rattle.acquisition_machine.specs.Machine.{Input, datagram, claimed, tick, stop, restart, State, Turn, Request, step}

abbrev pub no_counts : Counts
no_counts = record { underrun = 0; requests = 0; foreign = 0; late = 0; repeat = 0; misfit = 0; starved = 0; notice = 0 }

-- before any input
abbrev pub first_state : State
first_state = record { now = 0; floor = 1; opens = []; asked = None; counts = no_counts; number = 1 }

abbrev pub after_from : AcqConfig → State → List Input → State
after_from c s [] = s
after_from c s (i ∷ q) = after_from c (step c s i).after q

-- the state after these inputs
abbrev pub After : AcqConfig → List Input → State
After c q = after_from c first_state q

-- what one more input makes of it
abbrev pub turn : AcqConfig → List Input → Input → Turn
turn c q i = step c (After c q) i

-- the blocks that retire as these inputs come, in order
abbrev pub retired_from : AcqConfig → State → List Input → List Retirement
retired_from c s [] = []
retired_from c s (i ∷ q) = (step c s i).retired ++ retired_from c (step c s i).after q

-- the requests that are made, in order
abbrev pub requests_from : AcqConfig → State → List Input → List Request
requests_from c s [] = []
requests_from c s (i ∷ q) = (step c s i).requests ++ requests_from c (step c s i).after q

-- ---- the packets of a list of inputs

abbrev pub with_packet : Option StreamPacket → List StreamPacket → List StreamPacket
with_packet None xs = xs
with_packet (Some x) xs = x ∷ xs

-- what the datagrams are that are packets
abbrev pub packets_in : List Input → List StreamPacket
packets_in [] = []
packets_in (datagram bytes ∷ q) = with_packet (packet_of bytes) (packets_in q)
packets_in (claimed given ∷ q) = packets_in q
packets_in (tick moment ∷ q) = packets_in q
packets_in (stop ∷ q) = packets_in q
packets_in (restart ∷ q) = packets_in q

-- ---- which input may come next

-- Where a buffer is claimed for a block, the claim's outcome comes next, and only there. A start comes
-- where no block is open.
abbrev pub MayCome : State → Input → Type 0
MayCome s (datagram bytes) = s.asked ≡ None
MayCome s (claimed given) = (b : ℕ) × (s.asked ≡ Some b)
MayCome s (tick moment) = s.asked ≡ None
MayCome s stop = s.asked ≡ None
MayCome s restart = (s.asked ≡ None) × (s.opens ≡ [])

-- the answers to the datagrams among these inputs
abbrev pub with_need : Option Need → List Need → List Need
with_need None ns = ns
with_need (Some n) ns = n ∷ ns

abbrev pub needs_from : AcqConfig → State → List Input → List Need
needs_from c s [] = []
needs_from c s (i ∷ q) = with_need (step c s i).need (needs_from c (step c s i).after q)
