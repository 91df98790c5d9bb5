-- A turn of the reader on all lanes.
use Rattle.std.specs.Prelude.{◌≡◌, ◌⊎◌, ⊤, ℕ, suc, ◌<◌, ◌-◌, ◌%◌, ◌==◌, if◌then◌else◌, List, [], ◌∷◌, ◌++◌, length, Option, Some, None, Bool}
use Rattle.stream_packets.specs.Packets.{StreamPacket, head_of}
use Rattle.gvsp_wire.specs.Reading.{packet_of}
use Rattle.gev_lanes.specs.LineEnds.{took, missed, WasEmpty}
use Rattle.gev_lanes.specs.declared.parts.ReaderLane.{ReaderLane}
use Rattle.gev_lanes.specs.Sides.{CELLS}
use Rattle.gev_lanes.specs.Acts.{Hears, Ticks, Ends, with_asked}
use Rattle.gev_links.specs.Links.{Address, Answer, nothing, failed, came}
use Rattle.gev_control.specs.declared.turn_end.TurnEnd.{TurnEnd}
use Rattle.gev_control.specs.Sends.{SendsOn}

-- ---- which lane a datagram is for

-- block b goes to lane (b - 1) mod n, and what is no packet to the first lane
abbrev pub lane_of_packet : ℕ → Option StreamPacket → ℕ
lane_of_packet n None = 0
lane_of_packet n (Some x) = ((head_of x).block - 1) % n

abbrev pub lane_of : ℕ → List ℕ → ℕ
lane_of n bytes = lane_of_packet n (packet_of bytes)

-- what came for lane k of n
abbrev pub part_of : ℕ → ℕ → Answer → Option (List ℕ)
part_of n k nothing = None
part_of n k failed = None
part_of n k (came bytes peer) = if lane_of n bytes == k then Some bytes else None

-- ---- all lanes

-- Each lane became what stands at its place, with numbers from k on.
abbrev pub Each : (ℕ → ReaderLane → ReaderLane → Type 0) → ℕ → List ReaderLane → List ReaderLane → Type 0
Each Does k [] [] = ⊤
Each Does k [] (t ∷ ts) = ⊥
Each Does k (s ∷ ss) [] = ⊥
Each Does k (s ∷ ss) (t ∷ ts) = Does k s t × Each Does (suc k) ss ts

-- 64 requests of a lane were taken, oldest first.
pub record AsksMost (requests : List (List ℕ)) (s t : ReaderLane) : Type 0 where
  pub many : length requests ≡ CELLS
  pub is : t ≡ with_asked s (took s.requests requests)

-- Fewer were taken, and then a try found none.
pub record AsksAll (requests : List (List ℕ)) (s t : ReaderLane) : Type 0 where
  pub few : length requests < CELLS
  pub is : t ≡ with_asked s (missed (took s.requests requests))
  pub empty : WasEmpty (took s.requests requests)

-- These requests of a lane were taken, oldest first: until a try found none, or 64 were taken.
abbrev pub Asks : List (List ℕ) → ReaderLane → ReaderLane → Type 0
Asks requests s t = AsksMost requests s t ⊎ AsksAll requests s t

-- These of each lane, by rising lane.
abbrev pub AsksEach : List (List (List ℕ)) → List ReaderLane → List ReaderLane → Type 0
AsksEach [] [] [] = ⊤
AsksEach (rs ∷ rss) (s ∷ ss) (t ∷ ts) = Asks rs s t × AsksEach rss ss ts
AsksEach rss ss ts = ⊥

-- all requests of a turn, by rising lane
abbrev pub joined : List (List (List ℕ)) → List (List ℕ)
joined [] = []
joined (rs ∷ rss) = rs ++ joined rss

-- They were taken, and sent in order up to the first send that failed.
pub record AsksAndSends (camera : Address) (was now : Bool) (old new : Option (List (Address × List ℕ))) (ss ts : List ReaderLane) : Type 0 where
  pub asked : List (List (List ℕ))
  pub asks : AsksEach asked ss ts
  pub sends : SendsOn camera (joined asked) was now old new

-- ---- turns

pub record ReaderTurn : Type 0 where
  -- what the receive on the stream gave
  pub answer : Answer
  pub moment : ℕ
  -- the requests that were taken of each lane
  pub asked : List (List (List ℕ))
  -- what the receive on the control link gave; None where a link had failed before it
  pub heard : Option Answer
  -- what was sent on the control link
  pub sent : List (List ℕ)
  pub end : TurnEnd

-- What a turn does to the reader's ends: what came is brought to its lane, then the moment to each lane whose last
-- cell had a lower one, and then each lane's requests are taken.
pub record TakesLanesTurn (n : ℕ) (t : ReaderTurn) (ss us : List ReaderLane) : Type 0 where
  pub hearing : List ReaderLane
  pub told : List ReaderLane
  pub hears : Each (λ k. Hears (part_of n k t.answer) t.moment) 0 ss hearing
  pub ticks : Each (λ k. Ticks t.moment) 0 hearing told
  pub asks : AsksEach t.asked told us

abbrev pub TakesLanesTurns : ℕ → List ReaderTurn → List ReaderLane → List ReaderLane → Type 0
TakesLanesTurns n [] ss us = us ≡ ss
TakesLanesTurns n (t ∷ ts) ss us = (middle : List ReaderLane) × TakesLanesTurn n t ss middle × TakesLanesTurns n ts middle us

-- An end cell was given to each lane, the one that was kept for it. Its moment is 0, and no clock was read for it.
abbrev pub EndsEach : List ReaderLane → List ReaderLane → Type 0
EndsEach ss us = Each (λ k. Ends 0) 0 ss us
