-- Laws of reader and lane, whatever they were.
use Rattle.std.specs.Prelude.{◌≡◌, ℕ, ◌≤◌, List, [], ◌∷◌, ◌++◌, length, slice_get, Some}
use Rattle.gev_lanes.specs.LineEnds.{gave, BeginsWith}
use Rattle.gev_lanes.specs.declared.cell.Cell.{Cell}
use Rattle.gev_lanes.specs.declared.parts.ReaderLane.{ReaderLane}
use Rattle.gev_lanes.specs.Sides.{CELLS}
use Rattle.gev_lanes.specs.Messages.{ended, message_of, messages, GoOn}
use Rattle.gev_lanes.specs.Acts.{LeavesOut}
use Rattle.lane_reader.specs.LanesTurns.{ReaderTurn, TakesLanesTurns}
use Rattle.lane_reader.specs.Brought.{datagrams_in, parts_of, news_of, Brought, LaneTurns}

-- What the turns do on all lanes they do at each.
abbrev pub LanesTakeTurns : Type 0
LanesTakeTurns =
    (n k : ℕ) (ts : List ReaderTurn) (ss us : List ReaderLane) (s : ReaderLane) → TakesLanesTurns n ts ss us → slice_get ss k ≡ Some s
    → (u : ReaderLane) × (slice_get us k ≡ Some u) × LaneTurns n k ts s u

-- The turns bring as many cells to a lane as they take free ones of it; the datagrams are some of those that came for
-- it, in order, and the cells some of the turns' datagrams and moments for it.
abbrev pub TurnsBring : Type 0
TurnsBring =
    (n k : ℕ) (ts : List ReaderTurn) (s u : ReaderLane) → LaneTurns n k ts s u → Brought (parts_of n k ts) (news_of n k ts) s u

-- A lane that took cells up to an end took all that were given, where the reader gave the end last.
abbrev pub LanesTakeAll : Type 0
LanesTakeAll =
    (taken given : List Cell) (last e : Cell) → GoOn (messages taken) → (message_of last).says ≡ ended → GoOn (messages given)
    → BeginsWith (given ++ e ∷ []) (taken ++ last ∷ []) → taken ++ last ∷ [] ≡ given ++ e ∷ []

-- Where the turns' tries for a free cell of the lane all found one, each datagram that came for it was brought.
abbrev pub OnlyMissesLeaveOut : Type 0
OnlyMissesLeaveOut =
    (n k : ℕ) (ts : List ReaderTurn) (s u : ReaderLane) → LaneTurns n k ts s u → u.free.misses ≡ s.free.misses
    → (cells : List Cell) × (u.cells ≡ gave s.cells cells) × (datagrams_in (messages cells) ≡ parts_of n k ts)

-- Nothing is left out before the lane's first 64 cells are on their way.
abbrev pub FirstCellsAreBrought : Type 0
FirstCellsAreBrought = (s t : ReaderLane) → s.free.least ≡ CELLS → LeavesOut s t → CELLS ≤ length s.free.taken
