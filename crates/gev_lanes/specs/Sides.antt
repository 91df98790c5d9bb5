-- The ends of the lanes' queues: whose they are, how they are when they are new, and what is known where they meet.
use Rattle.std.specs.Prelude.{◌≡◌, ⊤, ℕ, suc, List, [], ◌∷◌, length, slice_get, Some, IsSome}
use Rattle.gev_lanes.specs.LineEnds.{BeginsWith}
use Rattle.gev_lanes.specs.declared.parts.LaneQueues.{LaneQueues}
use Rattle.gev_lanes.specs.declared.parts.ReaderLane.{ReaderLane}
use Rattle.gev_lanes.specs.declared.parts.LaneHands.{LaneHands}
use Rattle.gev_lanes.specs.declared.parts.LaneStarts.{LaneStarts}

-- how many cells a lane has for datagrams and moments, and how many requests may wait
abbrev pub CELLS : ℕ
CELLS = 64

-- how many cells its queues of cells have room for: these, and the one that is kept for the end
abbrev pub ROOM : ℕ
ROOM = 65

-- A lane's ends, with its number.
pub record LaneEnd : Type 0 where
  pub number : ℕ
  pub hands : LaneHands

-- The reader's ends of these queues. Of the free cells 64 had been given when the ends parted.
pub record IsReaderOf (q : LaneQueues) (s : ReaderLane) : Type 0 where
  pub free : s.free.line ≡ q.free.table
  pub cells : s.cells.line ≡ q.cells.table
  pub requests : s.requests.line ≡ q.requests.table
  pub least : s.free.least ≡ CELLS

-- The lane's ends of these queues.
pub record IsLaneOf (q : LaneQueues) (e : LaneHands) : Type 0 where
  pub free : e.free.line ≡ q.free.table
  pub cells : e.cells.line ≡ q.cells.table
  pub requests : e.requests.line ≡ q.requests.table

-- The reader's ends of each lane's queues.
abbrev pub AreReadersOf : List LaneQueues → List ReaderLane → Type 0
AreReadersOf [] [] = ⊤
AreReadersOf [] (s ∷ ss) = ⊥
AreReadersOf (q ∷ qs) [] = ⊥
AreReadersOf (q ∷ qs) (s ∷ ss) = IsReaderOf q s × AreReadersOf qs ss

-- The cell for the end of each lane is kept still.
abbrev pub AreKept : List ReaderLane → Type 0
AreKept [] = ⊤
AreKept (s ∷ ss) = IsSome s.kept × AreKept ss

-- That of lane k is.
pub record KeptAt (k : ℕ) (ss : List ReaderLane) : Type 0 where
  pub side : ReaderLane
  pub at : slice_get ss k ≡ Some side
  pub kept : IsSome side.kept

-- These are the ends of the lane with their number.
pub record IsLaneAt (qs : List LaneQueues) (e : LaneEnd) : Type 0 where
  pub queues : LaneQueues
  pub at : slice_get qs e.number ≡ Some queues
  pub lane_of : IsLaneOf queues e.hands

-- Each of these is the ends of a lane.
abbrev pub AreLanesOf : List LaneQueues → List LaneEnd → Type 0
AreLanesOf qs [] = ⊤
AreLanesOf qs (e ∷ es) = IsLaneAt qs e × AreLanesOf qs es

-- ---- new lanes

-- Room for all cells, and for 64 requests.
pub record HasRoom (q : LaneQueues) : Type 0 where
  pub free : q.free.capacity ≡ ROOM
  pub cells : q.cells.capacity ≡ ROOM
  pub requests : q.requests.capacity ≡ CELLS

abbrev pub HaveRoom : List LaneQueues → Type 0
HaveRoom [] = ⊤
HaveRoom (q ∷ qs) = HasRoom q × HaveRoom qs

-- Both ends of these new queues, before they part: 64 cells were given to the queue of free cells, and nothing else.
pub record AreFresh (q : LaneQueues) (s : LaneStarts) : Type 0 where
  pub room : HasRoom q
  pub free : s.free.line ≡ q.free.table
  pub given : length s.free.given ≡ CELLS
  pub cells : s.cells ≡ record { line = q.cells.table; given = []; refusals = 0 }
  pub requests : s.requests ≡ record { line = q.requests.table; given = []; refusals = 0 }

-- A new lane: 64 cells were given to the queue of free cells, as the lane's first, and one is kept for the end;
-- nothing else was given or taken, and no try was made that failed.
pub record IsNew (q : LaneQueues) (s : ReaderLane) (e : LaneEnd) (number : ℕ) : Type 0 where
  pub room : HasRoom q
  pub reader : IsReaderOf q s
  pub lane_of : IsLaneOf q e.hands
  pub numbered : e.number ≡ number
  pub cells_there : length e.hands.free.given ≡ CELLS
  pub end_there : IsSome s.kept
  pub none_freed : s.free.taken ≡ []
  pub none_sent : s.cells.given ≡ []
  pub none_come : e.hands.cells.taken ≡ []
  pub none_asked : e.hands.requests.given ≡ []
  pub none_heard : s.requests.taken ≡ []
  pub none_missed : s.free.misses ≡ 0
  pub none_unasked : s.requests.misses ≡ 0
  pub none_refused : e.hands.requests.refusals ≡ 0
  pub last : s.last ≡ 0

-- New lanes, one by one, with numbers from this one on.
abbrev pub AreNew : ℕ → List LaneQueues → List ReaderLane → List LaneEnd → Type 0
AreNew number [] [] [] = ⊤
AreNew number (q ∷ qs) (s ∷ ss) (e ∷ es) = IsNew q s e number × AreNew (suc number) qs ss es
AreNew number qs ss es = ⊥

-- ---- the meeting

-- What the one side took is the front of what the other gave, of each queue.
pub record Met (s : ReaderLane) (e : LaneHands) : Type 0 where
  pub free : BeginsWith e.free.given s.free.taken
  pub cells : BeginsWith s.cells.given e.cells.taken
  pub requests : BeginsWith e.requests.given s.requests.taken

-- So it is between a lane and the reader's ends of its queues.
pub record MetAt (ss : List ReaderLane) (e : LaneEnd) : Type 0 where
  pub side : ReaderLane
  pub at : slice_get ss e.number ≡ Some side
  pub met : Met side e.hands
