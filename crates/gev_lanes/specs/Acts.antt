-- What the reader and a lane do at their ends of the queues, each as what it makes of the ends.
use Rattle.std.specs.Prelude.{◌≡◌, ◌⊎◌, ℕ, Bool, true, false, nat_lt, MatchBool, List, [], ◌∷◌, slice_get, slice_set, Option, Some, None}
use Rattle.gev_lanes.specs.LineEnds.{GiverEnd, TakerEnd, gave, refused, took, missed, WasEmpty, WasFull}
use Rattle.gev_lanes.specs.declared.cell.Cell.{Cell}
use Rattle.gev_lanes.specs.declared.parts.ReaderLane.{ReaderLane}
use Rattle.gev_lanes.specs.Messages.{Message, heard, told, ended, message_of}
use Rattle.gev_lanes.specs.Sides.{CELLS, LaneEnd}

-- ---- the reader at one lane

-- A free cell was taken, and given to the lane with this message, before another was taken.
pub record Brings (m : Message) (s t : ReaderLane) : Type 0 where
  pub free : Cell
  pub cell : Cell
  pub message : message_of cell ≡ m
  pub is : t ≡ record { free = took s.free (free ∷ []); cells = gave s.cells (cell ∷ []); requests = s.requests; kept = s.kept; last = m.moment }

-- A try for a free cell found none, and nothing else was done.
pub record LeavesOut (s t : ReaderLane) : Type 0 where
  pub is : t ≡ record { free = missed s.free; cells = s.cells; requests = s.requests; kept = s.kept; last = s.last }
  pub empty : WasEmpty s.free

abbrev pub Tries : Message → Bool → ReaderLane → ReaderLane → Type 0
Tries m true s t = Brings m s t
Tries m false s t = LeavesOut s t

-- The message was brought, or left out since a try for a free cell found none.
pub record TriesTo (m : Message) (s t : ReaderLane) : Type 0 where
  pub brought : Bool
  pub tries : Tries m brought s t

-- A datagram of this moment is brought, where one came for the lane.
abbrev pub Hears : Option (List ℕ) → ℕ → ReaderLane → ReaderLane → Type 0
Hears None moment s t = t ≡ s
Hears (Some bytes) moment s t = TriesTo (record { moment = moment; says = heard bytes }) s t

-- The moment is brought, where the lane's last cell had a lower one.
abbrev pub Ticks : ℕ → ReaderLane → ReaderLane → Type 0
Ticks moment s t = MatchBool (nat_lt s.last moment) (TriesTo (record { moment = moment; says = told }) s t) (t ≡ s)

-- The cell that was kept was given to the lane with this message, and no free cell was taken for it.
pub record BringsKept (m : Message) (s t : ReaderLane) : Type 0 where
  pub kept : Cell
  pub had : s.kept ≡ Some kept
  pub cell : Cell
  pub message : message_of cell ≡ m
  pub is : t ≡ record { free = s.free; cells = gave s.cells (cell ∷ []); requests = s.requests; kept = None; last = m.moment }

-- The end is brought.
abbrev pub Ends : ℕ → ReaderLane → ReaderLane → Type 0
Ends moment s t = BringsKept (record { moment = moment; says = ended }) s t

-- Nothing but the end that takes the lane's requests became another.
abbrev pub with_asked : ReaderLane → TakerEnd (List ℕ) → ReaderLane
with_asked s requests = record { free = s.free; cells = s.cells; requests = requests; kept = s.kept; last = s.last }

-- One request was taken.
abbrev pub AsksOne : List ℕ → ReaderLane → ReaderLane → Type 0
AsksOne request s t = t ≡ with_asked s (took s.requests (request ∷ []))

-- A try for a request found none.
pub record AsksNone (s t : ReaderLane) : Type 0 where
  pub is : t ≡ with_asked s (missed s.requests)
  pub empty : WasEmpty s.requests

-- What a try for a request gave.
abbrev pub Asked : Option (List ℕ) → ReaderLane → ReaderLane → Type 0
Asked None s t = AsksNone s t
Asked (Some request) s t = AsksOne request s t

-- This was done at lane k, and nothing at another.
pub record DoesAt (Does : ReaderLane → ReaderLane → Type 0) (k : ℕ) (ss ts : List ReaderLane) : Type 0 where
  pub side : ReaderLane
  pub at : slice_get ss k ≡ Some side
  pub after : ReaderLane
  pub does : Does side after
  pub is : ts ≡ slice_set ss k after

-- ---- the lane

-- The lane took this cell.
abbrev pub with_taken : LaneEnd → Cell → LaneEnd
with_taken e cell =
    record { number = e.number; hands = record { free = e.hands.free; cells = took e.hands.cells (cell ∷ []); requests = e.hands.requests } }

-- The lane gave this cell back.
abbrev pub with_freed : LaneEnd → Cell → LaneEnd
with_freed e cell =
    record { number = e.number; hands = record { free = gave e.hands.free (cell ∷ []); cells = e.hands.cells; requests = e.hands.requests } }

abbrev pub with_requests : LaneEnd → GiverEnd (List ℕ) → LaneEnd
with_requests e requests = record { number = e.number; hands = record { free = e.hands.free; cells = e.hands.cells; requests = requests } }

-- A request was given, or left out since a try to give it found their queue full.
abbrev pub Puts : List ℕ → GiverEnd (List ℕ) → GiverEnd (List ℕ) → Type 0
Puts request s t = (t ≡ gave s (request ∷ [])) ⊎ ((t ≡ refused s) × WasFull CELLS s)

-- The lane did so with a request.
pub record PutsOne (request : List ℕ) (e f : LaneEnd) : Type 0 where
  pub requests : GiverEnd (List ℕ)
  pub puts : Puts request e.hands.requests requests
  pub is : f ≡ with_requests e requests
