-- What the reader's turns bring to one lane.
use Rattle.std.specs.Prelude.{◌≡◌, ◌⊎◌, ℕ, ◌+◌, ◌≤◌, List, [], ◌∷◌, ◌++◌, length, Option, Some, None}
use Rattle.gev_control.specs.Controlled.{listed}
use Rattle.gev_lanes.specs.LineEnds.{TakerEnd, gave}
use Rattle.gev_lanes.specs.declared.cell.Cell.{Cell}
use Rattle.gev_lanes.specs.declared.parts.ReaderLane.{ReaderLane}
use Rattle.gev_lanes.specs.Messages.{Says, Message, heard, told, ended, messages, GoOn}
use Rattle.gev_lanes.specs.Acts.{Hears, Ticks}
use Rattle.lane_reader.specs.LanesTurns.{ReaderTurn, part_of, Asks}

-- these are some of those, in order
abbrev pub IsSublist : {A : Type 0} → List A → List A → Type 0
IsSublist xs [] = xs ≡ []
IsSublist {A} xs (y ∷ ys) = IsSublist xs ys ⊎ ((rest : List A) × (xs ≡ y ∷ rest) × IsSublist rest ys)

abbrev pub datagram_in : Says → List (List ℕ)
datagram_in (heard bytes) = bytes ∷ []
datagram_in told = []
datagram_in ended = []

-- the datagrams of which these tell
abbrev pub datagrams_in : List Message → List (List ℕ)
datagrams_in [] = []
datagrams_in (m ∷ ms) = datagram_in m.says ++ datagrams_in ms

-- what came for lane k of n in these turns
abbrev pub parts_of : ℕ → ℕ → List ReaderTurn → List (List ℕ)
parts_of n k [] = []
parts_of n k (t ∷ ts) = listed (part_of n k t.answer) ++ parts_of n k ts

abbrev pub heard_at : Option (List ℕ) → ℕ → List Message
heard_at None moment = []
heard_at (Some bytes) moment = record { moment = moment; says = heard bytes } ∷ []

-- What these turns may bring to lane k of n: of each its datagram for the lane, and its moment.
abbrev pub news_of : ℕ → ℕ → List ReaderTurn → List Message
news_of n k [] = []
news_of n k (t ∷ ts) = (heard_at (part_of n k t.answer) t.moment ++ (record { moment = t.moment; says = told } ∷ [])) ++ news_of n k ts

-- These were taken, and so many tries found the queue empty.
abbrev pub took_in_tries : TakerEnd Cell → List Cell → ℕ → TakerEnd Cell
took_in_tries e cells misses = record { line = e.line; least = e.least; taken = e.taken ++ cells; misses = e.misses + misses }

-- As many cells were given to the lane as free ones were taken; none says the end, their datagrams are some of these
-- parts, in order, and what they say some of these news. No more of these parts are left out than tries for a free cell
-- found none.
pub record Brought (parts : List (List ℕ)) (news : List Message) (s u : ReaderLane) : Type 0 where
  pub free : List Cell
  pub cells : List Cell
  pub misses : ℕ
  pub taken : u.free ≡ took_in_tries s.free free misses
  pub given : u.cells ≡ gave s.cells cells
  pub as_many : length free ≡ length cells
  pub go_on : GoOn (messages cells)
  pub datagrams : IsSublist (datagrams_in (messages cells)) parts
  pub left_out : length parts ≤ length (datagrams_in (messages cells)) + misses
  pub news_are : IsSublist (messages cells) news

-- A turn at lane k of n.
pub record LaneTurn (n k : ℕ) (t : ReaderTurn) (s u : ReaderLane) : Type 0 where
  pub hearing : ReaderLane
  pub after : ReaderLane
  pub requests : List (List ℕ)
  pub hears : Hears (part_of n k t.answer) t.moment s hearing
  pub ticks : Ticks t.moment hearing after
  pub asks : Asks requests after u

abbrev pub LaneTurns : ℕ → ℕ → List ReaderTurn → ReaderLane → ReaderLane → Type 0
LaneTurns n k [] s u = u ≡ s
LaneTurns n k (t ∷ ts) s u = (m : ReaderLane) × LaneTurn n k t s m × LaneTurns n k ts m u
