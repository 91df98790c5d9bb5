-- What the threads of the lanes work with, before and after.
use Rattle.std.specs.Prelude.{◌≡◌, ⊤, List, [], ◌∷◌, ◌++◌}
use Rattle.atomic_table.specs.Seated.{TableId}
use Rattle.board_machine.specs.declared.events.Entry.{Entry}
use Rattle.board_machine.specs.declared.events.Event.{Event}
use Rattle.board_machine.specs.declared.events.Event.TheVariants.{Join}
use Rattle.board_machine.specs.Places.{IsPrefix}
use Rattle.board_machine.specs.Histories.{After, own_of}
use Rattle.board_machine.specs.Laws.{IsEnded}
use Rattle.acq_core.specs.Receiver.{config_of, buffers, Stands}
use Rattle.acq_core.specs.Waiting.{waiting_fills, waiting_requests}
use Rattle.buffer_words.specs.Passes.{own, IsEmptyHanded}
use Rattle.gev_lanes.specs.declared.parts.LaneQueues.{LaneQueues}
use Rattle.gev_lanes.specs.declared.parts.ReaderLane.{ReaderLane}
use Rattle.gev_lanes.specs.Sides.{LaneEnd, IsLaneAt, MetAt}
use Rattle.board_calls.specs.declared.mode.Mode.{Mode}
use Rattle.lane_crew.specs.Lane.{ServesCells}
use Rattle.lane_crew.specs.declared.lane_tools.LaneTools.{LaneTools}

-- A lane before its run: a new pass of this board with empty hands, the ends of a lane of these queues, and a new
-- receiver.
pub record IsReady (board : TableId) (qs : List LaneQueues) (x : LaneTools) : Type 0 where
  pub table : x.pass.table ≡ board
  pub unborn : own x.pass ≡ []
  pub empty : IsEmptyHanded x.pass
  pub lane : IsLaneAt qs x.ends
  pub new : Stands x.acq []
  pub fills : waiting_fills x.acq ≡ []
  pub requests : waiting_requests x.acq ≡ []
  pub buffers_none : buffers x.acq ≡ []

abbrev pub AreReady : TableId → List LaneQueues → List LaneTools → Type 0
AreReady board qs [] = ⊤
AreReady board qs (x ∷ xs) = IsReady board qs x × AreReady board qs xs

-- The lane served its cells up to the end, and gives its tools back, with nothing in its hands.
pub record IsServed (mode : Mode) (qs : List LaneQueues) (x y : LaneTools) : Type 0 where
  pub table : y.pass.table ≡ x.pass.table
  pub empty : IsEmptyHanded y.pass
  pub lane : IsLaneAt qs y.ends
  pub serves : ServesCells mode (config_of x.acq) (Stands x.acq) (Stands y.acq) x.ends y.ends x.pass y.pass

abbrev pub AreServed : Mode → List LaneQueues → List LaneTools → List LaneTools → Type 0
AreServed mode qs [] [] = ⊤
AreServed mode qs [] (y ∷ ys) = ⊥
AreServed mode qs (x ∷ xs) [] = ⊥
AreServed mode qs (x ∷ xs) (y ∷ ys) = IsServed mode qs x y × AreServed mode qs xs ys

abbrev pub ends_in : List LaneTools → List LaneEnd
ends_in [] = []
ends_in (x ∷ xs) = x.ends ∷ ends_in xs

-- the joins of the lanes' passes, the last lane's first
abbrev pub joins_of : List LaneTools → List Event
joins_of [] = []
joins_of (x ∷ xs) = joins_of xs ++ Join x.pass.number ∷ []

-- ---- home again

-- A lane that has ended: its pass is of this board, with empty hands, and its ends are those of a lane.
pub record IsBack (board : TableId) (qs : List LaneQueues) (y : LaneTools) : Type 0 where
  pub table : y.pass.table ≡ board
  pub empty : IsEmptyHanded y.pass
  pub lane : IsLaneAt qs y.ends

abbrev pub AreBack : TableId → List LaneQueues → List LaneTools → Type 0
AreBack board qs [] = ⊤
AreBack board qs (y ∷ ys) = IsBack board qs y × AreBack board qs ys

-- Its pass was joined, as this history says: all that the pass had seen stands in it, and its actor has ended with the
-- entries that it had.
pub record IsJoined (seen : List Entry) (y : LaneTools) : Type 0 where
  pub front : IsPrefix y.pass.seen seen
  pub own_is : own_of y.pass.number seen ≡ own y.pass
  pub ended : IsEnded (After seen) y.pass.number

abbrev pub AreJoined : List Entry → List LaneTools → Type 0
AreJoined seen [] = ⊤
AreJoined seen (y ∷ ys) = IsJoined seen y × AreJoined seen ys

-- Each has met the reader.
abbrev pub AreMet : List ReaderLane → List LaneTools → Type 0
AreMet us [] = ⊤
AreMet us (y ∷ ys) = MetAt us y.ends × AreMet us ys
