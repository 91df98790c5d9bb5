-- What the workers of a live run with lanes begin with, and how each lane gets a pass.
use Rattle.std.specs.Prelude.{◌≡◌, ⊤, ℕ, ◌≤◌, List, [], ◌∷◌, length}
use Rattle.atomic_table.specs.Seated.{TableId}
use Rattle.board_machine.specs.declared.events.Event.TheVariants.{Split}
use Rattle.buffer_words.specs.Passes.{Token, own, IsEmptyHanded, Enters}
use Rattle.acq_core.specs.Receiver.{config_of}
use Rattle.acq_core.specs.declared.window.Window.{Window}
use Rattle.gev_lanes.specs.declared.parts.LaneQueues.{LaneQueues}
use Rattle.gev_lanes.specs.declared.parts.ReaderLane.{ReaderLane}
use Rattle.gev_lanes.specs.Sides.{LaneEnd, IsLaneAt, AreReadersOf}
use Rattle.gev_lanes.specs.Sides as sides
use Rattle.gev_live.specs.Told.{live_config, IsNewReceiver}
use Rattle.lane_crew.specs.declared.lane_tools.LaneTools.{LaneTools}

-- what a lane begins with beside its pass: its ends of its queues, and its receiver
abbrev pub NewPart : Type 0
NewPart = LaneEnd × Window

-- The ends are those of a lane of these queues, and the receiver is new.
pub record IsNewPart (qs : List LaneQueues) (p : NewPart) : Type 0 where
  pub lane : IsLaneAt qs p.0
  pub receiver : IsNewReceiver p.1

abbrev pub AreNewParts : List LaneQueues → List NewPart → Type 0
AreNewParts qs [] = ⊤
AreNewParts qs (p ∷ ps) = IsNewPart qs p × AreNewParts qs ps

abbrev pub ends_of : List NewPart → List LaneEnd
ends_of [] = []
ends_of (p ∷ ps) = p.0 ∷ ends_of ps

-- So many lanes are new.
pub record AreNew (lanes : ℕ) (qs : List LaneQueues) (reader : List ReaderLane) (parts : List NewPart) (tools : List LaneTools) (room : ℕ) : Type 0 where
  pub count : length qs ≡ lanes
  pub new : sides.AreNew 0 qs reader (ends_of parts)
  pub readers : AreReadersOf qs reader
  pub parts_new : AreNewParts qs parts
  pub no_tools : tools ≡ []
  pub room_for : length parts ≤ room

-- ---- the passes

-- A new pass of this board was split off for the lane.
pub record IsSplit (board : TableId) (p : NewPart) (s : Token) (x : LaneTools) (t : Token) : Type 0 where
  pub splits : Enters s (Split x.pass.number) t
  pub table : x.pass.table ≡ board
  pub unborn : own x.pass ≡ []
  pub empty : IsEmptyHanded x.pass
  pub ends : x.ends ≡ p.0
  pub acq : x.acq ≡ p.1

-- One for each lane, in their order.
abbrev pub AreSplit : TableId → List NewPart → Token → List LaneTools → Token → Type 0
AreSplit board [] s [] u = u ≡ s
AreSplit board [] s (x ∷ xs) u = ⊥
AreSplit board (p ∷ ps) s [] u = ⊥
AreSplit board (p ∷ ps) s (x ∷ xs) u = (t : Token) × IsSplit board p s x t × AreSplit board ps t xs u

abbrev pub numbers_in : List LaneTools → List ℕ
numbers_in [] = []
numbers_in (x ∷ xs) = x.pass.number ∷ numbers_in xs

-- the receiver of each lane is configured as a live run's
abbrev pub AreLiveTools : List LaneTools → Type 0
AreLiveTools [] = ⊤
AreLiveTools (x ∷ xs) = (config_of x.acq ≡ live_config) × AreLiveTools xs
