-- What the receiver's state stands for: a state of the acquisition machine.
use Rattle.std.specs.Prelude.{◌≡◌, ℕ, ◌+◌, ◌*◌, ◌-◌, ◌^◌, ◌≤◌, min, List, length, Option, Some, None}
use Rattle.std.specs.List.{AllZip, AllByRecursion}
use Rattle.std.specs.Vec.{vec_len, vec_capacity}
use Rattle.stream_packets.specs.Packets.{StreamPacket}
use Rattle.block_image.specs.Sizes.{IsPayloadSize}
use Rattle.block_assembly.specs.declared.progress.Progress.{Progress}
use Rattle.block_assembly.specs.Assembly.{AssemblyStands}
use Rattle.block_assembly.specs.PacketIds.{packet_ids}
use Rattle.acquisition_machine.specs.declared.config.AcqConfig.{AcqConfig}
use Rattle.acquisition_machine.specs.declared.counts.Counts.{Counts}
use Rattle.acquisition_machine.specs.Blocks.{Given, Open}
use Rattle.acquisition_machine.specs.Machine.{State, Request}
use Rattle.acquisition_machine.specs.Sound.{IsSound}
use Rattle.acq_core.specs.declared.slot.Spare.{Spare}
use Rattle.acq_core.specs.declared.slot.Hold.{Hold}
use Rattle.acq_core.specs.declared.slot.Hold.TheVariants.{Without, With}
use Rattle.acq_core.specs.declared.slot.Slot.{Slot}
use Rattle.acq_core.specs.declared.asked.Asked.{Asked}
use Rattle.acq_core.specs.declared.window.Window.{Window}

-- both bitmaps have all packet ids
pub record IsWide (spare : Spare) : Type 0 where
  pub kept : length spare.kept ≡ packet_ids
  pub refused : length spare.refused ≡ packet_ids

-- the buffer of this place, in the assembly of the packets that were heard
pub record IsFilling (p b : ℕ) (at : ℕ) (assembly : Progress) (g : Given) (heard : List StreamPacket) : Type 0 where
  pub place : at ≡ g.place
  pub stands : AssemblyStands assembly p b g.size heard

-- what a block was given, and what became of it
abbrev pub HoldsFor : ℕ → ℕ → Hold → Option Given → List StreamPacket → Type 0
HoldsFor p b (Without spare) None heard = IsWide spare
HoldsFor p b (Without spare) (Some g) heard = ⊥
HoldsFor p b (With place assembly) None heard = ⊥
HoldsFor p b (With place assembly) (Some g) heard = IsFilling p b place assembly g heard

-- the slot stands for an open block
pub record SlotStands (p : ℕ) (x : Slot) (o : Open) : Type 0 where
  pub block : x.block ≡ o.block
  pub hold : HoldsFor p o.block x.hold o.given o.heard
  pub last : x.last ≡ o.last
  pub rounds : x.rounds ≡ o.rounds
  pub round_at : x.round_at ≡ o.round_at

abbrev pub SlotsStand : ℕ → List Slot → List Open → Type 0
SlotsStand p xs os = AllZip (SlotStands p) xs os

-- it is what some open block was given
pub record IsHeld (p : ℕ) (hold : Hold) : Type 0 where
  pub block : Open
  pub holds : HoldsFor p block.block hold block.given block.heard

-- it stands for some open block
pub record IsSlot (p : ℕ) (x : Slot) : Type 0 where
  pub block : Open
  pub stands : SlotStands p x block

-- block ids that are used up are the floor above the last of them
abbrev pub floor_of : Option ℕ → ℕ
floor_of None = 2 ^ 64
floor_of (Some floor) = floor

-- counts stand still at their type's end
abbrev pub capped : Counts → Counts
capped n = record {
  underrun = min n.underrun (2 ^ 64 - 1);
  requests = min n.requests (2 ^ 64 - 1);
  foreign = min n.foreign (2 ^ 64 - 1);
  late = min n.late (2 ^ 64 - 1);
  repeat = min n.repeat (2 ^ 64 - 1);
  misfit = min n.misfit (2 ^ 64 - 1);
  starved = min n.starved (2 ^ 64 - 1);
  notice = min n.notice (2 ^ 64 - 1);
}

-- The receiver's state is that state of the acquisition machine.
pub record Acts (a : Window) (s : State) : Type 0 where
  pub moment : a.moment ≡ s.now
  pub floor : floor_of a.floor ≡ s.floor
  pub slots : SlotsStand a.config.p a.slots.items s.opens
  pub asked : a.asked ≡ s.asked
  pub counts : a.counts ≡ capped s.counts
  pub number : a.number ≡ s.number

-- it is some sound state
pub record ActsForSome (a : Window) : Type 0 where
  pub state : State
  pub acts : Acts a state
  pub sound : IsSound a.config state

-- how a request waits
abbrev pub asked_of : Request → Asked
asked_of r = record { number = r.number; resend = r.resend }

-- the numbers that a configuration may have
pub record IsConfig (c : AcqConfig) : Type 0 where
  pub payload_size : IsPayloadSize c.p
  pub window_some : 1 ≤ c.window
  pub window_few : c.window ≤ 4
  pub timeout_some : 1 ≤ c.timeout
  pub timeout_most : c.timeout ≤ 60000
  pub age_some : 1 ≤ c.age
  pub age_most : c.age ≤ 60000
  pub rounds : c.rounds ≤ 8

-- Whatever comes, no list grows beyond what was taken for it, and each block that opens finds its bitmaps.
pub record HasRoom (a : Window) : Type 0 where
  pub config : IsConfig a.config
  pub slots : a.config.window ≤ vec_capacity a.slots
  pub spare : a.config.window ≤ vec_capacity a.spare
  pub fills : vec_len a.fills + vec_len a.slots ≤ vec_capacity a.fills
  pub fills_all : a.config.window + 1 ≤ vec_capacity a.fills
  pub ends : vec_len a.ends + vec_len a.slots ≤ vec_capacity a.ends
  pub ends_all : a.config.window ≤ vec_capacity a.ends
  pub pairs : vec_len a.spare + vec_len a.slots ≡ a.config.window
  pub wide : AllByRecursion IsWide a.spare.items
  pub requests : 8 * a.config.window ≤ vec_capacity a.requests

-- each slot stands for an open block
abbrev pub AreSlots : Window → Type 0
AreSlots a = (os : List Open) × SlotsStand a.config.p a.slots.items os

-- what waits leaves room for the fill of one more block
abbrev pub HasPlace : Window → Type 0
HasPlace a = vec_len a.fills + vec_len a.slots ≤ a.config.window
