-- What callers know of a receiver.
use Rattle.std.specs.Prelude.{◌≡◌, ℕ, List, [], ◌∷◌, ◌++◌, length, map, Bool, Option, Some, None}
use Rattle.block_assembly.specs.Assembly.{size_of}
use Rattle.acquisition_machine.specs.declared.config.AcqConfig.{AcqConfig}
use Rattle.acquisition_machine.specs.Blocks.{Given, Open, fills}
use Rattle.acquisition_machine.specs.Machine.{Input, State, request_bytes}
use Rattle.acquisition_machine.specs.Runs.{After, turn}
use Rattle.acquisition_machine.specs.TurnLaws.{with_given, held, given_of}
use Rattle.acq_core.specs.declared.slot.Hold.{Hold}
use Rattle.acq_core.specs.declared.slot.Hold.TheVariants.{Without, With}
use Rattle.acq_core.specs.declared.slot.Slot.{Slot}
use Rattle.acq_core.specs.declared.window.Window.{Window}
use Rattle.acq_core.specs.Standing.{Acts, ActsForSome, HasRoom, HasPlace}
use Rattle.acq_core.specs.Ending.{ends_of}
use Rattle.acq_core.specs.Waiting.{waiting_fills, waiting_requests, waiting_resends, waiting_ends, AreNumbered}

abbrev pub config_of : Window → AcqConfig
config_of m = m.config

-- the blocks that retire are told
abbrev pub is_telling : Window → Bool
is_telling m = m.telling

-- the block for which a buffer is asked
abbrev pub asked_block : Window → Option ℕ
asked_block m = m.asked

-- how many blocks are open, those without a buffer included
abbrev pub open_count : Window → ℕ
open_count m = length m.slots.items

abbrev pub given_in : Hold → Option Given
given_in (Without spare) = None
given_in (With place assembly) = Some (record { place = place; size = size_of assembly })

abbrev pub given_to : List Slot → List Given
given_to [] = []
given_to (x ∷ xs) = with_given (given_in x.hold) (given_to xs)

-- the buffers of open blocks, each by the number of its place and its size in bytes, that of the lowest
-- block first
abbrev pub buffers : Window → List Given
buffers m = given_to m.slots.items

-- The receiver is as these inputs leave it, first in first.
abbrev pub Stands : Window → List Input → Type 0
Stands m q = Acts m (After (config_of m) q)

-- what a receiver shows is that state's
pub record Shows (m : Window) (s : State) : Type 0 where
  pub buffers : buffers m ≡ held s.opens
  pub opens : open_count m ≡ length s.opens
  pub asked : asked_block m ≡ s.asked

-- A receiver shows what its inputs leave.
abbrev pub ReceiversShowTheirInputs : Type 0
ReceiversShowTheirInputs = (m : Window) (q : List Input) → Stands m q → Shows m (After (config_of m) q)

-- how often the open block with this id has asked for missing packets
abbrev pub rounds_of : Option Open → ℕ
rounds_of None = 0
rounds_of (Some o) = o.rounds

-- One more input came: what waits grows by what its turn gives, and by nothing else. The blocks that are told
-- are those that retire at this turn alone.
pub record Takes (old new : Window) (i : Input) : Type 0 where
  pub stands : (q : List Input) → Stands old q → Stands new (q ++ i ∷ [])
  pub fills : (q : List Input) → Stands old q → waiting_fills new ≡ waiting_fills old ++ fills (config_of old).p (turn (config_of old) q i).retired
  pub requests : (q : List Input) → Stands old q → waiting_requests new ≡ waiting_requests old ++ map request_bytes (turn (config_of old) q i).requests
  pub resends : (q : List Input) → Stands old q → waiting_resends new ≡ waiting_resends old ++ map (λ r. r.resend) (turn (config_of old) q i).requests
  pub ends : (q : List Input) → Stands old q → waiting_ends new ≡ ends_of (is_telling old) (config_of old).p (After (config_of old) q).floor (turn (config_of old) q i).retired
  pub buffers : (q : List Input) → Stands old q → buffers new ≡ held (turn (config_of old) q i).after.opens
  pub opens : (q : List Input) → Stands old q → open_count new ≡ length (turn (config_of old) q i).after.opens
  pub config : config_of new ≡ config_of old
  pub telling : is_telling new ≡ is_telling old

-- No buffer is lost, and none is doubled: those that wait, and then those of open blocks, are what they were.
abbrev pub KeepsBuffers : Window → Window → Type 0
KeepsBuffers old new = map given_of (waiting_fills new) ++ buffers new ≡ map given_of (waiting_fills old) ++ buffers old

-- Only what waits was touched.
pub record KeepsBlocks (old new : Window) : Type 0 where
  pub stands : (q : List Input) → Stands old q → Stands new q
  pub buffers : buffers new ≡ buffers old
  pub opens : open_count new ≡ open_count old
  pub asked : asked_block new ≡ asked_block old
  pub config : config_of new ≡ config_of old

-- What holds of each receiver: it is as some inputs leave it, no list grows beyond what was taken for it, and
-- the requests that wait can be sent.
pub record IsReceiver (m : Window) : Type 0 where
  pub acts : ActsForSome m
  pub room : HasRoom m
  pub numbered : AreNumbered m
  pub place : (b : ℕ) → asked_block m ≡ Some b → HasPlace m
