-- Laws of one input: why blocks retire, what is settled, what is counted, and which buffers move.
use Rattle.std.specs.Prelude.{◌≡◌, ⊤, ℕ, ◌-◌, ◌≤◌, true, List, [], ◌∷◌, ◌++◌, length, map, Option, Some, None}
use Rattle.std.specs.List.{AllByRecursion}
use Rattle.stream_packets.specs.Packets.{StreamPacket, head_of}
use Rattle.gvsp_wire.specs.Reading.{packet_of}
use Rattle.block_image.specs.Image.{image}
use Rattle.acquisition_machine.specs.declared.config.AcqConfig.{AcqConfig}
use Rattle.acquisition_machine.specs.declared.counts.Counts.{Counts}
use Rattle.acquisition_machine.specs.declared.need.Need.{Need}
use Rattle.acquisition_machine.specs.declared.need.Need.TheVariants.{Buffer, Done, Ignored}
use Rattle.acquisition_machine.specs.declared.need.Why.TheVariants.{Starved}
use Rattle.acquisition_machine.specs.declared.retired.Retired.{Retired}
use Rattle.acquisition_machine.specs.Blocks.{Given, Open, Cause, complete, old, displaced, stopped, Retirement, fills, due}
use Rattle.acquisition_machine.specs.Machine.{Input, datagram, claimed, tick, stop, restart, State, Turn, count, count_given, count_requests, step}
use Rattle.acquisition_machine.specs.Runs.{After, turn}
use Rattle.acquisition_machine.specs.Sound.{AreOthers}

-- ---- causes

-- The block has a buffer, and its image is whole in it.
pub record IsWhole (p : ℕ) (o : Open) : Type 0 where
  pub given : Given
  pub has : o.given ≡ Some given
  pub whole : (image p o.block given.size o.heard).rec.complete ≡ true

-- A packet of a block that isn't open came, and this was the lowest block of a full window.
pub record IsDisplaced (c : AcqConfig) (s : State) (i : Input) (o : Open) : Type 0 where
  pub bytes : List ℕ
  pub packet : StreamPacket
  pub came : i ≡ datagram bytes
  pub is_packet : packet_of bytes ≡ Some packet
  pub of_other : AreOthers (head_of packet).block s.opens
  pub full : c.window ≤ length s.opens
  pub later : List Open
  pub lowest : s.opens ≡ o ∷ later

-- The cause is true of the block as it was, at this moment, when this input came.
abbrev pub IsTrueCause : AcqConfig → State → Input → ℕ → Open → Cause → Type 0
IsTrueCause c s i now o complete = IsWhole c.p o
IsTrueCause c s i now o old = c.timeout ≤ now - o.last
IsTrueCause c s i now o displaced = IsDisplaced c s i o
IsTrueCause c s i now o stopped = i ≡ stop

abbrev pub HaveTrueCauses : AcqConfig → State → Input → Turn → Type 0
HaveTrueCauses c s i t = AllByRecursion (λ r. IsTrueCause c s i t.after.now r.was r.cause) t.retired

-- each block that retires has one of the four causes, and that one is true
abbrev pub CausesAreTrue : Type 0
CausesAreTrue = (c : AcqConfig) (q : List Input) (i : Input) → 1 ≤ c.window → HaveTrueCauses c (After c q) i (turn c q i)

-- nothing is due of the lowest open block
abbrev pub IsSettledFor : AcqConfig → ℕ → List Open → Type 0
IsSettledFor c now [] = ⊤
IsSettledFor c now (o ∷ os) = due c now o ≡ None

-- after a kept packet and after each moment the lowest open block is neither complete nor old
pub record MachineSettles : Type 0 where
  pub kept : (c : AcqConfig) (s : State) (bytes : List ℕ) → (step c s (datagram bytes)).need ≡ Some Done
      → IsSettledFor c s.now (step c s (datagram bytes)).after.opens
  pub told : (c : AcqConfig) (s : State) (moment : ℕ)
      → IsSettledFor c (step c s (tick moment)).after.now (step c s (tick moment)).after.opens

-- ---- counts and answers

-- an ignored datagram raises the count of its reason by one; any other raises none
abbrev pub count_need : Need → Counts → Counts
count_need (Buffer b) n = n
count_need Done n = n
count_need (Ignored why) n = count why n

pub record IsAnswered (before : Counts) (t : Turn) : Type 0 where
  pub answer : Need
  pub is_answer : t.need ≡ Some answer
  pub counts : t.after.counts ≡ count_need answer before

abbrev pub count_claim : Option Given → Option ℕ → Counts → Counts
count_claim given None n = n
count_claim given (Some b) n = count_given given n

-- Each datagram has an answer, and no other input has. A claim that finds nothing is an underrun, and each
-- request is counted.
abbrev pub IsCounted : State → Input → Turn → Type 0
IsCounted s (datagram bytes) t = IsAnswered s.counts t
IsCounted s (claimed given) t = (t.need ≡ None) × (t.after.counts ≡ count_claim given s.asked s.counts)
IsCounted s (tick moment) t = (t.need ≡ None) × (t.after.counts ≡ count_requests t.requests s.counts)
IsCounted s stop t = (t.need ≡ None) × (t.after.counts ≡ s.counts)
IsCounted s restart t = (t.need ≡ None) × (t.after.counts ≡ s.counts)

abbrev pub TurnsAreCounted : Type 0
TurnsAreCounted = (c : AcqConfig) (s : State) (i : Input) → IsCounted s i (step c s i)

-- the block for which this answer asks for a buffer
abbrev pub asked_by : Option Need → Option ℕ
asked_by None = None
asked_by (Some (Buffer b)) = Some b
asked_by (Some Done) = None
asked_by (Some (Ignored why)) = None

-- a claim is awaited exactly after such an answer
abbrev pub ClaimsFollowBuffer : Type 0
ClaimsFollowBuffer = (c : AcqConfig) (s : State) (i : Input) → (step c s i).after.asked ≡ asked_by (step c s i).need

-- what the datagram that asked is answered when it is told again
abbrev pub answer_again : Option Given → Need
answer_again None = Ignored Starved
answer_again (Some g) = Done

-- After Buffer and a claim's outcome the same datagram never asks again.
abbrev pub AsksOnce : Type 0
AsksOnce =
    (c : AcqConfig) (q : List Input) (bytes : List ℕ) (b : ℕ) (given : Option Given) → 1 ≤ c.window
    → (turn c q (datagram bytes)).need ≡ Some (Buffer b)
    → (turn c (q ++ datagram bytes ∷ claimed given ∷ []) (datagram bytes)).need ≡ Some (answer_again given)

-- ---- buffers

abbrev pub with_given : Option Given → List Given → List Given
with_given None gs = gs
with_given (Some g) gs = g ∷ gs

-- the buffers of these blocks, lowest first
abbrev pub held : List Open → List Given
held [] = []
held (o ∷ os) = with_given o.given (held os)

-- the buffers of the blocks that retired, in order
abbrev pub given_up : List Retirement → List Given
given_up [] = []
given_up (r ∷ rs) = with_given r.was.given (given_up rs)

-- where a fill's buffer belongs, and how many bytes it has
abbrev pub given_of : Retired → Given
given_of f = record { place = f.place; size = length f.buf.bytes }

-- each fill has the place of its block's buffer, and as many bytes
abbrev pub FillsHaveSizes : Type 0
FillsHaveSizes = (p : ℕ) (rs : List Retirement) → map given_of (fills p rs) ≡ given_up rs

-- one more buffer among those that were there
pub record HasOneMore (g : Given) (before after : List Given) : Type 0 where
  pub front : List Given
  pub back : List Given
  pub were : before ≡ front ++ back
  pub are : after ≡ front ++ g ∷ back

abbrev pub TakesGiven : Option Given → Option ℕ → List Given → List Given → Type 0
TakesGiven None asked before after = after ≡ before
TakesGiven (Some g) None before after = after ≡ before
TakesGiven (Some g) (Some b) before after = HasOneMore g before after

-- what comes back, and then what stays, is what was there, in order
abbrev pub GivesBack : ℕ → List Open → Turn → Type 0
GivesBack p before t = map given_of (fills p t.retired) ++ held t.after.opens ≡ held before

abbrev pub KeepsBuffers : AcqConfig → State → Input → Turn → Type 0
KeepsBuffers c s (datagram bytes) t = GivesBack c.p s.opens t
KeepsBuffers c s (claimed given) t = (t.retired ≡ []) × TakesGiven given s.asked (held s.opens) (held t.after.opens)
KeepsBuffers c s (tick moment) t = GivesBack c.p s.opens t
KeepsBuffers c s stop t = GivesBack c.p s.opens t
KeepsBuffers c s restart t = GivesBack c.p s.opens t

-- No buffer is lost, and none is doubled.
abbrev pub NoBufferIsLost : Type 0
NoBufferIsLost = (c : AcqConfig) (q : List Input) (i : Input) → 1 ≤ c.window → KeepsBuffers c (After c q) i (turn c q i)
