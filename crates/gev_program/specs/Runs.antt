-- A live run over ports that give its links and clocks and take them back.
use Rattle.std.specs.Prelude.{◌≡◌, ◌⊎◌, ℕ, ◌≤◌, List, [], ◌∷◌, Option, Some}
use mathlib.Core.Logic.{inl, inr}
use Rattle.board_machine.specs.declared.events.Entry.{Entry}
use Rattle.gev_links.specs.Links.{Address, Answer, IsBlank}
use Rattle.gev_links.specs.PortsState.{IsNew}
use Rattle.gev_program.specs.Bound.{AllToldOfThree, GivesBack, more_binds}
use Rattle.gev_serve.specs.Wires.{Wire}
use Rattle.gev_status.specs.declared.status.Status.{Status}
use Rattle.gev_status.specs.declared.status.Status.TheVariants.{LinkFault, NoMemory}
use Rattle.gev_top.specs.declared.live_numbers.LiveNumbers.{LiveNumbers}
use Rattle.gev_live.specs.Told.{Told, told_by as told_by_two}
use Rattle.gev_live.specs.declared.numbers.Numbers.{Numbers}
use Rattle.gev_live.specs.LiveRun.{RunsLive}
use Rattle.live_promises.specs.Promises.{KeepsLivePromises}
use Rattle.gev_live.specs.LanesRun.{RunsLanes}
use Rattle.live_promises.specs.LanesPromises.{KeepsLanesPromises}
use Rattle.live_recording.specs.Recorded.{RecordsLive}

-- what these three links, of one kind, and three clocks tell
abbrev pub told_by : {L C : Type 0} → (L → Option (List Answer)) → (L → Option (List (Address × List ℕ))) → (L → ℕ) → (C → Option (List ℕ)) → L → L → L → C → C → C → Told
told_by received sent faults told camera stream control camera_clock host_clock app_clock =
    told_by_two received sent faults received sent faults told camera stream control camera_clock host_clock app_clock

abbrev pub IsNewWire : Wire → Type 0
IsNewWire w = IsNew w.received w.sent w.faults

-- nothing was received, sent or read yet, and no call failed
pub record IsUntold (o : Told) : Type 0 where
  pub camera : IsNewWire o.camera
  pub stream : IsNewWire o.stream
  pub control : IsNewWire o.control
  pub camera_clock : IsBlank o.camera_clock
  pub host_clock : IsBlank o.host_clock
  pub app_clock : IsBlank o.app_clock

-- Just three links and three clocks came back, and they tell this.
pub record AreListed {L C : Type 0} (received : L → Option (List Answer)) (sent : L → Option (List (Address × List ℕ))) (faults : L → ℕ) (told : C → Option (List ℕ))
    (links : Option (List L)) (clocks : Option (List C)) (e : Told) : Type 0 where
  pub camera : L
  pub stream : L
  pub control : L
  pub camera_clock : C
  pub host_clock : C
  pub app_clock : C
  pub links_are : links ≡ Some (camera ∷ stream ∷ control ∷ [])
  pub clocks_are : clocks ≡ Some (camera_clock ∷ host_clock ∷ app_clock ∷ [])
  pub are : e ≡ told_by received sent faults told camera stream control camera_clock host_clock app_clock

abbrev pub numbers_of : LiveNumbers → Numbers
numbers_of n = record { seed = n.seed; frames = n.frames; buffers = n.buffers; lanes = n.lanes; turns = n.turns; mode = n.mode }

-- a recorded run has one lane
abbrev pub recorded_of : LiveNumbers → Numbers
recorded_of n = record { seed = n.seed; frames = n.frames; buffers = n.buffers; lanes = 1; turns = n.turns; mode = n.mode }

-- A live run with so many lanes; with one lane the reader is the lane.
abbrev pub RunsSo : LiveNumbers → Address → Address → Status → Told → Told → Option (List ℕ) → Option (List ℕ) → ℕ → ℕ → List Entry → Type 0
RunsSo n camera stream status begins ends written written_after writes writes_after h =
    ((n.lanes ≡ 1) × RunsLive (numbers_of n) camera stream status begins ends written written_after writes writes_after h)
    ⊎ ((2 ≤ n.lanes) × RunsLanes (numbers_of n) n.lanes camera stream status begins ends written written_after writes writes_after h)

-- what each of them promises: the headline first, with the reader or the lanes as acquirers
abbrev pub KeepsSo : {n : LiveNumbers} {camera stream : Address} {status : Status} {begins ends : Told} {written written_after : Option (List ℕ)} {writes writes_after : ℕ} {h : List Entry}
    → RunsSo n camera stream status begins ends written written_after writes writes_after h → Type 0
KeepsSo (inl (one, runs)) = KeepsLivePromises runs
KeepsSo (inr (more, runs)) = KeepsLanesPromises runs

-- Three links were bound: first the camera's, then the stream's, then that of the control channel. Where the ports tell
-- their addresses, these are they. The rest is so of the camera's address and the stream's.
pub record IsBound (bound bound_after : Option (List Address)) (runs : Address → Address → Type 0) : Type 0 where
  pub camera : Address
  pub stream : Address
  pub control : Address
  pub are : AllToldOfThree bound bound_after (camera ∷ stream ∷ control ∷ [])
  pub so : runs camera stream

-- A live run over new links and clocks, whose history is h. The camera's link has the first address, the stream's the
-- second. It keeps the headline, and its reader ended for a cause. Where the ports told what came back, and nothing had,
-- they tell of just the run's links and clocks, as they were at its end: the links in the order in which they were bound.
pub record RunsOver {L C : Type 0} (received : L → Option (List Answer)) (sent : L → Option (List (Address × List ℕ))) (faults : L → ℕ) (told : C → Option (List ℕ))
    (n : LiveNumbers) (camera stream : Address) (status : Status) (links links_after : Option (List L)) (clocks clocks_after : Option (List C))
    (written written_after : Option (List ℕ)) (writes writes_after : ℕ) (h : List Entry) : Type 0 where
  pub begins : Told
  pub untold : IsUntold begins
  pub ends : Told
  pub runs : RunsSo n camera stream status begins ends written written_after writes writes_after h
  pub promises : KeepsSo runs
  pub listed : links ≡ Some [] → clocks ≡ Some [] → AreListed received sent faults told links_after clocks_after ends

-- A recorded live run over new links and clocks, whose history is h. Its stream's link was heard through a tape, and
-- its script was written in place of its lines. The rest is as of a live run.
pub record RecordsOver {L C : Type 0} (received : L → Option (List Answer)) (sent : L → Option (List (Address × List ℕ))) (faults : L → ℕ) (told : C → Option (List ℕ))
    (n : LiveNumbers) (camera stream : Address) (status : Status) (links links_after : Option (List L)) (clocks clocks_after : Option (List C))
    (written written_after : Option (List ℕ)) (writes writes_after : ℕ) (h : List Entry) : Type 0 where
  pub begins : Told
  pub untold : IsUntold begins
  pub ends : Told
  -- what the tape held at the end
  pub taped : List (Option (List ℕ))
  pub runs : RecordsLive (recorded_of n) camera stream status begins ends taped written written_after writes writes_after h
  pub listed : links ≡ Some [] → clocks ≡ Some [] → AreListed received sent faults told links_after clocks_after ends

-- Three new links and three clocks that had told no moment came back, each as it was given.
pub record GivesAllBack {L C : Type 0} (received : L → Option (List Answer)) (sent : L → Option (List (Address × List ℕ))) (faults : L → ℕ) (told : C → Option (List ℕ))
    (links links_after : Option (List L)) (clocks clocks_after : Option (List C)) : Type 0 where
  pub camera : L
  pub stream : L
  pub control : L
  pub camera_clock : C
  pub host_clock : C
  pub app_clock : C
  pub untold : IsUntold (told_by received sent faults told camera stream control camera_clock host_clock app_clock)
  pub links_back : AllToldOfThree links links_after (camera ∷ stream ∷ control ∷ [])
  pub clocks_back : AllToldOfThree clocks clocks_after (camera_clock ∷ host_clock ∷ app_clock ∷ [])

-- No board was made: a bind failed, or memory was wanting, for the tape of a recorded run or for the board. The links
-- that were got came back unused, where memory was wanting with three clocks, and nothing was written.
pub record RunsNothing {L C : Type 0} (received : L → Option (List Answer)) (sent : L → Option (List (Address × List ℕ))) (faults : L → ℕ) (told : C → Option (List ℕ))
    (status : Status) (binds binds_after : ℕ) (links links_after : Option (List L)) (clocks clocks_after : Option (List C))
    (written written_after : Option (List ℕ)) (writes writes_after : ℕ) : Type 0 where
  pub cause : (status ≡ LinkFault) ⊎ (status ≡ NoMemory)
  -- a bind failed: the links that came before it are back, and no clock is
  pub unbound : status ≡ LinkFault → GivesBack received sent faults binds binds_after links links_after × (clocks_after ≡ clocks)
  -- memory was wanting: three calls of bind were made, and three links and three clocks are back
  pub back : status ≡ NoMemory → (binds_after ≡ more_binds 3 binds) × GivesAllBack received sent faults told links links_after clocks clocks_after
  pub unwritten : written_after ≡ written
  pub no_fault : writes_after ≡ writes
