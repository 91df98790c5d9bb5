-- What the code of a world with its host stands for, and what the parts of a round do to it.
use Rattle.std.specs.Prelude.{◌≡◌, List, [], ◌∷◌, ◌++◌, Option}
use Rattle.gev_script.specs.Lines.{ScriptLine}
use Rattle.lossy_queue.specs.declared.datagram.Datagram.{Datagram}
use Rattle.world_laws.specs.Receiver.{Receiver, soak_host, start}
use Rattle.soak_receiver.specs.Standing.{Hosting, HostStands}
use Rattle.world_machine.specs.State.{World}
use Rattle.world_machine.specs.ClientTurn.{Passed}
use Rattle.world_machine.specs.HostTurn.{arrives, arrive_all, host_turn, asks}
use Rattle.world_machine.specs.HostActs.{HostAct, host_ticks, host_after, with_hearing, with_hearings}
use Rattle.world_laws.specs.RunEvents.{lines_of_acts}
use Rattle.world_laws.specs.SoakApplication.{soak_opens, soak_application}
use Rattle.gev_world.specs.declared.stage.Stage.{Stage}
use Rattle.gev_world.specs.declared.run_end.RunEnd.{RunEnd}
use Rattle.gev_world.specs.Seen.{run_of, world_of, IsBetween}
use Rattle.gev_world.specs.Ends.{meant_if}

-- the lines of a replay script that a host ran by these acts, the latest of which comes first
abbrev pub lines_by : List HostAct → List ScriptLine
lines_by acts = soak_opens ++ lines_of_acts soak_host soak_application start acts

-- The code of the host stands for the receiver that these acts left, behind their lines.
pub record Hosts (h : Hosting) (acts : List HostAct) (r : Receiver) : Type 0 where
  pub is : r ≡ host_after soak_host start acts
  pub stands : HostStands h (lines_by acts) r

-- The stage and the host stand for a world whose host was left by these acts.
pub record Stands (s : Stage) (h : Hosting) (acts : List HostAct) (w : World Receiver) : Type 0 where
  pub hosts : Hosts h acts w.host
  pub is : w ≡ world_of s w.host

-- the code stands for some world
pub record HasWorld (s : Stage) (h : Hosting) : Type 0 where
  pub acts : List HostAct
  pub world : World Receiver
  pub stands : Stands s h acts world

-- The end and the world are these, behind these acts of the host.
pub record PassedTo (end : Option RunEnd) (x : Passed Receiver) (acts : List HostAct) (s : Stage) (h : Hosting) : Type 0 where
  pub stands : Stands s h acts x.world
  pub ends : meant_if end ≡ x.end

-- a datagram arrives
pub record Arrives (s : Stage) (h : Hosting) (d : Datagram) (end : Option RunEnd) (t : Stage) (i : Hosting) : Type 0 where
  pub run : run_of t ≡ run_of s
  pub between : IsBetween s → IsBetween t
  pub passed : (acts : List HostAct) (w : World Receiver) → Stands s h acts w
      → PassedTo end (arrives soak_host w d.channel d.bytes) (with_hearing d.channel d.bytes acts) t i

-- these arrive, in order, up to the end of the run
pub record ArriveAll (s : Stage) (h : Hosting) (ds : List Datagram) (end : Option RunEnd) (t : Stage) (i : Hosting) : Type 0 where
  pub run : run_of t ≡ run_of s
  pub between : IsBetween s → IsBetween t
  pub passed : (acts : List HostAct) (w : World Receiver) → Stands s h acts w
      → PassedTo end (arrive_all soak_host w ds) (with_hearings soak_host w ds acts) t i

-- The rest of what arrives leads to the same end, world and acts as all of it did at first.
pub record LeadsOn (all rest : List Datagram) (w v : World Receiver) (acts more : List HostAct) : Type 0 where
  pub passes : arrive_all soak_host v rest ≡ arrive_all soak_host w all
  pub acts_are : with_hearings soak_host v rest more ≡ with_hearings soak_host w all acts

pub record StandsOn (s : Stage) (h : Hosting) (all rest : List Datagram) (w : World Receiver) (acts : List HostAct) : Type 0 where
  pub more : List HostAct
  pub world : World Receiver
  pub stands : Stands s h more world
  pub leads : LeadsOn all rest w world acts more

pub record Arriving (s t : Stage) (h i : Hosting) (all rest : List Datagram) : Type 0 where
  pub run : run_of t ≡ run_of s
  pub between : IsBetween s → IsBetween t
  pub on : (acts : List HostAct) (w : World Receiver) → Stands s h acts w → StandsOn t i all rest w acts

-- what is on its way to the host arrives
pub record HostTurns (s : Stage) (h : Hosting) (end : Option RunEnd) (t : Stage) (i : Hosting) : Type 0 where
  pub run : run_of t ≡ run_of s
  pub between : IsBetween s → IsBetween t
  pub passed : (acts : List HostAct) (w : World Receiver) → Stands s h acts w
      → PassedTo end (host_turn soak_host w) (with_hearings soak_host (record w { to_host = [] }) w.to_host acts) t i

-- the receiver ticks, and what it asks for is on its way
pub record Asks (s : Stage) (h : Hosting) (t : Stage) (i : Hosting) : Type 0 where
  pub run : run_of t ≡ run_of s
  pub between : IsBetween s → IsBetween t
  pub stands : (acts : List HostAct) (w : World Receiver) → Stands s h acts w → Stands t i (host_ticks w.moment ∷ acts) (asks (run_of s) soak_host w)
