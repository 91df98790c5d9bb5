-- What each command does, by what is asked for.
use Rattle.std.specs.Prelude.{◌≡◌, ◌≢◌, ℕ, List, Option, None, IfSome, option_map}
use Rattle.board_machine.specs.declared.events.Entry.{Entry}
use Rattle.camera_words.specs.declared.settings.Settings.{Settings}
use Rattle.camera_words.specs.declared.simulate_words.SimulateWords.{SimulateWords}
use Rattle.gev_links.specs.Links.{Address, Answer}
use Rattle.gev_status.specs.declared.status.Status.{Status}
use Rattle.gev_status.specs.declared.status.Status.TheVariants.{WriteFault, LinkFault}
use Rattle.script_runs.specs.Verdicts.{IfTold}
use Rattle.gev_top.specs.declared.command.Command.{Command}
use Rattle.gev_top.specs.declared.errand.Errand.{Errand}
use Rattle.gev_top.specs.declared.errand.Errand.TheVariants.{Plain, Live, Record, Discover, Description, Simulate, Receive, Register}
use Rattle.gev_top.specs.Answers.{Answers, IsDecided, ReadsSteady}
use Rattle.gev_top.specs.Completeness.{NoneRose, EndsLive, EndsSearch, EndsDescription, EndsSimulation, EndsReception, EndsRegisters}
use Rattle.live_promises.specs.Over.{ReceivesSo}
use Rattle.gev_program.specs.Runs.{IsBound, RunsOver, RecordsOver, RunsNothing}
use Rattle.gev_program.specs.Cameras.{DiscoversOver, DescribesOver, RegistersOver}
use Rattle.gev_program.specs.Simulation.{SimulatesSo}

-- what links and clocks tell
pub record Tales (L C : Type 0) : Type 0 where
  pub heard : L → Option (List Answer)
  pub sent : L → Option (List (Address × List ℕ))
  pub faults : L → ℕ
  pub told : C → Option (List ℕ)

-- what a source has left, what stands in a sink, and what ports gave and took back, with all their counts of faults
pub record Outside (L C : Type 0) : Type 0 where
  pub left : Option (List ℕ)
  pub reads : ℕ
  pub written : Option (List ℕ)
  pub writes : ℕ
  pub binds : ℕ
  pub bound : Option (List Address)
  pub links : Option (List L)
  pub clocks : Option (List C)
  pub failed : ℕ

-- nothing was read
pub record ReadsNothing {L C : Type 0} (o e : Outside L C) : Type 0 where
  pub left : e.left ≡ o.left
  pub reads : e.reads ≡ o.reads

-- A command over source and sink alone: it's answered as `plain_top` answers it, and makes no use of the ports.
pub record DoesPlain {L C K : Type 0} (o e : Outside L C) (kept : Option K) (status : Status) (command : Command) : Type 0 where
  pub cause : Answers command status o.left e.left o.reads e.reads o.written e.written o.writes e.writes
  pub exact : IfTold o.left (λ content. IsDecided command status content)
  pub ports : (e.binds ≡ o.binds) × (e.bound ≡ o.bound) × (e.links ≡ o.links) × (e.clocks ≡ o.clocks) × (e.failed ≡ o.failed) × (kept ≡ None)
  pub reads_steady : ReadsSteady command status o.reads e.reads
  pub writes_steady : status ≢ WriteFault → e.writes ≡ o.writes

-- A live run that reads nothing, and where a board was made does this of its history: else nothing was run.
pub record DoesRun {L C K : Type 0} (by : Tales L C) (o e : Outside L C) (seen : K → List Entry) (kept : Option K) (status : Status)
    (Does : Address → Address → List Entry → Type 0) : Type 0 where
  pub unread : ReadsNothing o e
  pub runs : IfSome kept (λ k. IsBound o.bound e.bound (λ camera stream. Does camera stream (seen k)))
  pub none : kept ≡ None → RunsNothing by.heard by.sent by.faults by.told status o.binds e.binds o.links e.links o.clocks e.clocks o.written e.written o.writes e.writes
  pub writes_steady : status ≢ WriteFault → e.writes ≡ o.writes
  pub complete : NoneRose o.writes e.writes → status ≢ LinkFault → EndsLive status

-- A camera on the network is asked for what it tells of itself: nothing is read, and nothing kept.
pub record DoesAsk {L C K : Type 0} (o e : Outside L C) (kept : Option K) (status : Status) (Does : Type 0) (Ends : Status → Type 0) : Type 0 where
  pub asks : Does
  pub unread : ReadsNothing o e
  pub unkept : kept ≡ None
  pub writes_steady : status ≢ WriteFault → e.writes ≡ o.writes
  pub complete : NoneRose o.writes e.writes → NoneRose o.failed e.failed → Ends status

-- A simulated camera: nothing is kept.
pub record DoesSimulate {L C K : Type 0} (by : Tales L C) (stands_at : Address → Address → Type 0) (o e : Outside L C) (kept : Option K) (status : Status) (asked : SimulateWords) : Type 0 where
  pub simulates : SimulatesSo by.heard by.sent by.faults by.told stands_at asked status o.bound e.bound o.links e.links o.clocks e.clocks o.left e.left o.reads e.reads o.written e.written
  pub unkept : kept ≡ None
  pub writes_steady : status ≢ WriteFault → e.writes ≡ o.writes
  pub complete : NoneRose o.writes e.writes → NoneRose o.failed e.failed → EndsSimulation status

-- Registers of a camera are read and written: nothing is read of the source, and nothing kept.
pub record DoesRegister {L C K : Type 0} (o e : Outside L C) (kept : Option K) (status : Status) (Does : Type 0) : Type 0 where
  pub registers : Does
  pub unread : ReadsNothing o e
  pub unkept : kept ≡ None
  pub writes_steady : status ≢ WriteFault → status ≢ LinkFault → e.writes ≡ o.writes
  pub complete : NoneRose o.writes e.writes → NoneRose o.failed e.failed → EndsRegisters status

-- The frames of a camera.
pub record DoesReceive {L C K : Type 0} (by : Tales L C) (o e : Outside L C) (seen : K → List Entry) (kept : Option K) (status : Status) (asked : Settings) : Type 0 where
  pub receives : ReceivesSo by.heard by.sent by.faults by.told asked status o.bound e.bound o.links e.links o.clocks e.clocks e.left o.written e.written o.writes e.writes (option_map seen kept)
  pub writes_steady : status ≢ WriteFault → status ≢ LinkFault → e.writes ≡ o.writes
  pub complete : NoneRose o.writes e.writes → NoneRose o.failed e.failed → EndsReception status

-- what was done, by what was asked for
abbrev pub Does : {L C K : Type 0} → Tales L C → (Address → Address → Type 0) → Outside L C → Outside L C → (K → List Entry) → Option K → Status → Errand → Type 0
Does by stands_at o e seen kept status (Plain command) = DoesPlain o e kept status command
Does by stands_at o e seen kept status (Live n) =
    DoesRun by o e seen kept status (λ camera stream h. RunsOver by.heard by.sent by.faults by.told n camera stream status o.links e.links o.clocks e.clocks o.written e.written o.writes e.writes h)
Does by stands_at o e seen kept status (Record n) =
    DoesRun by o e seen kept status (λ camera stream h. RecordsOver by.heard by.sent by.faults by.told n camera stream status o.links e.links o.clocks e.clocks o.written e.written o.writes e.writes h)
Does by stands_at o e seen kept status (Discover address) =
    DoesAsk o e kept status (DiscoversOver by.heard by.sent by.told address status o.links e.links o.clocks e.clocks o.written e.written) EndsSearch
Does by stands_at o e seen kept status (Description camera) =
    DoesAsk o e kept status (DescribesOver by.heard by.sent by.told camera status o.links e.links o.clocks e.clocks o.written e.written) EndsDescription
Does by stands_at o e seen kept status (Simulate asked) = DoesSimulate by stands_at o e kept status asked
Does by stands_at o e seen kept status (Receive asked) = DoesReceive by o e seen kept status asked
Does by stands_at o e seen kept status (Register asked) =
    DoesRegister o e kept status (RegistersOver by.heard by.sent by.told asked status o.links e.links o.clocks e.clocks o.written e.written)
