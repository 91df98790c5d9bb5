-- The laws of the events of soak runs, which `src/laws.rt` proves.
use Rattle.std.specs.Prelude.{◌≡◌, ℕ, List, ◌++◌, Option}
use Rattle.std.specs.List.{AllByRecursion, Contains}
use Rattle.gev_types.specs.declared.frame.Frame.{Frame}
use Rattle.block_image.specs.Sizes.{IsPayloadSize}
use Rattle.acquisition_machine.specs.declared.config.AcqConfig.{AcqConfig}
use Rattle.script_trace.specs.Trace.{Trace}
use Rattle.camera_machine.specs.Sending.{AreGenerated}
use Rattle.world_machine.specs.State.{Host, Run, image_shape}
use Rattle.world_machine.specs.ClientTurn.{client_peer}
use Rattle.world_machine.specs.Acts.{acts_after}
use Rattle.world_machine.specs.HostActs.{host_hears, host_acts_after}
use Rattle.world_machine.specs.Laws.{start_line, AsksNoAccess}
use Rattle.world_laws.specs.Schedule.{WorldEvent, session_acts, host_lines, IsApplied, IsWorld}
use Rattle.world_laws.specs.Images.{IsReadAsSent, HasGeneratedImages}
use Rattle.world_laws.specs.Laws.{IsTraceOf}
use Rattle.world_laws.specs.RunEvents.{Application, lines_of_acts, events_after}
use Rattle.world_laws.specs.SoakApplication.{soak_application}

-- the lines are an application's
pub record IsApplication {A : Type 0} (app : Application A) : Type 0 where
  pub opens : AllByRecursion IsApplied app.opens
  pub takes : (a : A) → AllByRecursion IsApplied (app.takes a)

-- The events do to the client and the camera what the run's rounds did, and to the host what its acts did,
-- behind the application's first lines. They are a schedule of a world, where all that the host asks the
-- camera for are packets.
pub record AreOfRun {A : Type 0} (run : Run) (host : Host A) (app : Application A) (start : A) (n : ℕ) (es : List WorldEvent) : Type 0 where
  pub acts : session_acts es ≡ acts_after run host start n
  pub lines : host_lines es ≡ app.opens ++ lines_of_acts host app start (host_acts_after run host start n)
  pub world : AsksNoAccess host → IsWorld client_peer (start_line run) es

-- so a run is a schedule of a world
abbrev pub RunIsAWorld : {A : Type 0} → Run → Host A → Application A → A → ℕ → Type 0
RunIsAWorld run host app start n = IsApplication app → AreOfRun run host app start n (events_after run host app start n)

-- what the application of a soak run does are such lines
abbrev pub SoakIsAnApplication : Type 0
SoakIsAnApplication = IsApplication soak_application

-- ---- images

-- In so many rounds of the run each datagram that its host heard is read, if as a packet, as a sent one of
-- frames of the run's seed.
pub record RunHears {A : Type 0} (run : Run) (host : Host A) (start : A) (n : ℕ) (frames : ℕ → Option Frame) (p : ℕ) : Type 0 where
  pub generated : AreGenerated run.short run.seed image_shape frames
  pub payload_size : IsPayloadSize p
  pub heard : (bytes : List ℕ) → Contains (host_acts_after run host start n) (host_hears bytes) → IsReadAsSent frames p bytes

-- Then the buffers of the run hold what came of those frames.
abbrev pub RunImagesAreTrue : {A : Type 0} → Run → Host A → Application A → A → ℕ → Type 0
RunImagesAreTrue run host app start n =
    (frames : ℕ → Option Frame) (c : AcqConfig) (t : Trace) → IsApplication app → AsksNoAccess host
    → RunHears run host start n frames c.p → IsTraceOf c (events_after run host app start n) t
    → HasGeneratedImages run.short run.seed image_shape frames c t
