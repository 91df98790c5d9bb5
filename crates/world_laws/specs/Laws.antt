-- The laws of the world, which `src/laws.rt` proves: of every schedule, whatever is lost, repeated or
-- reordered.
use Rattle.std.specs.Prelude.{ℕ, ◌<◌, ◌≤◌, Bool, List, length, Option}
use Rattle.gev_types.specs.declared.frame.Frame.{Frame}
use Rattle.gev_types.specs.declared.frame.Shape.{Shape}
use Rattle.gev_types.specs.declared.peer.Peer.{Peer}
use Rattle.acquisition_machine.specs.declared.config.AcqConfig.{AcqConfig}
use Rattle.script_trace.specs.Trace.{Trace}
use Rattle.script_trace.specs.Adding.{Leads}
use Rattle.script_trace.specs.Opening.{opening}
use Rattle.script_trace.specs.Laws.{KeepsPromises}
use Rattle.world_machine.specs.Schedule.{new_line, after}
use Rattle.world_machine.specs.SessionLaws.{ActOnce}
use Rattle.world_machine.specs.HostActs.{given_in}
use Rattle.world_laws.specs.Schedule.{WorldEvent, session_acts, host_lines, IsWorld}
use Rattle.world_laws.specs.Images.{AreOfFrames, HearsFrames, HasTrueImages, made_in, SendsFrames, AreOfMade, HasGeneratedImages}

-- The commands of each session act once, while the client submitted fewer than 32,767.
abbrev pub CommandsActOnce : ℕ → Shape → ℕ → Peer → List WorldEvent → Type 0
CommandsActOnce seed shape room peer es =
    IsWorld peer (new_line seed shape room) es
    → length (after (new_line seed shape room) (session_acts es)).submitted < 32767
    → ActOnce (after (new_line seed shape room) (session_acts es))

-- The receiver's trace is any that its lines lead to.
pub record IsTraceOf (c : AcqConfig) (es : List WorldEvent) (t : Trace) : Type 0 where
  pub window : 1 ≤ c.window
  pub leads : Leads c opening (host_lines es) t

-- It keeps the promises of the trace of a replay script: it's a run of the board machine, each buffer has one
-- owner at each step, and filled buffers are handed out once, in the order of their fills, none after a close.
abbrev pub TraceKeepsPromises : ℕ → Shape → ℕ → Peer → List WorldEvent → Type 0
TraceKeepsPromises seed shape room peer es =
    (c : AcqConfig) (t : Trace) → IsWorld peer (new_line seed shape room) es → IsTraceOf c es t → KeepsPromises c t

-- There is such a trace, whatever the application asks for and whatever arrives.
abbrev pub ScheduleHasATrace : ℕ → Shape → ℕ → Peer → List WorldEvent → Type 0
ScheduleHasATrace seed shape room peer es =
    (c : AcqConfig) → 1 ≤ c.window → IsWorld peer (new_line seed shape room) es → (t : Trace) × IsTraceOf c es t

-- Where what the receiver hears is of one map of frames, each buffer that was filled holds what came of its
-- block's frame, or has the empty record.
abbrev pub HeardImagesAreTrue : ℕ → Shape → ℕ → Peer → List WorldEvent → Type 0
HeardImagesAreTrue seed shape room peer es =
    (frames : ℕ → Option Frame) (c : AcqConfig) (t : Trace) → IsWorld peer (new_line seed shape room) es
    → HearsFrames frames c.p es → IsTraceOf c es t → HasTrueImages frames c t

-- What the receiver hears is of a map of frames where the packets that the camera gave are.
abbrev pub GivenPacketsAreHeard : ℕ → Shape → ℕ → Peer → List WorldEvent → Type 0
GivenPacketsAreHeard seed shape room peer es =
    (frames : ℕ → Option Frame) (p : ℕ) → IsWorld peer (new_line seed shape room) es
    → AreOfFrames frames p (given_in (new_line seed shape room) (session_acts es)) → HearsFrames frames p es

-- So the buffers hold what came of those.
abbrev pub ImagesAreTrue : ℕ → Shape → ℕ → Peer → List WorldEvent → Type 0
ImagesAreTrue seed shape room peer es =
    (frames : ℕ → Option Frame) (c : AcqConfig) (t : Trace) → IsWorld peer (new_line seed shape room) es
    → AreOfFrames frames c.p (given_in (new_line seed shape room) (session_acts es)) → IsTraceOf c es t → HasTrueImages frames c t

-- The packets that the camera gave are of the frames that it made.
abbrev pub PacketsAreOfMadeFrames : ℕ → Shape → ℕ → List WorldEvent → Type 0
PacketsAreOfMadeFrames seed shape room es =
    (p : ℕ) (short : Bool) → SendsFrames seed shape room p short es
    → AreOfMade seed shape room p short es (given_in (new_line seed shape room) (session_acts es))

-- So the buffers hold what came of the frames that the camera made.
abbrev pub ImagesAreOfMadeFrames : ℕ → Shape → ℕ → Peer → List WorldEvent → Type 0
ImagesAreOfMadeFrames seed shape room peer es =
    (c : AcqConfig) (t : Trace) (short : Bool) → IsWorld peer (new_line seed shape room) es → SendsFrames seed shape room c.p short es
    → IsTraceOf c es t → HasGeneratedImages short seed shape (made_in seed shape room es) c t
