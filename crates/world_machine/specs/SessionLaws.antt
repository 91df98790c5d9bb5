-- The laws of control sessions, which `src/session_laws.rt` proves: the commands of a session act once, and an acknowledged command was executed.
use Rattle.std.specs.Prelude.{◌≡◌, ◌≢◌, ℕ, ◌<◌, List, [], ◌∷◌, ◌++◌, length, All, Some}
use Rattle.std.specs.List.{Contains, AllPairs}
use Rattle.gev_types.specs.declared.frame.Shape.{Shape}
use Rattle.gev_types.specs.declared.peer.Peer.{Peer}
use Rattle.gvcp_wire.specs.declared.status.Status.TheVariants.{Success}
use Rattle.client_machine.specs.declared.outcome.Outcome.TheVariants.{Acked}
use Rattle.client_machine.specs.Machine.{Asked, received}
use Rattle.client_machine.specs.Times.{SEND_LIMIT}
use Rattle.client_machine.specs.Events as clients
use Rattle.camera_machine.specs.Camera.{new_camera}
use Rattle.camera_machine.specs.Commands.{Execution}
use Rattle.camera_machine.specs.Events as cameras
use Rattle.camera_machine.specs.Events.{Deed, changed, executed, made, past}
use Rattle.world_machine.specs.Schedule.{Act, Line, new_line, after, IsSchedule, client_events, camera_events}

-- the first list has members of the second in their order
pub data IsSublist : List (List ℕ) → List (List ℕ) → Type 0 where
  is_empty : IsSublist [] []
  with_head : (x : List ℕ) (xs ys : List (List ℕ)) → IsSublist xs ys → IsSublist (x ∷ xs) (x ∷ ys)
  without_head : (y : List ℕ) (xs ys : List (List ℕ)) → IsSublist xs ys → IsSublist xs (y ∷ ys)

-- The commands of a session are a list without repeats, and in the order of submission a sublist of
-- those that the client submitted.
pub record Once (submitted session : List (List ℕ)) : Type 0 where
  pub no_repeats : AllPairs (λ x y. x ≢ y) session
  pub in_order : IsSublist session submitted

pub record ActOnce (l : Line) : Type 0 where
  pub ended : All (Once l.submitted) l.sessions.ended
  pub running : Once l.submitted l.sessions.running

-- A schedule in which fewer than 32,767 commands were submitted, the heartbeats and those that were never
-- taken to be sent included: each takes a request number. A camera drops a late copy of a command only
-- while it's at most 32,767 numbers behind the last one that was executed.
pub record IsShort (peer : Peer) (start : Line) (acts : List Act) : Type 0 where
  pub schedule : IsSchedule peer start acts
  pub few : length (after start acts).submitted < 32767

-- so each session's commands act once, those of the ended sessions and of the one that lasts
abbrev pub CommandsActOnce : ℕ → Shape → ℕ → Peer → List Act → Type 0
CommandsActOnce seed shape room peer acts =
    IsShort peer (new_line seed shape room) acts → ActOnce (after (new_line seed shape room) acts)

-- The outstanding command was executed and answered with these bytes and the status SUCCESS.
pub record WasExecuted (l : Line) (answer : List ℕ) : Type 0 where
  pub asked : Asked
  pub outstanding : l.client.asked ≡ Some asked
  pub execution : Execution
  pub among : Contains l.executed execution
  pub same : execution.kept.bytes ≡ asked.bytes
  pub answered : execution.kept.ack ≡ Some answer
  pub succeeded : execution.status ≡ Success

-- Where bytes that the camera answered end the client's command with Acked, it was executed.
abbrev pub AckedMeansExecuted : ℕ → Shape → ℕ → Peer → List Act → Type 0
AckedMeansExecuted seed shape room peer acts =
    IsShort peer (new_line seed shape room) acts → (bytes : List ℕ) (moment : ℕ)
    → Contains (after (new_line seed shape room) acts).acks bytes
    → (received (after (new_line seed shape room) acts).client bytes moment).outcome ≡ Acked
    → WasExecuted (after (new_line seed shape room) acts) bytes

-- the register and memory commands that were executed, in order
abbrev pub executions_in : List Deed → List Execution
executions_in [] = []
executions_in (changed c ∷ ds) = executions_in ds
executions_in (executed x ∷ ds) = executions_in ds ++ x ∷ []
executions_in (made sent ∷ ds) = executions_in ds

-- The client and the camera of a schedule are what their own events made them, and what was executed is
-- what the camera's past says.
pub record AreApart (seed : ℕ) (shape : Shape) (room : ℕ) (acts : List Act) : Type 0 where
  pub client : (after (new_line seed shape room) acts).client ≡ clients.after SEND_LIMIT (client_events acts)
  pub camera : (after (new_line seed shape room) acts).camera ≡ cameras.after (new_camera seed shape room) (camera_events acts)
  pub executions : (after (new_line seed shape room) acts).executed ≡ executions_in (past (new_camera seed shape room) (camera_events acts))
