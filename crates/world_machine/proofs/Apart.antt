-- The client and the camera of a schedule by themselves, and what the camera's past says of it.
use Rattle.std.proofs.Common.{◌≡◌, ℕ, List, [], ◌∷◌, Option, Some, None, refl, ap, sym, ◌∙◌}
use Rattle.gev_types.specs.declared.frame.Shape.{Shape}
use Rattle.bootstrap_regs.specs.Changes as changes
use Rattle.client_machine.specs.Machine.{Client}
use Rattle.client_machine.specs.Times.{SEND_LIMIT}
use Rattle.client_machine.specs.Events as clients
use Rattle.camera_machine.specs.Camera.{Camera, new_camera}
use Rattle.camera_machine.specs.Commands.{Execution, commanded}
use Rattle.camera_machine.specs.Events as cameras
use Rattle.camera_machine.specs.Events.{Deed, with_execution, with_changes, with_look, past_with, past}
use Rattle.camera_machine.proofs.Deeds.{on_changes, on_look, on_frame}
use Rattle.world_machine.specs.Schedule.{Act, at_client, at_camera, new_line, execution_of, with_last, after, client_events, camera_events}
use Rattle.world_machine.specs.SessionLaws.{executions_in, AreApart}

-- ---- each by itself

client_apart : (seed : ℕ) (shape : Shape) (room : ℕ) (acts : List Act) → (after (new_line seed shape room) acts).client ≡ clients.after SEND_LIMIT (client_events acts)
client_apart seed shape room [] = refl
client_apart seed shape room (at_client e ∷ rest) = ap (λ (s : Client). clients.step s e) (client_apart seed shape room rest)
client_apart seed shape room (at_camera e ∷ rest) = client_apart seed shape room rest

camera_apart : (seed : ℕ) (shape : Shape) (room : ℕ) (acts : List Act)
    → (after (new_line seed shape room) acts).camera ≡ cameras.after (new_camera seed shape room) (camera_events acts)
camera_apart seed shape room [] = refl
camera_apart seed shape room (at_client e ∷ rest) = camera_apart seed shape room rest
camera_apart seed shape room (at_camera e ∷ rest) = ap (λ (s : Camera). cameras.step s e) (camera_apart seed shape room rest)

-- ---- what was executed

-- what adds no execution
abbrev Executes : List Execution → List Deed → Type 0
Executes xs ds = executions_in ds ≡ xs

in_execution : (o : Option Execution) (ds : List Deed) → executions_in (with_execution o ds) ≡ with_last (executions_in ds) o
in_execution None ds = refl
in_execution (Some x) ds = refl

-- an event adds its execution
in_past : (s : Camera) (e : cameras.Event) (ds : List Deed) → executions_in (past_with s e ds) ≡ with_last (executions_in ds) (execution_of s e)
in_past s (cameras.command peer bytes moment) ds =
    in_execution (commanded s peer bytes moment).execution (with_changes (commanded s peer bytes moment).changes (with_look s moment ds))
    ∙ ap (λ (xs : List Execution). with_last xs (commanded s peer bytes moment).execution)
    (on_changes (Executes (executions_in ds)) (λ c xs h. h) (commanded s peer bytes moment).changes (with_look s moment ds)
    (on_look (Executes (executions_in ds)) (λ xs h. h) s moment ds refl))
in_past s (cameras.tick moment) ds = on_look (Executes (executions_in ds)) (λ xs h. h) s moment ds refl
in_past s cameras.make_frame ds = on_frame (Executes (executions_in ds)) s ds refl refl
in_past s cameras.next_packet ds = refl
in_past s (cameras.set_short short) ds = refl

executions_apart : (seed : ℕ) (shape : Shape) (room : ℕ) (acts : List Act)
    → (after (new_line seed shape room) acts).executed ≡ executions_in (past (new_camera seed shape room) (camera_events acts))
executions_apart seed shape room [] = refl
executions_apart seed shape room (at_client e ∷ rest) = executions_apart seed shape room rest
executions_apart seed shape room (at_camera e ∷ rest) =
    ap (λ (xs : List Execution). with_last xs (execution_of (after (new_line seed shape room) rest).camera e)) (executions_apart seed shape room rest)
    ∙ ap (λ (s : Camera). with_last (executions_in (past (new_camera seed shape room) (camera_events rest))) (execution_of s e)) (camera_apart seed shape room rest)
    ∙ sym (in_past (cameras.after (new_camera seed shape room) (camera_events rest)) e (past (new_camera seed shape room) (camera_events rest)))

pub apart : (seed : ℕ) (shape : Shape) (room : ℕ) (acts : List Act) → AreApart seed shape room acts
apart seed shape room acts = record {
  client = client_apart seed shape room acts;
  camera = camera_apart seed shape room acts;
  executions = executions_apart seed shape room acts;
}
