-- The laws of soak runs, which `src/laws.rt` proves.
use Rattle.std.specs.Prelude.{◌≡◌, ℕ, zero, suc, ◌<◌, ◌≤◌, List, [], ◌++◌, length, Some, None}
use Rattle.std.specs.List.{AllByRecursion, Contains}
use Rattle.gvcp_wire.specs.Reading.{command_reading}
use Rattle.camera_machine.specs.Camera.{new_camera}
use Rattle.camera_machine.specs.Events.{past}
use Rattle.camera_machine.specs.Sending.{HaveRows, IsSetFirst}
use Rattle.world_machine.specs.Schedule.{Act, Line, new_line, after, IsNoAccess, IsSchedule, camera_events}
use Rattle.world_machine.specs.SessionLaws.{ActOnce}
use Rattle.world_machine.specs.State.{Host, Run, World, image_shape, STORE_ROOM}
use Rattle.world_machine.specs.ClientTurn.{End, client_peer}
use Rattle.world_machine.specs.Rounds.{round, world_after}
use Rattle.world_machine.specs.Soak.{Soak}
use Rattle.world_machine.specs.Acts.{acts_after}
use Rattle.world_machine.specs.HostActs.{host_hears, host_after, host_acts_after, given_in, IsGiven}

-- ---- one text and one end

pub record AreSame (text other : List ℕ) (e other_end : End) : Type 0 where
  pub text_is : text ≡ other
  pub end_is : e ≡ other_end

-- two runs of the same host under the same numbers write the same text, and end the same
abbrev pub HasOneText : {A : Type 0} → Run → Host A → A → Type 0
HasOneText run host start =
    (text other : List ℕ) (e other_end : End) → Soak run host start text e → Soak run host start other other_end → AreSame text other e other_end

-- ---- rounds

-- what so many rounds write
abbrev pub text_after : {A : Type 0} → Run → Host A → A → ℕ → List ℕ
text_after run host start zero = []
text_after run host start (suc n) = text_after run host start n ++ (round run host (world_after run host start n)).text

-- The round after n others is the one that ends the run, and so the first with an end.
pub record EndsAfter {A : Type 0} (run : Run) (host : Host A) (start : A) (text : List ℕ) (e : End) (n : ℕ) : Type 0 where
  pub goes_on : (m : ℕ) → m < n → (round run host (world_after run host start m)).end ≡ None
  pub ends : (round run host (world_after run host start n)).end ≡ Some e
  pub text_is : text ≡ text_after run host start (suc n)

-- a run writes what its rounds write, up to the first that has an end
abbrev pub EndsInARound : {A : Type 0} → Run → Host A → A → Type 0
EndsInARound run host start = (text : List ℕ) (e : End) → Soak run host start text e → (n : ℕ) × EndsAfter run host start text e n

-- ---- control sessions

-- the client and the camera of a run before its first round
abbrev pub start_line : Run → Line
start_line run = new_line run.seed image_shape STORE_ROOM

-- The host asks the camera for nothing that reads or writes registers or memory.
abbrev pub AsksNoAccess : {A : Type 0} → Host A → Type 0
AsksNoAccess {A} host = (a : A) (moment : ℕ) → AllByRecursion (λ bytes. IsNoAccess (command_reading bytes)) (host.requests a moment)

-- The acts are a schedule of a control session. Client and camera of the world are those after these
-- acts, which submit at most n commands.
pub record IsSession {A : Type 0} (run : Run) (n : ℕ) (acts : List Act) (w : World A) : Type 0 where
  pub schedule : IsSchedule client_peer (start_line run) acts
  pub client : (after (start_line run) acts).client ≡ w.client
  pub camera : (after (start_line run) acts).camera ≡ w.camera
  pub few : length (after (start_line run) acts).submitted ≤ n

-- so each round is a list of acts, which submit at most one command
abbrev pub RoundsAreActs : {A : Type 0} → Run → Host A → A → ℕ → Type 0
RoundsAreActs run host start n = AsksNoAccess host → IsSession run n (acts_after run host start n) (world_after run host start n)

-- a round submits at most one command
abbrev pub RoundSubmitsOne : {A : Type 0} → Run → Host A → A → ℕ → Type 0
RoundSubmitsOne run host start n =
    AsksNoAccess host
    → length (after (start_line run) (acts_after run host start (suc n))).submitted ≤ suc (length (after (start_line run) (acts_after run host start n)).submitted)

-- the commands of each session act once, over fewer than 32,767 rounds
abbrev pub CommandsActOnce : {A : Type 0} → Run → Host A → A → ℕ → Type 0
CommandsActOnce run host start n = AsksNoAccess host → n < 32767 → ActOnce (after (start_line run) (acts_after run host start n))

-- ---- short frames

-- The first act at the camera tells it whether its frames are short, and no other does; so each frame that it made
-- has the lines of that.
pub record ShortnessIsSetFirst {A : Type 0} (run : Run) (host : Host A) (start : A) (n : ℕ) : Type 0 where
  pub first : IsSetFirst run.short (camera_events (acts_after run host start n))
  pub rows : HaveRows run.short image_shape (past (new_camera run.seed image_shape STORE_ROOM) (camera_events (acts_after run host start n)))

-- ---- the host

-- The host is what its own acts made it, and each datagram that it hears is a packet that the camera gave.
pub record IsFed {A : Type 0} (run : Run) (host : Host A) (start : A) (n : ℕ) : Type 0 where
  pub host_is : (world_after run host start n).host ≡ host_after host start (host_acts_after run host start n)
  pub given : (bytes : List ℕ) → Contains (host_acts_after run host start n) (host_hears bytes)
      → IsGiven (given_in (start_line run) (acts_after run host start n)) bytes

abbrev pub HostIsFed : {A : Type 0} → Run → Host A → A → ℕ → Type 0
HostIsFed run host start n = AsksNoAccess host → IsFed run host start n
