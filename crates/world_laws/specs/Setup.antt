-- The setup of a soak run: how many rounds it takes at most from a world on, and what holds until it's done.
use Rattle.std.specs.Prelude.{◌≡◌, ◌≢◌, ◌⊎◌, ℕ, suc, ◌+◌, ◌-◌, ◌*◌, ◌/◌, ◌<◌, ◌≤◌, ◌==◌, if◌then◌else◌, List, Option, Some, None, Ok}
use Rattle.std.specs.List.{Contains}
use Rattle.gvcp_wire.specs.Messages.{PlainAck}
use Rattle.gvcp_wire.specs.Reading.{ack_reading}
use Rattle.gvcp_wire.specs.BodyReading.{pending_reading}
use Rattle.lossy_queue.specs.declared.datagram.Channel.{Channel}
use Rattle.lossy_queue.specs.declared.datagram.Channel.TheVariants.{Control, Stream}
use Rattle.lossy_queue.specs.declared.datagram.Datagram.{Datagram}
use Rattle.client_machine.specs.Times.{SENDS, SEND_LIMIT}
use Rattle.client_machine.specs.Machine.{Asked}
use Rattle.camera_machine.specs.Camera.{Kept}
use Rattle.world_machine.specs.State.{Host, Run, World, new_world}
use Rattle.world_machine.specs.ClientTurn.{SETUP_SIZE}
use Rattle.world_machine.specs.Rounds.{ROUND_TIME, round, world_after}

-- ---- how many rounds it takes

-- A command is given up in the twelfth round after that of its submission: three sends of 40 ms.
abbrev pub COMMAND_ROUNDS : ℕ
COMMAND_ROUNDS = 13

-- how many rounds the four commands take at most
abbrev pub MOST_SETUP : ℕ
MOST_SETUP = 52

-- How many rounds the outstanding command takes at most from a moment on: four for each send that isn't
-- due yet, and what is left of the limit of the last one, rounded up.
abbrev pub rounds_left : Option Asked → ℕ → ℕ
rounds_left None moment = 0
rounds_left (Some asked) moment = 4 * (SENDS - asked.sends) + (asked.sent + SEND_LIMIT + 9 - moment) / ROUND_TIME

-- the same for the setup, of which so many commands were begun and so many are done
abbrev pub left_at : Option Asked → ℕ → ℕ → ℕ → ℕ
left_at asked begun done moment =
    if done == SETUP_SIZE then 0 else COMMAND_ROUNDS * (SETUP_SIZE - begun) + rounds_left asked moment

-- how many rounds the setup takes at most from a world on
abbrev pub setup_left : {A : Type 0} → World A → ℕ
setup_left w = left_at w.client.asked w.begun w.done w.moment

-- ---- what holds until then

-- The bytes are no acknowledge that says that a command takes longer.
abbrev pub IsPrompt : List ℕ → Type 0
IsPrompt bytes = (ack : PlainAck) → ack_reading bytes ≡ Ok ack → pending_reading ack ≡ None

-- what is on its way to the client is no such acknowledge; the stream has none
abbrev pub IsPromptOn : Channel → List ℕ → Type 0
IsPromptOn Control bytes = IsPrompt bytes
IsPromptOn Stream bytes = Unit {0}

-- nor is what the camera answers, if it does
abbrev pub IsPromptAck : Option (List ℕ) → Type 0
IsPromptAck None = Unit {0}
IsPromptAck (Some bytes) = IsPrompt bytes

-- nor what it answers to a repeat of the command that it keeps
abbrev pub IsPromptKept : Option Kept → Type 0
IsPromptKept None = Unit {0}
IsPromptKept (Some kept) = IsPromptAck kept.ack

-- No acknowledge that the camera keeps, or that is on its way, says that a command takes longer.
pub record IsPromptWorld {A : Type 0} (w : World A) : Type 0 where
  pub kept : IsPromptKept w.camera.kept
  pub arriving : (d : Datagram) → Contains w.to_host d → IsPromptOn d.channel d.bytes

-- The limit of the command's last send is 40 ms, and hasn't passed at this moment.
pub record IsWithinLimit (asked : Asked) (moment : ℕ) : Type 0 where
  pub limit : asked.limit ≡ SEND_LIMIT
  pub recent : moment < asked.sent + SEND_LIMIT

-- the client is idle, or the last command that was begun is outstanding
abbrev pub IsUnderWay : Option Asked → ℕ → ℕ → ℕ → Type 0
IsUnderWay None begun done moment = begun ≡ done
IsUnderWay (Some asked) begun done moment = (begun ≡ suc done) × IsWithinLimit asked moment

-- all commands are acknowledged, or the setup is under way
abbrev pub SetupAt : Option Asked → ℕ → ℕ → ℕ → Type 0
SetupAt asked begun done moment =
    ((begun ≡ SETUP_SIZE) × (done ≡ SETUP_SIZE)) ⊎ ((done < SETUP_SIZE) × IsUnderWay asked begun done moment)

-- What holds between the rounds of a run.
pub record SetupGoes {A : Type 0} (w : World A) : Type 0 where
  pub stands : SetupAt w.client.asked w.begun w.done w.moment
  pub prompt : IsPromptWorld w
  -- each send has this limit
  pub limit : w.client.limit ≡ SEND_LIMIT

-- ---- it ends

-- A round that doesn't end the run brings the setup on.
pub record SetupStep {A : Type 0} (run : Run) (host : Host A) (w : World A) : Type 0 where
  pub goes : SetupGoes (round run host w).world
  -- while it isn't done, fewer rounds are left after each
  pub falls : w.done ≢ SETUP_SIZE → setup_left (round run host w).world < setup_left w
  -- once it's done it stays so
  pub stays : w.done ≡ SETUP_SIZE → (round run host w).world.done ≡ SETUP_SIZE
  pub none_left : w.done ≡ SETUP_SIZE → setup_left (round run host w).world ≡ 0

-- none of the first n rounds ends the run
abbrev pub GoesOn : {A : Type 0} → Run → Host A → A → ℕ → Type 0
GoesOn run host start n = (m : ℕ) → m < n → (round run host (world_after run host start m)).end ≡ None

-- The setup takes at most 52 rounds, unless the run ends before.
pub record SetupEnds {A : Type 0} (run : Run) (host : Host A) (start : A) : Type 0 where
  pub begins : SetupGoes (new_world run start)
  pub few : setup_left (new_world run start) ≤ MOST_SETUP
  pub steps : (w : World A) → SetupGoes w → (round run host w).end ≡ None → SetupStep run host w
  pub is_done : (n : ℕ) → MOST_SETUP ≤ n → GoesOn run host start n → (world_after run host start n).done ≡ SETUP_SIZE
