-- How often the client of a soak run submits: the four commands of the setup, and at most one heartbeat a second.
use Rattle.std.specs.Prelude.{ℕ, ◌-◌, ◌*◌, ◌<◌, ◌≤◌, length}
use Rattle.world_machine.specs.Schedule.{after}
use Rattle.world_machine.specs.SessionLaws.{ActOnce}
use Rattle.world_machine.specs.State.{Host, Run}
use Rattle.world_machine.specs.ClientTurn.{SETUP_SIZE}
use Rattle.world_machine.specs.Acts.{acts_after}
use Rattle.world_machine.specs.Laws.{start_line, AsksNoAccess}
use Rattle.world_laws.specs.Setup.{GoesOn}

-- how many commands so many rounds submitted, heartbeats included
abbrev pub submitted_after : {A : Type 0} → Run → Host A → A → ℕ → ℕ
submitted_after run host start n = length (after (start_line run) (acts_after run host start n)).submitted

-- so many rounds are nearly nine hours
abbrev pub MOST_ROUNDS : ℕ
MOST_ROUNDS = 3200000

-- A second has 100 rounds, and beside the setup's four commands at most one is submitted a second. So in
-- nearly nine hours fewer than 32,767 are, and those of each session act once.
pub record HasFewCommands {A : Type 0} (run : Run) (host : Host A) (start : A) (n : ℕ) : Type 0 where
  pub one_a_second : 100 * (submitted_after run host start n - SETUP_SIZE) ≤ n
  pub few : n ≤ MOST_ROUNDS → submitted_after run host start n < 32767
  pub once : n ≤ MOST_ROUNDS → ActOnce (after (start_line run) (acts_after run host start n))

-- so it is after so many rounds, of which none before the last ends the run
abbrev pub CommandsAreFew : {A : Type 0} → Run → Host A → A → ℕ → Type 0
CommandsAreFew run host start n = AsksNoAccess host → GoesOn run host start (n - 1) → HasFewCommands run host start n
