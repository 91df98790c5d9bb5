-- A soak run ends: how many rounds it has left at most, and what follows for its text and its commands.
use Rattle.std.specs.Prelude.{◌≡◌, ℕ, ◌+◌, ◌-◌, ◌<◌, ◌≤◌, ◌==◌, ◌&&◌, ◌||◌, Bool, not, nat_lt, if◌then◌else◌, List, None}
use Rattle.world_machine.specs.Schedule.{after}
use Rattle.world_machine.specs.SessionLaws.{ActOnce}
use Rattle.world_laws.specs.Receiver.{Receiver, soak_host, start}
use Rattle.world_machine.specs.State.{Run, World, new_world}
use Rattle.world_machine.specs.ClientTurn.{End, SETUP_SIZE}
use Rattle.world_machine.specs.Rounds.{round}
use Rattle.world_machine.specs.Soak.{Soak}
use Rattle.world_machine.specs.Acts.{acts_after}
use Rattle.world_machine.specs.Laws.{start_line, AsksNoAccess}
use Rattle.world_laws.specs.Setup.{MOST_SETUP, setup_left, SetupGoes, GoesOn}
use Rattle.world_laws.specs.Tail.{tail_left, MOST_TAIL, HostGoes}

-- ---- how many rounds are left

-- the frames that are still to be made
abbrev pub frames_left : Run → World Receiver → ℕ
frames_left run w = if w.is_over then 0 else run.frames - w.made

-- whether the setup is done and no frame is left: the last phase
abbrev pub is_sent_out : Run → World Receiver → Bool
is_sent_out run w = (w.done == SETUP_SIZE) && (not (nat_lt w.made run.frames) || w.is_over)

-- Those of the setup, one for each frame, and those of the last phase.
abbrev pub run_left : Run → World Receiver → ℕ
run_left run w = setup_left w + frames_left run w + (if is_sent_out run w then tail_left w else MOST_TAIL)

-- so many rounds go on at most, before the one that ends the run
abbrev pub most_rounds : Run → ℕ
most_rounds run = MOST_SETUP + run.frames + MOST_TAIL

-- ---- it ends

-- What holds between the rounds of a run.
pub record RunGoes (w : World Receiver) : Type 0 where
  pub setup : SetupGoes w
  pub host : HostGoes w

-- A round that doesn't end the run keeps that, and fewer are left after it.
pub record RunStep (run : Run) (w : World Receiver) : Type 0 where
  pub goes : RunGoes (round run soak_host w).world
  pub falls : run_left run (round run soak_host w).world < run_left run w

-- A run from the start: what its loop stands on, and how many rounds can go on.
pub record RunEnds (run : Run) : Type 0 where
  pub begins : RunGoes (new_world run start)
  pub few : run_left run (new_world run start) ≤ most_rounds run
  pub steps : (w : World Receiver) → RunGoes w → (round run soak_host w).end ≡ None → RunStep run w
  pub rounds : (n : ℕ) → GoesOn run soak_host start n → n ≤ most_rounds run

-- so it has a text and an end
abbrev pub HasText : Run → Type 0
HasText run = (text : List ℕ) × (e : End) × Soak run soak_host start text e

-- ---- its commands

-- as many frames as a run may have
abbrev pub MOST_FRAMES : ℕ
MOST_FRAMES = 100000

-- The host asks the camera for packets alone, and so the commands of each session of a run act once, up to
-- the round that ends the run and with it.
pub record SoakActsOnce (run : Run) : Type 0 where
  pub packets : AsksNoAccess soak_host
  pub once : run.frames ≤ MOST_FRAMES → (n : ℕ) → GoesOn run soak_host start (n - 1) → ActOnce (after (start_line run) (acts_after run soak_host start n))
