-- What a round of the code does, writes, and how it ends.
use Rattle.std.specs.Prelude.{◌≡◌, ◌==◌, ◌&&◌, ◌||◌, not, nat_lt, Bool, ℕ, List, [], Option, Some, None, Result, Ok, Err, IfOk}
use Rattle.gev_make.specs.declared.stop.Stop.{Stop}
use Rattle.gev_make.specs.Writing.{Writes}
use Rattle.world_laws.specs.Receiver.{Receiver, soak_host}
use Rattle.soak_receiver.specs.Standing.{Hosting}
use Rattle.world_machine.specs.State.{Run, World}
use Rattle.world_machine.specs.ClientTurn.{SETUP_SIZE, client_turn}
use Rattle.world_machine.specs.CameraTurn.{camera_turn, makes}
use Rattle.world_machine.specs.HostTurn.{host_turn}
use Rattle.world_machine.specs.HostActs.{HostAct, with_hearings, with_host_turn}
use Rattle.world_machine.specs.Rounds.{Round, rises, from_host}
use Rattle.gev_world.specs.declared.stage.Stage.{Stage}
use Rattle.gev_world.specs.declared.run_end.RunEnd.{RunEnd}
use Rattle.gev_world.specs.Seen.{run_of, world_of, IsBetween}
use Rattle.gev_world.specs.Ends.{meant_if}
use Rattle.gev_world.specs.Hosts.{Stands}

-- the result without its answer
abbrev pub outcome_of : {T : Type 0} → Result T Stop → Result (Unit {0}) Stop
outcome_of (Ok answer) = Ok tt
outcome_of (Err stop) = Err stop

-- the text of what was done was written whole, or a front of it
abbrev pub Wrote : {T : Type 0} → Result T Stop → Option (List ℕ) → Option (List ℕ) → ℕ → ℕ → List ℕ → Type 0
Wrote result written written_after faults faults_after text = Writes (outcome_of result) written written_after faults faults_after text

-- the setup is done, and all frames were sent or their sending ended
abbrev pub is_sent_out : Stage → Bool
is_sent_out s = (s.done == SETUP_SIZE) && (not (nat_lt s.made s.frames) || s.is_over)

-- ---- before the host's turn

-- after the client's turn, and where the run goes on, the camera's
abbrev pub before_host : Option RunEnd → Run → World Receiver → World Receiver
before_host (Some e) run w = (client_turn run (rises w)).world
before_host None run w = makes run (camera_turn run (client_turn run (rises w)).world)

-- The turns before the host's were made.
pub record ComesToHost (old : Stage) (end : Option RunEnd) (new : Stage) : Type 0 where
  pub run : run_of new ≡ run_of old
  pub world : (host : Receiver) → world_of new host ≡ before_host end (run_of old) (world_of old host)
  pub ends : (host : Receiver) → meant_if end ≡ (client_turn (run_of old) (rises (world_of old host))).end
  pub between : end ≡ None → IsBetween new

-- ---- a round

-- the rest of a round behind the camera's turn
abbrev pub hosted_round : Run → World Receiver → Round Receiver
hosted_round run w = from_host run soak_host (host_turn soak_host w).end (host_turn soak_host w).world

abbrev pub hosted_acts : World Receiver → List HostAct → List HostAct
hosted_acts w acts =
    with_host_turn (host_turn soak_host w).end (host_turn soak_host w).world (with_hearings soak_host (record w { to_host = [] }) w.to_host acts)

-- The code stands for the world that a round leaves, behind these acts of the host, and ends as it.
pub record RoundPassed (end : Option RunEnd) (x : Round Receiver) (acts : List HostAct) (s : Stage) (h : Hosting) : Type 0 where
  pub stands : Stands s h acts x.world
  pub ends : meant_if end ≡ x.end

-- A round, or the rest of one, was made, and its text written.
pub record EndsRound (result : Result (Option RunEnd) Stop) (x : Round Receiver) (acts : List HostAct) (s : Stage) (h : Hosting) (written written_after : Option (List ℕ)) (faults faults_after : ℕ) : Type 0 where
  pub passed : IfOk result (λ end. RoundPassed end x acts s h)
  pub wrote : Wrote result written written_after faults faults_after x.text
