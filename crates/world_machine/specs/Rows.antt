-- Worked runs over a host that does nothing.
use Rattle.std.specs.Prelude.{◌≡◌, ℕ, true, false, [], codes}
use Rattle.world_machine.specs.State.{Host, Run}
use Rattle.world_machine.specs.ClientTurn.{done, no_answer}
use Rattle.world_machine.specs.Rounds.{world_after}
use Rattle.world_machine.specs.Soak.{Soak}

abbrev pub idle_host : Host (Unit {0})
idle_host = record {
  hears = λ a bytes. a;
  ticks = λ a moment. a;
  requests = λ a moment. [];
  takes = λ a. a;
  lines = λ a. [];
  is_idle = λ a. true;
  numbers = λ a. record { taken = 0; complete = 0; incomplete = 0; underrun = 0; requests = 0 };
}

-- a run over a network that changes nothing, and one over a network that lets nothing through
abbrev pub run_of : ℕ → ℕ → Run
run_of frames loss = record { seed = 1; frames = frames; rates = record { loss = loss; repeat = 0; swap = 0 }; short = false }

-- Without frames a run ends when the setup is done: at the fourth round, after four commands.
pub record SetupAlone : Type 0 where
  pub run : Soak (run_of 0 0) idle_host tt (codes "soak frames=0 taken=0 complete=0 incomplete=0 underrun=0 requests=0 commands=4\n") done
  pub moment : (world_after (run_of 0 0) idle_host tt 4).moment ≡ 40
  pub executed : (world_after (run_of 0 0) idle_host tt 4).camera.executed ≡ 4

-- Where nothing comes through, the first command has no answer, and nothing is written.
abbrev pub NothingComesThrough : Type 0
NothingComesThrough = Soak (run_of 1 1000) idle_host tt [] (no_answer 1)
