use Rattle.std.proofs.Common.{ℕ, List, refl}
use Rattle.std.specs.Prelude.{codes}
use Rattle.std.specs.Fmt.{digits}
use Rattle.wire_fields.specs.Fields.{number_at}
use Rattle.bootstrap_regs.specs.Registers.{register_at}
use Rattle.camera_machine.specs.Words.{words_from, initial_words}
use Rattle.lossy_queue.specs.Lossy.{after_put, put_lossy}
use Rattle.world_machine.specs.State.{World}
use Rattle.world_machine.specs.ClientTurn.{done}
use Rattle.world_machine.specs.Rounds.{world_after}
use Rattle.world_machine.specs.Soak.{last_round, round_more}
use Rattle.world_machine.specs.Rows.{idle_host, run_of}
use Rattle.world_machine.proofs.rows.setup_alone_is_a_run.Goals as goal

abbrev w : ℕ → World (Unit {0})
w n = world_after (run_of 0 0) idle_host tt n

abbrev line : List ℕ
line = codes "soak frames=0 taken=0 complete=0 incomplete=0 underrun=0 requests=0 commands=4\n"

pub returns : goal.returns
unfolding digits number_at register_at words_from initial_words after_put put_lossy
returns c = record {
  run = round_more (w 0) line line done refl (round_more (w 1) line line done refl (round_more (w 2) line line done refl (last_round (w 3) line done refl refl) refl) refl) refl;
  moment = refl;
  executed = refl;
}
