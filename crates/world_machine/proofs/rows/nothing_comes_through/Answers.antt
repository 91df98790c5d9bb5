use Rattle.std.proofs.Common.{ℕ, [], refl}
use Rattle.lossy_queue.specs.Lossy.{after_put, put_lossy}
use Rattle.world_machine.specs.State.{World}
use Rattle.world_machine.specs.ClientTurn.{no_answer}
use Rattle.world_machine.specs.Rounds.{world_after}
use Rattle.world_machine.specs.Soak.{last_round, round_more}
use Rattle.world_machine.specs.Rows.{idle_host, run_of}
use Rattle.world_machine.proofs.rows.nothing_comes_through.Goals as goal

abbrev w : ℕ → World (Unit {0})
w n = world_after (run_of 1 1000) idle_host tt n

pub returns : goal.returns
unfolding after_put put_lossy
returns c =
    round_more (w 0) [] [] (no_answer 1) refl (round_more (w 1) [] [] (no_answer 1) refl (round_more (w 2) [] [] (no_answer 1) refl (round_more (w 3) [] [] (no_answer 1) refl (round_more (w 4) [] [] (no_answer 1) refl (round_more (w 5) [] [] (no_answer 1) refl (round_more (w 6) [] [] (no_answer 1) refl (round_more (w 7) [] [] (no_answer 1) refl (round_more (w 8) [] [] (no_answer 1) refl (round_more (w 9) [] [] (no_answer 1) refl (round_more (w 10) [] [] (no_answer 1) refl (round_more (w 11) [] [] (no_answer 1) refl (last_round (w 12) [] (no_answer 1) refl refl) refl) refl) refl) refl) refl) refl) refl) refl) refl) refl) refl) refl
