use Rattle.std.proofs.Common.{◌≡◌, ℕ, ◌*◌, ◌<◌, length, get_or}
use Rattle.bootstrap_regs.specs.Registers.{initial_at}
use Rattle.bootstrap_regs.proofs.regs.first_words.Given as goal

abbrev pub invariant-loop-i : goal.invariant-loop-i
invariant-loop-i l = record {
  size : length l.words ≡ 848;
  first : (k : ℕ) → k < l.i → get_or l.words k 0 ≡ initial_at (4 * k);
}
