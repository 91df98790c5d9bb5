use Rattle.std.proofs.Common.{◌≡◌, length}
use Rattle.camera_words.specs.Choices.{found, AllFit}
use Rattle.camera_words.proofs.choices.found.Given as goal

abbrev pub invariant-loop-rest : goal.invariant-loop-rest
invariant-loop-rest l = (found l.setting l.rest ≡ found l.fn.setting l.fn.choices) × AllFit l.rest

abbrev pub decreases-loop-rest : goal.decreases-loop-rest
decreases-loop-rest l = length l.rest
