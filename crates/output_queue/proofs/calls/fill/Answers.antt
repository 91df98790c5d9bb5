use Rattle.std.proofs.Common.{◌≡◌, ℕ, Bool, true, Option, subst}
use Rattle.buffer_words.specs.Rule.{Slot}
use Rattle.buffer_words.specs.Passes.{Token, Has, gone}
use Rattle.buffer_words.specs.Handing.{AfterFill}
use Rattle.buffer_words.proofs.Partings.{has_then}
use Rattle.output_queue.proofs.calls.fill.Goals as goal

-- a buffer that was set down and then filled is gone
filled_is_gone : (filled : Bool) (i : ℕ) (x : Option Slot) (s t u : Token) → Has i x s t → filled ≡ true → AfterFill filled i t u → Has i gone s u
filled_is_gone filled i x s t u down is after = has_then i x gone s t u down (subst (λ r. AfterFill r i t u) is after)

pub returns-then-fill_whole-clause-hands : goal.returns-then-fill_whole-clause-hands
returns-then-fill_whole-clause-hands g c =
    filled_is_gone _ _ _ _ _ _ c.set_down.ensures.hands c.if-fill_whole.true c.fill_whole.ensures.did.hands
