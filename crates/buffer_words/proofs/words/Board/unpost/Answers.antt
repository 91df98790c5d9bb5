use Rattle.std.proofs.Common.{subst, refl}
use Rattle.buffer_words.specs.Passes.{Token, SameHands}
use Rattle.buffer_words.proofs.Carried.{same_pass}
use Rattle.buffer_words.proofs.Handling.{token, looks_same}
use Rattle.buffer_words.proofs.words.Board.unpost.Goals as goal

pub invariant_of-pass : goal.invariant_of-pass
invariant_of-pass c = same_pass _ _ _ _ c.pass.invariant c.clear_kill.ensures.clears (λ b may. refl)

pub returns-clause-hands : goal.returns-clause-hands
returns-clause-hands c =
    subst (λ (s : Token). SameHands s (token c.clear_kill.new.seat.table_id c.clear_kill.new.seat.me)) c.pass.view_is
    (looks_same _ _ _ _ _ c.pass.invariant.carries c.clear_kill.ensures.clears)
