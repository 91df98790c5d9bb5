use Rattle.std.proofs.Common.{refl, subst}
use Rattle.buffer_words.specs.Passes.{Token, SameHands}
use Rattle.buffer_words.proofs.Carried.{quiet_pass}
use Rattle.buffer_words.proofs.Handling.{token, looks_same}
use Rattle.buffer_words.proofs.words.Board.look_out.Goals as goal

pub invariant_of-pass : goal.invariant_of-pass
invariant_of-pass c = quiet_pass _ _ _ _ c.pass.invariant c.look_at_out.ensures.looks (λ b. refl)

pub returns-clause-hands : goal.returns-clause-hands
returns-clause-hands c =
    subst (λ (s : Token). SameHands s (token c.look_at_out.new.seat.table_id c.look_at_out.new.seat.me)) c.pass.view_is
    (looks_same _ _ _ _ _ c.pass.invariant.carries c.look_at_out.ensures.looks)
