use Rattle.std.proofs.Common.{subst}
use Rattle.buffer_words.specs.Passes.{Token, SameHands}
use Rattle.buffer_words.proofs.Marking.{started_pass}
use Rattle.buffer_words.proofs.Handling.{token, looks_same}
use Rattle.buffer_words.proofs.words.Board.start.Goals as goal

pub invariant_of-pass : goal.invariant_of-pass
invariant_of-pass c = started_pass _ _ _ _ c.pass.invariant c.set_running.ensures.starts

pub returns-clause-hands : goal.returns-clause-hands
returns-clause-hands c =
    subst (λ (s : Token). SameHands s (token c.set_running.new.seat.table_id c.set_running.new.seat.me)) c.pass.view_is
    (looks_same _ _ _ _ _ c.pass.invariant.carries c.set_running.ensures.starts)
