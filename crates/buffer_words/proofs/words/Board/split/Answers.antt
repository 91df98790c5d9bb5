use Rattle.std.proofs.Common.{subst, sym, List, ℕ, []}
use Rattle.buffer_words.specs.Plays.{Seated}
use Rattle.buffer_words.specs.Passes.{Token, SameHands, IsPass}
use Rattle.buffer_words.proofs.Handling.{token, looks_same}
use Rattle.buffer_words.proofs.Partings.{split_pass, newborn_pass}
use Rattle.buffer_words.proofs.words.Board.split.Goals as goal

pub invariant_of-pass : goal.invariant_of-pass
invariant_of-pass c = split_pass _ _ _ _ c.pass.invariant c.part-seat.ensures.parts.splits

pub returns-clause-hands : goal.returns-clause-hands
returns-clause-hands c =
    subst (λ (s : Token). SameHands s (token c.part-seat.new.seat.table_id c.part-seat.new.seat.me)) c.pass.view_is
    (looks_same _ _ _ _ _ c.pass.invariant.carries c.part-seat.ensures.parts.splits)

pub invariant_of-result : goal.invariant_of-result
invariant_of-result c =
    subst (λ (l : List ℕ). IsPass l c.part-seat.result.me.0 c.part-seat.result.me.1) (sym c.new-held.ensures)
    (subst (λ (m : Seated). IsPass [] m.0 m.1) (sym c.part-seat.ensures.parts.new) (newborn_pass _ _ _ c.part-seat.ensures.parts.splits))
