use Rattle.std.proofs.Common.{refl, subst, sym, List, ℕ}
use Rattle.buffer_words.specs.Passes.{Token, IsPass}
use Rattle.buffer_words.specs.Swept.{GetsAll}
use Rattle.buffer_words.proofs.Handling.{token}
use Rattle.buffer_words.proofs.SweptOn.{sweep_pass, sweep_gets, sweep_room}
use Rattle.buffer_words.proofs.words.Board.sweep_pool.Goals as goal

pub prepend-requires : goal.prepend-requires
prepend-requires c = record { room = sweep_room _ _ _ _ _ c.pass.invariant c.sweep_pool_word-places.ensures.sweeps (λ b. refl) }

pub invariant_of-pass : goal.invariant_of-pass
invariant_of-pass c =
    subst (λ (l : List ℕ). IsPass l c.sweep_pool_word-places.new.seat.me.0 c.sweep_pool_word-places.new.seat.me.1) (sym c.prepend.ensures)
    (sweep_pass _ _ _ _ _ c.pass.invariant c.sweep_pool_word-places.ensures.sweeps (λ b. refl))

pub returns-clause-hands : goal.returns-clause-hands
returns-clause-hands c =
    subst (λ (s : Token). GetsAll c.sweep_pool_word-places.result.items s (token c.sweep_pool_word-places.new.seat.table_id c.sweep_pool_word-places.new.seat.me)) c.pass.view_is
    (sweep_gets _ _ _ _ _ _ _ c.pass.invariant c.sweep_pool_word-places.ensures.sweeps (λ b. refl))
