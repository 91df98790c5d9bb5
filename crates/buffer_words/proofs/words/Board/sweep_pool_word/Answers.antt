use Rattle.std.proofs.Common.{rules, subst, List, ℕ}
use Rattle.board_machine.specs.declared.events.Event.TheVariants as event
use Rattle.buffer_words.specs.Swept.{TakesAll}
use Rattle.buffer_words.proofs.Bits.{one_pool}
use Rattle.buffer_words.proofs.Sweeps.{sweeps}
use Rattle.buffer_words.proofs.words.Board.sweep_pool_word.Goals as goal

pub swap-requires : goal.swap-requires
swap-requires c = (c.requires.table, search rules, sweeps _ _ _ c.requires.idle)

pub places_of-requires : goal.places_of-requires
places_of-requires c = c.swap.ensures.2.is.0

pub returns-clause-sweeps : goal.returns-clause-sweeps
returns-clause-sweeps c =
    let told = c.swap.ensures.2 in
    subst (λ (is : List ℕ). TakesAll c.args.seat.now.me (event.SweepPool is) is c.swap.new.seat.me)
    (one_pool _ _ _ told.is c.places_of.ensures.pool told.rising c.places_of.ensures.rising) told.takes
