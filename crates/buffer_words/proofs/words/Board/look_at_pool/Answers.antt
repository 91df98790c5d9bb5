use Rattle.std.proofs.Common.{rules, subst, List, ℕ}
use Rattle.board_machine.specs.declared.events.Event.TheVariants as event
use Rattle.buffer_words.specs.Plays.{LooksAt}
use Rattle.buffer_words.proofs.Bits.{one_pool}
use Rattle.buffer_words.proofs.Pools.{looks_pool}
use Rattle.buffer_words.proofs.words.Board.look_at_pool.Goals as goal

pub load-requires : goal.load-requires
load-requires c = (c.requires.table, search rules, looks_pool _ _ _ c.requires.idle)

pub places_of-requires : goal.places_of-requires
places_of-requires c = c.load.ensures.2.is.0

pub returns-clause-looks : goal.returns-clause-looks
returns-clause-looks c =
    let told = c.load.ensures.2 in
    subst (λ (is : List ℕ). LooksAt c.args.seat.now.me (event.LookPool is) c.load.new.seat.me)
    (one_pool _ _ _ told.is c.places_of.ensures.pool told.rising c.places_of.ensures.rising) told.looks
