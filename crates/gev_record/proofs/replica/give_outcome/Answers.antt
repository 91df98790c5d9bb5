use Rattle.gev_record.proofs.Steps.{given_none, given_one}
use Rattle.gev_record.proofs.replica.give_outcome.Goals as goal

pub returns-then-claimed : goal.returns-then-claimed
returns-then-claimed c =
    λ q s free. rw c.if-claimed.true
    (given_one c.args.player.now c.give.new.self c.args.used.now c.occupy.result c.args.place q s free c.requires.asked c.give.ensures.plays c.occupy.ensures)

pub returns-else-claimed : goal.returns-else-claimed
returns-else-claimed c =
    λ q s free. rw c.if-claimed.false (given_none c.args.player.now c.give-else-claimed.new.self c.args.used.now c.args.place q s c.give-else-claimed.ensures.plays)
