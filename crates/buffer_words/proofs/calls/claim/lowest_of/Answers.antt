use Rattle.buffer_words.proofs.Lowest.{lowest_small}
use Rattle.buffer_words.proofs.calls.claim.lowest_of.Goals as goal

pub returns : goal.returns
returns c = let all = lowest_small c.args.number c.requires.some c.requires.small in
    record { in_range = all.in_range; lowest = all.lowest; none_below = all.none_below }
