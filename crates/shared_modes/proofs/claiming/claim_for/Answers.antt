use Rattle.shared_modes.proofs.Parts.{claim_got, claim_alone, claim_overwrites, claim_newest}
use Rattle.shared_modes.proofs.claiming.claim_for.Goals as goal

pub returns-in-Some-clause-enters : goal.returns-in-Some-clause-enters
returns-in-Some-clause-enters g c = claim_got c.args.mode _ _ c.in-Some.place c.in-Some.ensures.entry

pub returns-in-OldestFirst-clause-enters : goal.returns-in-OldestFirst-clause-enters
returns-in-OldestFirst-clause-enters g c = claim_alone c.args.mode _ _ c.in-OldestFirst.is c.in-None.ensures.entry

pub returns-in-OldestFirstOverwrite-clause-enters : goal.returns-in-OldestFirstOverwrite-clause-enters
returns-in-OldestFirstOverwrite-clause-enters g c =
    claim_overwrites c.args.mode _ _ _ c.take_waiting.result c.in-OldestFirstOverwrite.is c.in-None.ensures.entry c.take_waiting.ensures.enters

pub returns-in-NewestOnly-clause-enters : goal.returns-in-NewestOnly-clause-enters
returns-in-NewestOnly-clause-enters g c =
    claim_newest c.args.mode _ _ _ c.take_waiting-in-NewestOnly.result c.in-NewestOnly.is c.in-None.ensures.entry c.take_waiting-in-NewestOnly.ensures.enters
