use Rattle.board_model.proofs.Parts.{claim_got, claim_alone, claim_overwrites, claim_newest}
use Rattle.board_model.proofs.plain.plain_claim_for.Goals as goal

pub returns-in-Some-clause-entries : goal.returns-in-Some-clause-entries
returns-in-Some-clause-entries c = claim_got c.args.mode _ _ _ c.in-Some.place c.in-Some.ensures.step

pub returns-in-OldestFirst-clause-entries : goal.returns-in-OldestFirst-clause-entries
returns-in-OldestFirst-clause-entries c = claim_alone c.args.mode _ _ _ c.in-OldestFirst.is c.in-None.ensures.step

pub returns-in-OldestFirstOverwrite-clause-entries : goal.returns-in-OldestFirstOverwrite-clause-entries
returns-in-OldestFirstOverwrite-clause-entries c =
    claim_overwrites c.args.mode _ _ _ _ c.take_waiting.result c.in-OldestFirstOverwrite.is c.in-None.ensures.step c.take_waiting.ensures.entries

pub returns-in-NewestOnly-clause-entries : goal.returns-in-NewestOnly-clause-entries
returns-in-NewestOnly-clause-entries c =
    claim_newest c.args.mode _ _ _ _ c.take_waiting-in-NewestOnly.result c.in-NewestOnly.is c.in-None.ensures.step c.take_waiting-in-NewestOnly.ensures.entries
