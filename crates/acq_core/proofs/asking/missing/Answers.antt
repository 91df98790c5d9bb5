use Rattle.std.proofs.Common.{◌∙◌}
use Rattle.acq_core.proofs.Ranges.{missing_is}
use Rattle.acq_core.proofs.asking.missing.Goals as goal

pub returns-in-Some : goal.returns-in-Some
returns-in-Some c p b size heard s =
    c.requests.ensures
    ∙ missing_is p b c.in-Some.top heard c.kept.result.now c.refused.result.now (c.in-Some.ensures.top p b size heard s)
    (c.kept.ensures.ids p b size heard s) (c.refused.ensures.ids p b size heard s) c.in-Some.ensures.in_range
