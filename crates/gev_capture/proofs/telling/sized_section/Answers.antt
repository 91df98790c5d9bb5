use Rattle.std.proofs.Common.{sym, ◌∙◌}
use Rattle.gev_capture.specs.Files.{versioned}
use Rattle.gev_capture.proofs.telling.sized_section.Goals as goal

pub returns-in-None-clause-told : goal.returns-in-None-clause-told
returns-in-None-clause-told c interfaces =
    c.versioned.ensures.told interfaces ∙ sym (c.in-None.ensures.told interfaces (versioned c.args.order c.args.total c.args.time c.args.bytes.now))
