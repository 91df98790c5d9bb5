use Rattle.std.proofs.Common.{Some, Ok}
use Rattle.gev_links.specs.Links.{answer_of, failed}
use Rattle.gev_links.proofs.Growing.{tells_first}
use Rattle.first_leader.proofs.looking.drop_one.Goals as goal

pub returns-in-Ok-clause-drops : goal.returns-in-Ok-clause-drops
returns-in-Ok-clause-drops g c =
    (Some (answer_of (Ok c.in-Ok.field-0) c.recv.new.out), tells_first _ _ _ c.in-Ok.ensures.received)

pub returns-in-Err-clause-drops : goal.returns-in-Err-clause-drops
returns-in-Err-clause-drops g c =
    (Some failed, tells_first _ _ failed c.in-Err.ensures.received)
