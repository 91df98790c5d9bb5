use Rattle.gentl_events.proofs.Preparing.{alone_after, none_born, shared}
use Rattle.gentl_events.proofs.share.share_board.Goals as goal

pub share_work-requires-clause-childless : goal.share_work-requires-clause-childless
share_work-requires-clause-childless g c = λ κs lives. none_born _ _ c.args.size c.in-Ok.id c.requires.first c.requires.unseen c.in-Ok.ensures.entries

pub returns-in-Ok-clause-shares : goal.returns-in-Ok-clause-shares
returns-in-Ok-clause-shares g c = shared _ _ _ c.args.size c.in-Ok.id c.requires.first c.requires.unseen c.in-Ok.ensures.entries c.share_work.ensures.divides

pub returns-in-Err-clause-alone : goal.returns-in-Err-clause-alone
returns-in-Err-clause-alone g c = alone_after _ _ _ c.requires.first c.requires.unseen c.in-Err.ensures.entries
