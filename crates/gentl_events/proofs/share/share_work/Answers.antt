use Rattle.gentl_events.proofs.Sharing.{alone_again, divides}
use Rattle.gentl_events.proofs.share.share_work.Goals as goal

pub returns-clause-alone : goal.returns-clause-alone
returns-clause-alone g c = alone_again _ _ _ _ _ _ _ _ _ (record {
  number = c.requires.first;
  run = c.witness.ensures.run;
  childless = c.requires.childless;
  splits_a = c.split-filler.ensures.entry;
  new_a = c.split-filler.ensures.unborn;
  splits_b = c.split-taker.ensures.entry;
  new_b = c.split-taker.ensures.unborn;
  works_a = c.work_both-worked.ensures.filled.0;
  works_b = c.work_both-worked.ensures.taken.0;
  joins_a = c.join.ensures.entry;
  did_a = c.join.ensures.own;
  ended_a = c.join.ensures.ended;
  joins_b = c.join-2.ensures.entry;
  did_b = c.join-2.ensures.own;
  ended_b = c.join-2.ensures.ended;
  actor = c.witness-2.ensures.actor;
})

pub returns-clause-divides : goal.returns-clause-divides
returns-clause-divides g c = divides _ _ _ _ _ _ _ _ _ (record {
  number = c.requires.first;
  run = c.witness.ensures.run;
  childless = c.requires.childless;
  splits_a = c.split-filler.ensures.entry;
  new_a = c.split-filler.ensures.unborn;
  splits_b = c.split-taker.ensures.entry;
  new_b = c.split-taker.ensures.unborn;
  works_a = c.work_both-worked.ensures.filled.0;
  works_b = c.work_both-worked.ensures.taken.0;
  joins_a = c.join.ensures.entry;
  did_a = c.join.ensures.own;
  ended_a = c.join.ensures.ended;
  joins_b = c.join-2.ensures.entry;
  did_b = c.join-2.ensures.own;
  ended_b = c.join-2.ensures.ended;
  actor = c.witness-2.ensures.actor;
})
