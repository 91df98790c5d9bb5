use Rattle.std.proofs.Common.{◌∙◌}
use Rattle.buffer_words.proofs.Working.{works_then}
use Rattle.gentl_events.specs.Kinds.{is_takers}
use Rattle.gentl_events.proofs.Acting.{works_same}
use Rattle.gentl_events.proofs.work.take_all.Goals as goal

pub takes-init : goal.takes-init
takes-init g c = record { works = works_same is_takers _; empty = c.requires.empty }

pub take_one-requires-clause-table : goal.take_one-requires-clause-table
take_one-requires-clause-table g c = c.takes.invariant.works.table ∙ c.requires.table

pub take_one-requires-clause-empty : goal.take_one-requires-clause-empty
take_one-requires-clause-empty g c = c.takes.invariant.empty

pub takes-preserved : goal.takes-preserved
takes-preserved g c = record { works = works_then is_takers _ _ _ c.takes.invariant.works c.take_one.ensures.works; empty = c.take_one.ensures.empty }

pub returns-then-not-take_one-clause-works : goal.returns-then-not-take_one-clause-works
returns-then-not-take_one-clause-works g c = works_then is_takers _ _ _ c.takes.invariant.works c.take_one.ensures.works
