use Rattle.std.proofs.Common.{◌∙◌}
use Rattle.buffer_words.proofs.Working.{works_then}
use Rattle.gentl_events.specs.Kinds.{is_fillers}
use Rattle.gentl_events.proofs.Acting.{works_same}
use Rattle.gentl_events.proofs.work.fill_all.Goals as goal

pub fills-init : goal.fills-init
fills-init g c = record { works = works_same is_fillers _; empty = c.requires.empty }

pub fill_one-requires-clause-table : goal.fill_one-requires-clause-table
fill_one-requires-clause-table g c = c.fills.invariant.works.table ∙ c.requires.table

pub fill_one-requires-clause-empty : goal.fill_one-requires-clause-empty
fill_one-requires-clause-empty g c = c.fills.invariant.empty

pub fills-preserved : goal.fills-preserved
fills-preserved g c = record { works = works_then is_fillers _ _ _ c.fills.invariant.works c.fill_one.ensures.works; empty = c.fill_one.ensures.empty }

pub returns-then-not-fill_one-clause-works : goal.returns-then-not-fill_one-clause-works
returns-then-not-fill_one-clause-works g c = works_then is_fillers _ _ _ c.fills.invariant.works c.fill_one.ensures.works
