use Rattle.std.proofs.Common.{◌∙◌}
use Rattle.buffer_words.proofs.Retries.{hands_then}
use Rattle.live_crew.proofs.Coming.{came_back}
use Rattle.live_crew.proofs.running.run_three.Goals as goal

pub returns-clause-ran : goal.returns-clause-ran
returns-clause-ran g c = record {
  one = c.split-one.new.pass;
  two = c.split-two.new.pass;
  three = c.split-three.new.pass;
  home = c.take_back.new.pass;
  back = c.take_back-2.new.pass;
  a = c.split-one.result;
  worked_a = c.work_three-first_worked.result.0.pass;
  b = c.split-two.result;
  worked_b = c.work_three-first_worked.result.1.1.pass;
  d = c.split-three.result;
  worked_d = c.work_three-first_worked.result.1.0.pass;
  run = c.witness.ensures.run;
  first = came_back _ _ c.split-one.result c.work_three-first_worked.result.0.pass _ _ c.split-one.ensures.entry c.split-one.ensures.unborn
      (c.requires.first_back _ _ (record { table = c.split-one.ensures.table; unborn = c.split-one.ensures.unborn; empty = c.split-one.ensures.empty }) c.work_three-first_worked.ensures.first)
      c.take_back.ensures.joins;
  second = came_back _ _ c.split-two.result c.work_three-first_worked.result.1.1.pass _ _ c.split-two.ensures.entry c.split-two.ensures.unborn
      (c.requires.second_back _ _ (record { table = c.split-two.ensures.table; unborn = c.split-two.ensures.unborn; empty = c.split-two.ensures.empty }) c.work_three-first_worked.ensures.second)
      c.take_back-2.ensures.joins;
  third = came_back _ _ c.split-three.result c.work_three-first_worked.result.1.0.pass _ _ c.split-three.ensures.entry c.split-three.ensures.unborn
      (c.requires.third_back _ _ (record { table = c.split-three.ensures.table; unborn = c.split-three.ensures.unborn; empty = c.split-three.ensures.empty }) c.work_three-first_worked.ensures.third)
      c.take_back-3.ensures.joins;
  did_first = c.work_three-first_worked.ensures.first;
  did_second = c.work_three-first_worked.ensures.second;
  did_third = c.work_three-first_worked.ensures.third;
  ended_run = c.witness-2.ensures.run;
  actor = c.witness-2.ensures.actor;
  owned = c.witness-2.ensures.owned;
  legal = c.witness-2.ensures.legal;
}

pub work_three-first_worked-requires-clause-first : goal.work_three-first_worked-requires-clause-first
work_three-first_worked-requires-clause-first g c = λ _ _. c.requires.first c.split-one.result (record { table = c.split-one.ensures.table; unborn = c.split-one.ensures.unborn; empty = c.split-one.ensures.empty })

pub work_three-first_worked-requires-clause-second : goal.work_three-first_worked-requires-clause-second
work_three-first_worked-requires-clause-second g c = λ _ _. c.requires.second c.split-two.result (record { table = c.split-two.ensures.table; unborn = c.split-two.ensures.unborn; empty = c.split-two.ensures.empty })

pub work_three-first_worked-requires-clause-third : goal.work_three-first_worked-requires-clause-third
work_three-first_worked-requires-clause-third g c = λ _ _. c.requires.third c.split-three.result (record { table = c.split-three.ensures.table; unborn = c.split-three.ensures.unborn; empty = c.split-three.ensures.empty })

pub take_back-requires-clause-table : goal.take_back-requires-clause-table
take_back-requires-clause-table g c = c.split-three.ensures.entry.table ∙ c.split-two.ensures.entry.table ∙ c.split-one.ensures.entry.table ∙ c.requires.table

pub take_back-requires-clause-same : goal.take_back-requires-clause-same
take_back-requires-clause-same g c = (c.requires.first_back _ _ (record { table = c.split-one.ensures.table; unborn = c.split-one.ensures.unborn; empty = c.split-one.ensures.empty }) c.work_three-first_worked.ensures.first).table ∙ c.split-one.ensures.table

pub take_back-requires-clause-empty : goal.take_back-requires-clause-empty
take_back-requires-clause-empty g c = (c.requires.first_back _ _ (record { table = c.split-one.ensures.table; unborn = c.split-one.ensures.unborn; empty = c.split-one.ensures.empty }) c.work_three-first_worked.ensures.first).empty

pub take_back-requires-2-clause-table : goal.take_back-requires-2-clause-table
take_back-requires-2-clause-table g c = c.take_back.ensures.table ∙ c.split-three.ensures.entry.table ∙ c.split-two.ensures.entry.table ∙ c.split-one.ensures.entry.table ∙ c.requires.table

pub take_back-requires-2-clause-same : goal.take_back-requires-2-clause-same
take_back-requires-2-clause-same g c = (c.requires.second_back _ _ (record { table = c.split-two.ensures.table; unborn = c.split-two.ensures.unborn; empty = c.split-two.ensures.empty }) c.work_three-first_worked.ensures.second).table ∙ c.split-two.ensures.table

pub take_back-requires-2-clause-empty : goal.take_back-requires-2-clause-empty
take_back-requires-2-clause-empty g c = (c.requires.second_back _ _ (record { table = c.split-two.ensures.table; unborn = c.split-two.ensures.unborn; empty = c.split-two.ensures.empty }) c.work_three-first_worked.ensures.second).empty

pub take_back-requires-3-clause-table : goal.take_back-requires-3-clause-table
take_back-requires-3-clause-table g c = c.take_back-2.ensures.table ∙ c.take_back.ensures.table ∙ c.split-three.ensures.entry.table ∙ c.split-two.ensures.entry.table ∙ c.split-one.ensures.entry.table ∙ c.requires.table

pub take_back-requires-3-clause-same : goal.take_back-requires-3-clause-same
take_back-requires-3-clause-same g c = (c.requires.third_back _ _ (record { table = c.split-three.ensures.table; unborn = c.split-three.ensures.unborn; empty = c.split-three.ensures.empty }) c.work_three-first_worked.ensures.third).table ∙ c.split-three.ensures.table

pub take_back-requires-3-clause-empty : goal.take_back-requires-3-clause-empty
take_back-requires-3-clause-empty g c = (c.requires.third_back _ _ (record { table = c.split-three.ensures.table; unborn = c.split-three.ensures.unborn; empty = c.split-three.ensures.empty }) c.work_three-first_worked.ensures.third).empty

pub returns-clause-table : goal.returns-clause-table
returns-clause-table g c = c.take_back-3.ensures.table ∙ c.take_back-2.ensures.table ∙ c.take_back.ensures.table ∙ c.split-three.ensures.entry.table ∙ c.split-two.ensures.entry.table ∙ c.split-one.ensures.entry.table

pub returns-clause-hands : goal.returns-clause-hands
returns-clause-hands g c = hands_then _ _ _ c.split-one.ensures.hands (hands_then _ _ _ c.split-two.ensures.hands (hands_then _ _ _ c.split-three.ensures.hands (hands_then _ _ _ c.take_back.ensures.hands (hands_then _ _ _ c.take_back-2.ensures.hands c.take_back-3.ensures.hands))))
