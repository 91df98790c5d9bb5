use Rattle.std.proofs.Common.{ap, ◌∙◌}
use Rattle.board_model.specs.Holdings.{with_empty_records}
use Rattle.board_model.proofs.CallsFill.{flushes_as_lying, flushes_to_output}
use Rattle.board_model.proofs.board.PlainBoard.flush_to_output.Goals as goal

pub returns-clause-entries : goal.returns-clause-entries
returns-clause-entries c =
    flushes_to_output _ _ _ _
    (flushes_as_lying _ _ _ _ _ _ _ _ c.as_slice.ensures.value c.sweep_pool-pooled.ensures.contents c.sweep_pool-pooled.ensures.step c.fill_each.ensures.entries)

pub returns-clause-fills : goal.returns-clause-fills
returns-clause-fills c = flushes_as_lying _ _ _ _ _ _ _ _ c.as_slice.ensures.value c.sweep_pool-pooled.ensures.contents c.sweep_pool-pooled.ensures.step c.fill_each.ensures.entries

pub returns-clause-contents : goal.returns-clause-contents
returns-clause-contents c =
    c.fill_each.ensures.contents ∙ ap (λ js. with_empty_records js c.sweep_pool-pooled.new.self.contents) (c.as_slice.ensures.value ∙ c.sweep_pool-pooled.ensures.step.may.meets)
    ∙ ap (λ d. with_empty_records c.args.self.now.board.pool d) c.sweep_pool-pooled.ensures.contents
