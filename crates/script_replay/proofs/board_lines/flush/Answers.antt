use Rattle.std.proofs.Common.{refl, lit≤, inl, inr}
use Rattle.std.proofs.lemmas.Bool.{cases_eq}
use Rattle.board_calls.specs.Calls.{Flushes}
use Rattle.board_model.specs.Holdings.{FlushesAsLying}
use Rattle.script_trace.specs.BoardLines.{FlushLine}
use Rattle.script_replay.proofs.Quiet.{flush_quiet}
use Rattle.script_replay.proofs.Calling.{quiet_calls, calls_by}
use Rattle.script_replay.proofs.Flushed.{flushes_lying, flush_fills, flush_hands, flush_leaves}
use Rattle.script_replay.proofs.Resting.{lifted_emptied}
use Rattle.script_replay.proofs.board_lines.flush.Goals as goal

pub ds_flush-answer-requires : goal.ds_flush-answer-requires
ds_flush-answer-requires c = record { actor = c.requires.ready.actors 0 (lit≤ tt) }

pub returns : goal.returns
returns c =
    elim (cases_eq c.args.operation 0) [
      | inl none ↦
          let called = c.ds_flush-answer.ensures.fills none in
          calls_by c.line_answer.result _ _ (FlushesAsLying c.args.board.now.contents) (λ t. FlushLine t c.args.operation) _ _ called
          (λ t left. (c.ds_flush-answer.result, record { events = called.events; kind = flushes_lying _ c.args.operation c.ds_flush-answer.result _ called.events none c.ds_flush-answer.ensures.entries.kind called.kind; is = refl }))
          (λ h left. flush_fills _ _ h called left) (flush_hands _ _ called)
          (λ h left. flush_leaves _ _ h called (c.ds_flush-answer.ensures.to_output none) left)
          (lifted_emptied c.args.board.now c.ds_flush-answer.new.self c.args.board.now.board.pool (c.ds_flush-answer.ensures.to_output none)) c.requires.ready c.line_answer.ensures
      | inr some ↦
          quiet_calls c.line_answer.result _ _ (Flushes c.args.operation c.ds_flush-answer.result) (λ t. FlushLine t c.args.operation) _ _ (flush_quiet c.args.operation c.ds_flush-answer.result some)
          (λ t es kind. (c.ds_flush-answer.result, record { events = es; kind = kind; is = refl })) c.requires.ready c.ds_flush-answer.ensures.entries (c.ds_flush-answer.ensures.others some) c.line_answer.ensures
    ]
