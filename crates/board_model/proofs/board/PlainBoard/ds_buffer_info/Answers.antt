use Rattle.std.proofs.Common.{refl, inl, arith, rules}
use Rattle.board_machine.proofs.Adding.{adds_kind}
use Rattle.board_model.proofs.CallsInfo.{told_queued}
use Rattle.board_model.proofs.board.PlainBoard.ds_buffer_info.Goals as goal

pub returns-in-1-clause-entries : goal.returns-in-1-clause-entries
returns-in-1-clause-entries c =
    adds_kind _ _ _ _ _ tt
    (record {
      in_range = omega arith;
      word = c.load-word.result;
      live = c.if-is_gone.ensures;
      known = inl c.in-1.is;
      size = λ e. record { is = refl; value = first_of (search rules, grind arith) };
      queued = λ e. absurd (omega (arith, c.in-1.is, e));
    })
    c.load-word.ensures.step

pub returns-in-1000-clause-entries : goal.returns-in-1000-clause-entries
returns-in-1000-clause-entries c =
    told_queued _ _ _ _ c.args.which c.queued_value.result c.args.id c.load-word.result c.in-1000.is (omega arith) c.if-is_gone.ensures c.load-word.ensures.step c.queued_value.ensures.entries

pub returns-in_default-clause-entries : goal.returns-in_default-clause-entries
returns-in_default-clause-entries c =
    adds_kind _ _ _ _ _ tt (omega arith, refl, λ e. omega arith, λ e. omega arith, (c.load-word.result, c.if-is_gone.ensures, refl)) c.load-word.ensures.step
