use Rattle.std.proofs.Common.{refl, inl, arith, rules}
use Rattle.buffer_words.proofs.Several.{of_one}
use Rattle.gentl_stream.proofs.Informing.{told_queued}
use Rattle.gentl_stream.proofs.info.ds_buffer_info.Goals as goal

pub returns-then-is_gone-clause-entries : goal.returns-then-is_gone-clause-entries
returns-then-is_gone-clause-entries c = of_one _ _ _ _ (omega arith, c.if-is_gone.ensures, refl) refl c.load-word.ensures.entry

pub returns-in-1-clause-entries : goal.returns-in-1-clause-entries
returns-in-1-clause-entries c =
    of_one _ _ _ _
    (record {
      in_range = omega arith;
      word = c.load-word.result;
      live = c.if-is_gone.ensures;
      known = inl c.in-1.is;
      size = λ e. record { is = refl; value = first_of (search rules, grind arith) };
      queued = λ e. absurd (omega (arith, c.in-1.is, e));
    })
    refl c.load-word.ensures.entry

pub returns-in-1000-clause-entries : goal.returns-in-1000-clause-entries
returns-in-1000-clause-entries c =
    told_queued _ _ _ c.args.which c.queued_value.result c.args.id c.load-word.result c.in-1000.is (omega arith) c.if-is_gone.ensures c.load-word.ensures.entry c.queued_value.ensures.entries

pub returns-in_default-clause-entries : goal.returns-in_default-clause-entries
returns-in_default-clause-entries c =
    of_one _ _ _ _ (omega arith, refl, λ e. omega arith, λ e. omega arith, (c.load-word.result, c.if-is_gone.ensures, refl)) refl c.load-word.ensures.entry
