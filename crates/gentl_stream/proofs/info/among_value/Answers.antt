use Rattle.std.proofs.Common.{sym, refl, inl, inr, arith}
use Rattle.board_machine.proofs.Places.{any_times, none_times}
use Rattle.gentl_stream.proofs.info.among_value.Goals as goal

pub returns-then-contains : goal.returns-then-contains
returns-then-contains c = inl (refl, omega (arith, any_times c.args.place c.args.pooled.now (sym c.if-contains.ensures.value)))

pub returns-then-contains-2 : goal.returns-then-contains-2
returns-then-contains-2 c = inl (refl, omega (arith, any_times c.args.place c.args.output.now (sym c.if-contains-2.ensures.value)))

pub returns-else-contains-2 : goal.returns-else-contains-2
returns-else-contains-2 c =
    inr (refl, λ some. omega (arith, some, none_times c.args.place c.args.pooled.now (sym c.if-contains.ensures.value), none_times c.args.place c.args.output.now (sym c.if-contains-2.ensures.value)))
