use Rattle.std.proofs.Common.{◌≡◌, refl, sym, inl, inr, arith}
use Rattle.board_machine.specs.Places.{times}
use Rattle.board_machine.proofs.Places.{any_times, none_times}
use Rattle.board_model.proofs.CallsInfo.{looked_for, is_one, is_zero}
use Rattle.board_model.proofs.board.PlainBoard.queued_value.Goals as goal

pub returns-then-contains-clause-entries : goal.returns-then-contains-clause-entries
returns-then-contains-clause-entries c =
    looked_for _ _ _ _ c.args.place 1 _ _ _
    (is_one c.args.place c.look_pool-pooled.result.items c.look_out-output.result.0.items c.as_slice.result.now c.look_out-output.result.0.items c.as_slice.ensures.value refl (inl (any_times c.args.place c.as_slice.result.now (sym c.if-contains.ensures.value))))
    c.look_pool-pooled.ensures.step c.look_out-output.ensures.step

pub returns-then-contains-2-clause-entries : goal.returns-then-contains-2-clause-entries
returns-then-contains-2-clause-entries c =
    looked_for _ _ _ _ c.args.place 1 _ _ _
    (is_one c.args.place c.look_pool-pooled.result.items c.look_out-output.result.0.items c.as_slice.result.now c.as_slice-2.result.now c.as_slice.ensures.value c.as_slice-2.ensures.value (inr (any_times c.args.place c.as_slice-2.result.now (sym c.if-contains-2.ensures.value))))
    c.look_pool-pooled.ensures.step c.look_out-output.ensures.step

pub returns-else-contains-2-clause-entries : goal.returns-else-contains-2-clause-entries
returns-else-contains-2-clause-entries c =
    let none : times c.args.place c.as_slice.result.now ≡ 0 = none_times c.args.place c.as_slice.result.now (sym c.if-contains.ensures.value) in
    let none_too : times c.args.place c.as_slice-2.result.now ≡ 0 = none_times c.args.place c.as_slice-2.result.now (sym c.if-contains-2.ensures.value) in
    looked_for _ _ _ _ c.args.place 0 _ _ _
    (is_zero c.args.place c.look_pool-pooled.result.items c.look_out-output.result.0.items c.as_slice.result.now c.as_slice-2.result.now c.as_slice.ensures.value c.as_slice-2.ensures.value (λ some. omega (arith, some, none)) (λ some. omega (arith, some, none_too)))
    c.look_pool-pooled.ensures.step c.look_out-output.ensures.step
