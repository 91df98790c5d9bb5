use Rattle.std.proofs.Common.{refl, ap, ◌∙◌}
use Rattle.std.specs.Prelude.{nat_lt, not}
use Rattle.std.specs.List.{prefix_len}
use Rattle.acq_core.specs.declared.slot.Slot.{Slot}
use Rattle.acq_core.specs.Giving.{given_as}
use Rattle.acq_core.proofs.Opening.{some_spare, opens_gives}
use Rattle.acq_core.proofs.giving.open.Goals as goal

pub next_spare-spare-requires-clause-some : goal.next_spare-spare-requires-clause-some
next_spare-spare-requires-clause-some c = some_spare c.args.window.now c.args.block c.requires.acts c.requires.room c.requires.asked

pub returns-clause-gives : goal.returns-clause-gives
returns-clause-gives c s acts sound =
    opens_gives c.args.window.now _ s c.args.block c.place_for-at.result _ (given_as c.args.answer) refl acts sound c.requires.asked
    (c.place_for-at.ensures.place ∙ ap (prefix_len (λ (x : Slot). not (nat_lt c.args.block x.block))) c.as_slice.ensures.value) c.put_in.ensures.slots
    (record { block = refl; hold = c.hold.ensures; last = refl; rounds = refl; round_at = refl }) c.count_underrun.ensures
