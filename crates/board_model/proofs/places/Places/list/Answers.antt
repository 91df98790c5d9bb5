use Rattle.std.proofs.Common.{◌<◌, ap, ◌∙◌, length, take, arith, lit<}
use Rattle.gev_types.specs.Limits.{place_count}
use Rattle.std.proofs.lemmas.List.{length-take}
use Rattle.board_model.proofs.Collected.{list_set, list_clear, length_collect}
use Rattle.board_model.proofs.places.Places.list.Goals as goal
use Rattle.board_model.proofs.places.Places.list.Goals.{then-self-place, else-self-place}

pub push-requires : goal.push-requires
push-requires c =
    let few : length c.loop-place.list.items < place_count =
    omega (arith, ap length c.loop-place.invariant, length_collect 0 (take c.loop-place.place c.self.inside.flags), length-take c.loop-place.place c.self.inside.flags, c.self.told, c.loop-place-test.true)
    in
    (lit< tt, few)

pub loop-place-preserved : goal.loop-place-preserved
loop-place-preserved c =
    elim c.if-self-place.branch [
      | then-self-place w ↦
          list_set c.loop-place.place c.self.inside.flags c.loop-place.list.items c.if-self-place.list.items w.if-self-place.true c.loop-place.invariant
          (ap (λ xs. xs.items) w.list-is ∙ w.push.ensures.items)
      | else-self-place w ↦
          list_clear c.loop-place.place c.self.inside.flags c.loop-place.list.items c.if-self-place.list.items w.if-self-place.false c.loop-place.invariant
          (ap (λ xs. xs.items) w.list-is)
    ]
