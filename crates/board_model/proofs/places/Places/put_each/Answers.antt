use Rattle.std.proofs.Common.{◌≡◌, ℕ, ◌+◌, ◌≤◌, true, List, take, get_or, sym, subst, ◌∙◌, arith}
use Rattle.std.proofs.lemmas.List.{length-set, take_all}
use Rattle.board_machine.specs.Places.{times}
use Rattle.board_model.specs.Collected.{collect}
use Rattle.board_model.proofs.Collected.{ArePut, put_next, put_each_shown, times_at}
use Rattle.board_model.proofs.places.Places.put_each.Goals as goal

pub bounds-self-inside-place : goal.bounds-self-inside-place
bounds-self-inside-place c = c.requires.in_range (get_or c.args.places.now c.loop-place.place-index 0) (times_at c.loop-place.place-index c.args.places.now c.loop-place-test.true)

pub loop-place-preserved : goal.loop-place-preserved
loop-place-preserved c =
    let missing : (i : ℕ) → times i c.args.places.now + times i (collect 0 c.self.inside.flags) ≤ 1 =
    subst (λ (xs : List ℕ). (i : ℕ) → times i c.args.places.now + times i xs ≤ 1) (sym c.self.view_is) c.requires.missing
    in (
      length-set c.loop-place.self-inside.flags (get_or c.args.places.now c.loop-place.place-index 0) true ∙ c.loop-place.invariant.0,
      put_next c.args.places.now c.loop-place.place-index c.self.inside.flags c.loop-place.self-inside.flags c.loop-place.invariant.0 c.loop-place-test.true c.requires.in_range missing c.loop-place.invariant.1,
    )

pub returns : goal.returns
returns c =
    let missing : (i : ℕ) → times i c.args.places.now + times i (collect 0 c.self.inside.flags) ≤ 1 =
    subst (λ (xs : List ℕ). (i : ℕ) → times i c.args.places.now + times i xs ≤ 1) (sym c.self.view_is) c.requires.missing
    in
    let all : take c.loop-place.place-index c.args.places.now ≡ c.args.places.now = take_all c.loop-place.place-index c.args.places.now (omega (arith, c.loop-place-test.false)) in
    let put : ArePut c.args.places.now c.self.inside.flags c.loop-place.self-inside.flags = subst (λ (xs : List ℕ). ArePut xs c.self.inside.flags c.loop-place.self-inside.flags) all c.loop-place.invariant.1 in
    rw (← c.self.view_is)
    (put_each_shown c.args.places.now c.self.inside.flags c.loop-place.self-inside.flags missing put)
