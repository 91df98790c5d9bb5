use Rattle.std.proofs.Common.{◌≡◌, ◌+◌, ◌∷◌, ℕ, ap, sym, ◌∙◌, arith}
use Rattle.board_machine.specs.Places.{tail}
use Rattle.board_model.specs.Collected.{collect}
use Rattle.board_model.proofs.Collected.{first_shown, none_shown}
use Rattle.board_model.proofs.places.Places.first.Goals as goal

pub returns-then-self-place : goal.returns-then-self-place
returns-then-self-place c =
    let here : 0 + c.loop-place.place ≡ c.loop-place.place = omega arith in (
      omega (arith, c.loop-place-test.true),
      rw (← c.self.view_is)
          (first_shown 0 c.loop-place.place c.self.inside.flags c.loop-place.invariant c.if-self-place.true
          ∙ ap (λ (m : ℕ). m ∷ tail (collect 0 c.self.inside.flags)) here),
    )

pub returns : goal.returns
returns c =
    sym c.self.view_is ∙ none_shown 0 c.loop-place.place c.self.inside.flags (omega (arith, c.self.told, c.loop-place-test.false)) c.loop-place.invariant
